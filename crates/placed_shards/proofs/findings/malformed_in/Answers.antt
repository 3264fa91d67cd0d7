use Rattle.std.proofs.Common.{◌≡◌, List, Option, subst}
use Rattle.xet_base.specs.declared.merklehash.DataHash.{DataHash}
use Rattle.xet_records.specs.FileRecord.{file_records, IsWellFormed}
use Rattle.xet_records.specs.RecordKind.{RecordKind}
use Rattle.xet_records.specs.XorbRecord.{xorb_records, IsXorb}
use Rattle.placed_shards.specs.Steps.Malformed.{FindsMalformed}
use Rattle.placed_shards.proofs.MalformedRecords.{malformed_file, malformed_xorb, both_formed}
use Rattle.placed_shards.proofs.findings.malformed_in.Goals as goal

-- the same of equal lists and answers
same_found : {H R : Type 0} (K : RecordKind H R) (IsFormed : R → Type 0) (rs ss : List R) (o p : Option DataHash) → rs ≡ ss → o ≡ p → FindsMalformed K IsFormed rs o → FindsMalformed K IsFormed ss p
same_found K IsFormed rs ss o p lists answers found = subst (λ l. FindsMalformed K IsFormed l p) lists (subst (FindsMalformed K IsFormed rs) answers found)

pub returns-in-Some : goal.returns-in-Some
returns-in-Some c =
    malformed_file c.args.shard.now c.requires.read c.requires.ascend c.in-Some.hash (same_found file_records IsWellFormed _ _ _ _ c.as_slice.ensures.value c.in-Some.is c.find_malformed_record-file.ensures)

pub returns-in-Some-xorb : goal.returns-in-Some-xorb
returns-in-Some-xorb c =
    malformed_xorb c.args.shard.now c.requires.read c.requires.ascend c.in-Some-xorb.hash (same_found xorb_records IsXorb _ _ _ _ c.as_slice-2.ensures.value c.in-Some-xorb.is c.find_malformed_record-xorb.ensures)

pub returns-in-None : goal.returns-in-None
returns-in-None c =
    both_formed c.args.shard.now c.requires.read c.requires.ascend (same_found file_records IsWellFormed _ _ _ _ c.as_slice.ensures.value c.in_default.is c.find_malformed_record-file.ensures)
    (same_found xorb_records IsXorb _ _ _ _ c.as_slice-2.ensures.value c.in-None.is c.find_malformed_record-xorb.ensures)
