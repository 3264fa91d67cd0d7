-- Steps towards what `Lookup` defines, which only contracts inside the crate speak of.
use Rattle.std.specs.Prelude.{ℕ, List, None}
use Rattle.xet_base.specs.declared.merklehash.DataHash.{DataHash}
use Rattle.xet_base.specs.Source.{Source, NoFailure}
use Rattle.xet_records.specs.RecordKind.{RecordKind}
use Rattle.xet_shards.specs.Lookup.Lookup.{LookupAnswer, Visits}

-- the records at these rows were read, and none of them has the hash
pub record NoneHasHash {H R : Type 0} (K : RecordKind H R) (offset : ℕ) (hash : DataHash) (rows : List ℕ)
    (old new : Source) : Type 0 where
  pub visits : Visits K 1 offset rows old new
  pub no_failure : NoFailure old new
  pub others : LookupAnswer K old.bytes offset hash None rows
