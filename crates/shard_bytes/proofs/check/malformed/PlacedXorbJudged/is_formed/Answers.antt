use Rattle.std.proofs.Common.{◌∙◌}
use Rattle.xet_core_structures.specs.XorbRecord.{xorb_records}
use Rattle.xet_records.proofs.RecordKinds.{xorb_laws}
use Rattle.placed_shards.proofs.MalformedRecords.{bytes_behind, xorb_formed}
use Rattle.shard_bytes.proofs.check.malformed.PlacedXorbJudged.is_formed.Goals as goal

pub returns : goal.returns
returns c =
    let x = c.args.self.now in
    let formed = xorb_formed x c.is_stored.ensures.stored c.requires in
    let few = c.have_few_bytes.ensures x.chunks c.is_stored.ensures.stored.widths.chunks (c.split_at.ensures.back ∙ bytes_behind xorb_records xorb_laws x c.bytes.result.now c.bytes.ensures.bytes) in
    (λ yes. formed.0 (few.0 yes), λ is. few.1 (formed.1 is))
