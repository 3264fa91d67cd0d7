use Rattle.std.proofs.Common.{take}
use Rattle.std.specs.Prelude.{All}
use Rattle.placed_shards.proofs.placed_record.all_stored.Given as goal

abbrev pub invariant-loop-record : goal.invariant-loop-record
invariant-loop-record g l = All g.P.PlacedRecord.kind.IsStored (take l.record-index l.records)
