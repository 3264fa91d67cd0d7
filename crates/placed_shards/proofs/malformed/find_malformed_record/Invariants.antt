use Rattle.std.proofs.Common.{take}
use Rattle.std.specs.Prelude.{All}
use Rattle.placed_shards.proofs.malformed.find_malformed_record.Given as goal

abbrev pub invariant-loop-record : goal.invariant-loop-record
invariant-loop-record g l = All (λ r. g.P.RecordRule.IsFormed (g.P.PlacedRecord.kind.as_read r)) (take l.record-index l.records)
