use Rattle.std.proofs.Common.{◌≡◌, take}
use Rattle.xet_shards.specs.Write.Section.{total_rows}
use Rattle.placed_shards.proofs.sink.rows_of.Given as goal

abbrev pub invariant-loop-record : goal.invariant-loop-record
invariant-loop-record g l = l.size ≡ total_rows g.P.PlacedRecord.kind (take l.record-index l.records)
