use Rattle.xet_records.specs.RecordKind.{in_version}
use Rattle.placed_shards.proofs.InRows.{HasWalked}
use Rattle.placed_shards.proofs.in_rows.take_rows.Given as goal

abbrev pub invariant-loop-rows_left : goal.invariant-loop-rows_left
invariant-loop-rows_left g l = HasWalked (in_version g.P.PlacedRecord.kind l.version) l.range l.count l.bytes l.records.items l.before l.rest l.rows_left

abbrev pub decreases-loop-rows_left : goal.decreases-loop-rows_left
decreases-loop-rows_left g l = l.rows_left
