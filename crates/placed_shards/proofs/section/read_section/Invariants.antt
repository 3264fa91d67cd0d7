use Rattle.xet_records.specs.RecordKind.{in_version}
use Rattle.placed_shards.proofs.Sections.{HasTaken}
use Rattle.placed_shards.proofs.section.read_section.Given as goal

abbrev pub invariant-loop-records : goal.invariant-loop-records
invariant-loop-records g l = HasTaken (in_version g.P.PlacedRecord.kind l.version) l.bytes l.records.items l.rest l.rows_left

abbrev pub decreases-loop-records : goal.decreases-loop-records
decreases-loop-records g l = l.rows_left
