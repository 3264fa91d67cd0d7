use Rattle.xet_records.specs.RecordKind.{in_version}
use Rattle.xet_records.specs.Reading.{HasRead}
use Rattle.xet_records.proofs.record_reader.read_section.Given as goal

abbrev pub invariant-loop-records : goal.invariant-loop-records
invariant-loop-records g l = HasRead (in_version g.R.SectionRecord.kind l.version) (g.I.ByteInput.reads l.fn.input l.input) l.records.items l.rows_left

abbrev pub decreases-loop-records : goal.decreases-loop-records
decreases-loop-records g l = l.rows_left
