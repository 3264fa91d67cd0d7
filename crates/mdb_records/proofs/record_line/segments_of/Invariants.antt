use Rattle.std.proofs.Common.{◌≡◌, take, map}
use Rattle.mdb_records.specs.RecordReports.{segment_report}
use Rattle.mdb_records.proofs.record_line.segments_of.Given as goal

abbrev pub invariant-loop-row : goal.invariant-loop-row
invariant-loop-row l = map segment_report l.made ≡ take l.row-index l.rows
