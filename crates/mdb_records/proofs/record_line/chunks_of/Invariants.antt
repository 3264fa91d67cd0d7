use Rattle.std.proofs.Common.{◌≡◌, take, map}
use Rattle.mdb_records.specs.RecordReports.{chunk_row_of}
use Rattle.mdb_records.proofs.record_line.chunks_of.Given as goal

abbrev pub invariant-loop-row : goal.invariant-loop-row
invariant-loop-row l = map chunk_row_of l.made ≡ take l.row-index l.rows
