use Rattle.std.proofs.Common.{arith}
use Rattle.xet_records.proofs.Record.{rows_whole}
use Rattle.xet_records.proofs.file_structs.MDBFileInfo.num_bytes.Goals as goal

pub returns : goal.returns
returns c = omega (arith, rows_whole _ c.requires, c.rows_after.ensures.rows)
