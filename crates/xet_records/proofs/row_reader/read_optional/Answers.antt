use Rattle.xet_records.proofs.Reading.{reads_one_row}
use Rattle.xet_records.proofs.row_reader.read_optional.Goals as goal

pub returns-in_ok-read_input_row-clause-value : goal.returns-in_ok-read_input_row-clause-value
returns-in_ok-read_input_row-clause-value g c = rw c.if-wanted.true (reads_one_row _ _ _ _ _ c.in_ok-read_input_row.ensures)
