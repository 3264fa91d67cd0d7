use Rattle.xet_base.proofs.Errors.{write_error}
use Rattle.xet_records.proofs.row_copier.write_copied_row.Goals as goal

pub returns-in-Err-clause-causes : goal.returns-in-Err-clause-causes
returns-in-Err-clause-causes g c = write_error c.in-Err.error c.from.result c.in-Err.ensures.causes c.from.ensures
