use Rattle.std.proofs.Common.{ap, arith}
use Rattle.xet_records.specs.FileRecord.{rows_after}
use Rattle.xet_records.specs.View.{as_kept}
use Rattle.xet_records.proofs.Record.{rows_whole}
use Rattle.xet_records.proofs.file_structs.view.MDBFileInfoView.byte_size_of_kept.Goals as goal

pub returns : goal.returns
returns c =
    let rows = rows_whole (as_kept c.args.kept c.args.self.now) c.kept_header.ensures.fits in
    omega (arith, rows, ap rows_after c.kept_header.ensures.header, c.rows_after-rows.ensures.rows)
