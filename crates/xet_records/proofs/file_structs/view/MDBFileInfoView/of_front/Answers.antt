use Rattle.std.proofs.Common.{take, sym, ap, ◌∙◌, subst}
use Rattle.xet_records.specs.FileRow.{header_row, FitsHeader}
use Rattle.xet_records.specs.FileRecord.{file_records}
use Rattle.xet_records.specs.View.{IsWholeFile}
use Rattle.xet_records.proofs.Views.{header_begins}
use Rattle.xet_records.proofs.file_structs.view.MDBFileInfoView.of_front.Goals as goal

pub cut-requires : goal.cut-requires
cut-requires c =
    let read = c.in_ok-header.ensures in
    header_begins file_records IsWholeFile _ _ (subst FitsHeader read.returned read.widths)
    (ap (take 48) (sym c.as_slice.ensures) ∙ sym read.taken.1 ∙ ap header_row read.returned)
