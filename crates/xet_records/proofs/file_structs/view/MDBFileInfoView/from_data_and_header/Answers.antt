use Rattle.std.proofs.Common.{take, sym, ap, ◌∙◌}
use Rattle.xet_records.specs.FileRecord.{file_records}
use Rattle.xet_records.specs.View.{IsWholeFile}
use Rattle.xet_records.proofs.Views.{header_begins}
use Rattle.xet_records.proofs.file_structs.view.MDBFileInfoView.from_data_and_header.Goals as goal

pub cut-requires : goal.cut-requires
cut-requires c =
    header_begins file_records IsWholeFile _ _ c.widths.ensures
    (ap (take 48) (sym c.as_slice.ensures) ∙ c.in_ok-begins_with.ensures.1.0 c.if-not-branch.false)
