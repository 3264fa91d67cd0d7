use Rattle.std.proofs.Common.{take, sym, ap, ◌∙◌, subst}
use Rattle.xet_records.specs.XorbRow.{xorb_header_row, FitsXorbHeader}
use Rattle.xet_records.specs.XorbRecord.{xorb_records}
use Rattle.xet_records.specs.View.{IsWholeXorb}
use Rattle.xet_records.proofs.Views.{header_begins}
use Rattle.xet_records.proofs.xorb_structs.view.MDBXorbInfoView.of_front.Goals as goal

pub cut-requires : goal.cut-requires
cut-requires c =
    let read = c.in_ok-header.ensures in
    header_begins xorb_records IsWholeXorb _ _ (subst FitsXorbHeader read.returned read.widths)
    (ap (take 48) (sym c.as_slice.ensures) ∙ sym read.taken.1 ∙ ap xorb_header_row read.returned)
