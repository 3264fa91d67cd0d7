use Rattle.std.proofs.Common.{Some, refl, sym, ap, ◌∙◌, arith}
use Rattle.xet_records.specs.FileRow.{segment_row, FitsSegment}
use Rattle.xet_records.specs.FileRecord.{file_records}
use Rattle.xet_records.specs.View.{IsWholeFile}
use Rattle.xet_records.proofs.RowsWithin.{segment_laws, rows_within, row_at_index}
use Rattle.xet_records.proofs.Views.{shown_as, has_segments}
use Rattle.xet_records.proofs.file_structs.view.MDBFileInfoView.entry.Goals as goal

pub row-requires : goal.row-requires
row-requires c =
    let shown = shown_as file_records IsWholeFile c.self.inside.header _ c.as_slice.result.now _ _ (sym c.as_slice.ensures) c.self.view_is c.self.invariant in
    omega (arith, rows_within segment_row FitsSegment segment_laws _ _ _ (has_segments _ _ _ shown), c.requires)

pub returns : goal.returns
returns c =
    let shown = shown_as file_records IsWholeFile c.self.inside.header _ c.as_slice.result.now _ _ (sym c.as_slice.ensures) c.self.view_is c.self.invariant in
    let found = row_at_index segment_row FitsSegment segment_laws _ _ _ _ _ _ _ (has_segments _ _ _ shown) c.requires refl c.row.ensures in
    found.1 ∙ ap Some found.2
