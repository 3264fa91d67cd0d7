use Rattle.std.proofs.Common.{◌+◌, Some, sym, ap, ◌∙◌, arith}
use Rattle.std.specs.Prelude.{option_map}
use Rattle.xet_records.specs.declared.file_structs.part.OptionalPart.TheVariants.{Verification}
use Rattle.xet_records.specs.FileRow.{hash_row, FitsHashRow, clear}
use Rattle.xet_records.specs.FileRecord.{file_records}
use Rattle.xet_records.specs.View.{IsWholeFile}
use Rattle.xet_records.proofs.RowsWithin.{hash_laws, rows_within, row_at_index}
use Rattle.xet_records.proofs.Views.{shown_as, has_part_rows, part_small}
use Rattle.xet_records.proofs.file_structs.view.MDBFileInfoView.verification.Goals as goal

pub overflow_add-start : goal.overflow_add-start
overflow_add-start c =
    let shown = shown_as file_records IsWholeFile c.self.inside.header _ c.as_slice.result.now _ _ (sym c.as_slice.ensures) c.self.view_is c.self.invariant in
    omega (arith, part_small _ _ _ shown Verification, c.requires, c.start_of-start.ensures.rows)

pub row-requires : goal.row-requires
row-requires c =
    let shown = shown_as file_records IsWholeFile c.self.inside.header _ c.as_slice.result.now _ _ (sym c.as_slice.ensures) c.self.view_is c.self.invariant in
    omega (arith, rows_within hash_row FitsHashRow hash_laws _ _ _ (has_part_rows _ _ _ shown Verification), c.requires, c.start_of-start.ensures.rows)

pub returns : goal.returns
returns c =
    let shown = shown_as file_records IsWholeFile c.self.inside.header _ c.as_slice.result.now _ _ (sym c.as_slice.ensures) c.self.view_is c.self.invariant in
    let found = row_at_index hash_row FitsHashRow hash_laws _ _ _ _ _ _ _ (has_part_rows _ _ _ shown Verification) c.requires
    (ap (λ n. n + c.args.index) c.start_of-start.ensures.rows) c.row.ensures in
    ap (option_map clear) found.1 ∙ ap Some found.2
