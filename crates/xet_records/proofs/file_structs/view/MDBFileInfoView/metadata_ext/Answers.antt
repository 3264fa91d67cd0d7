use Rattle.std.proofs.Common.{◌≡◌, Bool, sym, ap, ◌∙◌, length, arith, if◌then◌else◌}
use Rattle.std.specs.Prelude.{option_to_list}
use Rattle.xet_records.specs.declared.file_structs.part.OptionalPart.TheVariants.{MetadataExt}
use Rattle.xet_records.specs.FileRow.{hash_row, FitsHashRow}
use Rattle.xet_records.specs.FileRecord.{file_records}
use Rattle.xet_records.specs.View.{IsWholeFile}
use Rattle.xet_records.proofs.RowsWithin.{hash_laws, rows_within, row_at_index}
use Rattle.xet_records.proofs.Views.{shown_as, part_count, has_part_rows, the_row, no_row}
use Rattle.xet_records.proofs.file_structs.view.MDBFileInfoView.metadata_ext.Goals as goal

pub returns-then-not-contains_metadata_ext : goal.returns-then-not-contains_metadata_ext
returns-then-not-contains_metadata_ext c =
    let shown = shown_as file_records IsWholeFile c.self.inside.header _ c.as_slice-bytes.result.now _ _ (sym c.as_slice-bytes.ensures) c.self.view_is c.self.invariant in
    no_row c.args.self.now.metadata_ext
    (part_count _ _ _ shown MetadataExt ∙ ap (λ (b : Bool). if b then 1 else 0) (sym c.contains_metadata_ext.ensures ∙ c.if-not-contains_metadata_ext.true))

pub row-requires : goal.row-requires
row-requires c =
    let shown = shown_as file_records IsWholeFile c.self.inside.header _ c.as_slice-bytes.result.now _ _ (sym c.as_slice-bytes.ensures) c.self.view_is c.self.invariant in
    let one : length (option_to_list c.args.self.now.metadata_ext) ≡ 1 =
    part_count _ _ _ shown MetadataExt ∙ ap (λ (b : Bool). if b then 1 else 0) (sym c.contains_metadata_ext.ensures ∙ c.if-not-contains_metadata_ext.false) in
    omega (arith, rows_within hash_row FitsHashRow hash_laws _ _ _ (has_part_rows _ _ _ shown MetadataExt), one, c.start_of.ensures.rows)

pub returns : goal.returns
returns c =
    let shown = shown_as file_records IsWholeFile c.self.inside.header _ c.as_slice-bytes.result.now _ _ (sym c.as_slice-bytes.ensures) c.self.view_is c.self.invariant in
    let one : length (option_to_list c.args.self.now.metadata_ext) ≡ 1 =
    part_count _ _ _ shown MetadataExt ∙ ap (λ (b : Bool). if b then 1 else 0) (sym c.contains_metadata_ext.ensures ∙ c.if-not-contains_metadata_ext.false) in
    let found = row_at_index hash_row FitsHashRow hash_laws _ _ _ _ 0 _ _ (has_part_rows _ _ _ shown MetadataExt) (omega (arith, one))
    (omega (arith, c.start_of.ensures.rows)) c.row.ensures in
    the_row c.args.self.now.metadata_ext _ _ found.1 found.2
