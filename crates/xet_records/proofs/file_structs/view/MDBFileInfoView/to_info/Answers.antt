use Rattle.std.proofs.Common.{◌∙◌, refl, sym, arith}
use Rattle.std.proofs.lemmas.List.{map-id}
use Rattle.xet_records.specs.declared.file_structs.part.OptionalPart.TheVariants.{Verification}
use Rattle.xet_records.specs.FileRow.{segment_row, hash_row, FitsSegment, FitsHashRow, clear}
use Rattle.xet_records.specs.FileRecord.{file_records}
use Rattle.xet_records.specs.View.{IsWholeFile}
use Rattle.xet_records.proofs.RowsWithin.{segment_laws, hash_laws, rows_within, rows_from_index}
use Rattle.xet_records.proofs.Views.{shown_as, part_count, has_segments, has_part_rows}
use Rattle.xet_records.proofs.Parts.{row-returned}
use Rattle.xet_records.proofs.file_structs.view.MDBFileInfoView.to_info.Goals as goal

pub rows-requires : goal.rows-requires
rows-requires c =
    let shown = shown_as file_records IsWholeFile c.self.inside.header _ c.as_slice-bytes.result.now _ _ (sym c.as_slice-bytes.ensures) c.self.view_is c.self.invariant in
    omega (arith, rows_within segment_row FitsSegment segment_laws _ _ _ (has_segments _ _ _ shown), c.num_entries-segments.ensures)

pub rows-requires-2 : goal.rows-requires-2
rows-requires-2 c =
    let shown = shown_as file_records IsWholeFile c.self.inside.header _ c.as_slice-bytes.result.now _ _ (sym c.as_slice-bytes.ensures) c.self.view_is c.self.invariant in
    omega (
      arith,
      rows_within hash_row FitsHashRow hash_laws _ _ _ (has_part_rows _ _ _ shown Verification),
      c.start_of-start.ensures.rows,
      part_count _ _ _ shown Verification,
      c.part_rows-count.ensures,
    )

pub returns-clause-ok : goal.returns-clause-ok
returns-clause-ok c =
    let shown = shown_as file_records IsWholeFile c.self.inside.header _ c.as_slice-bytes.result.now _ _ (sym c.as_slice-bytes.ensures) c.self.view_is c.self.invariant in
    let segments = rows_from_index segment_row FitsSegment segment_laws (λ s. s) _ _ _ _ _ _ (has_segments _ _ _ shown) refl c.num_entries-segments.ensures c.in_ok-rows.ensures.ok in
    let verification = rows_from_index hash_row FitsHashRow hash_laws clear _ _ _ _ _ _ (has_part_rows _ _ _ shown Verification)
    c.start_of-start.ensures.rows (c.part_rows-count.ensures ∙ sym (part_count _ _ _ shown Verification)) c.in_ok-rows-2.ensures.ok in
    λ i. record {
      metadata = sym shown.same_header i;
      segments = (segments ∙ map-id _) i;
      verification = verification i;
      metadata_ext = (c.metadata_ext.ensures ∙ sym (row-returned c.args.self.now.metadata_ext)) i;
      aux_ext = (c.aux_ext.ensures ∙ sym (row-returned c.args.self.now.aux_ext)) i;
    }
