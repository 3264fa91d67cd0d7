use Rattle.std.proofs.Common.{◌≡◌, sym, ap, ◌∙◌, length, flat_map, arith, subst}
use Rattle.std.specs.Io.KnownBytes.{Appends}
use Rattle.xet_records.specs.FileRow.{hash_row, FitsHashRow}
use Rattle.xet_records.specs.Part.{rows_of}
use Rattle.xet_records.specs.FileRecord.{file_records}
use Rattle.xet_records.specs.View.{IsWholeFile, as_kept}
use Rattle.xet_records.proofs.RowsWithin.{hash_laws, rows_within, bytes_of_rows}
use Rattle.xet_records.proofs.Views.{shown_as, has_part_rows}
use Rattle.xet_records.proofs.KeptParts.{part-kept, fewer-kept}
use Rattle.xet_records.proofs.file_structs.view.MDBFileInfoView.write_part.Goals as goal

pub part-requires : goal.part-requires
part-requires g c =
    let shown = shown_as file_records IsWholeFile c.self.inside.header _ c.as_slice-bytes.result.now _ _ (sym c.as_slice-bytes.ensures) c.self.view_is c.self.invariant in
    omega (
      arith,
      rows_within hash_row FitsHashRow hash_laws _ _ _ (has_part_rows _ _ _ shown c.args.part),
      fewer-kept c.args.kept c.args.self.now c.args.part,
      c.kept_rows-rows.ensures.rows,
      c.start_of.ensures.rows,
    )

pub returns-clause-bytes : goal.returns-clause-bytes
returns-clause-bytes g c =
    let shown = shown_as file_records IsWholeFile c.self.inside.header _ c.as_slice-bytes.result.now _ _ (sym c.as_slice-bytes.ensures) c.self.view_is c.self.invariant in
    let s = as_kept c.args.kept c.args.self.now in
    let contents = g.W.Write.contents in
    let same : rows_of c.args.part s ≡ rows_of c.args.part c.args.self.now = part-kept c.args.kept c.args.self.now shown.whole.parts c.args.part _ c.kept_rows-rows.ensures.rows c.if-rows-eq0.false in
    subst (Appends (contents c.args.writer.now) (contents c.write_bytes.new.writer))
    (c.part.ensures.bytes ∙ bytes_of_rows hash_row FitsHashRow hash_laws _ _ _ _ _ (has_part_rows _ _ _ shown c.args.part) c.start_of.ensures.rows (c.kept_rows-rows.ensures.rows ∙ ap length same)
    ∙ ap (flat_map hash_row) (sym same))
    c.in_ok-write_bytes.ensures.bytes
