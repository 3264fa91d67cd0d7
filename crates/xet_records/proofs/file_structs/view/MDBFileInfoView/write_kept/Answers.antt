use Rattle.std.proofs.Common.{refl, sym, ap, ◌∙◌, [], take, get_or, flat_map, arith, subst}
use Rattle.std.specs.Io.KnownBytes.{Appends}
use Rattle.std.proofs.KnownBytes.{Appends-trans}
use Rattle.std.proofs.lemmas.List.{take_all, take_more, flat_map_more}
use Rattle.xet_records.specs.declared.file_structs.part.OptionalPart.{OptionalPart}
use Rattle.xet_records.specs.declared.file_structs.part.OptionalPart.TheVariants.{Verification}
use Rattle.xet_records.specs.FileRow.{header_row, segment_row, hash_row, FitsSegment}
use Rattle.xet_records.specs.Part.{parts, rows_of}
use Rattle.xet_records.specs.FileRecord.{file_records}
use Rattle.xet_records.specs.View.{IsWholeFile, as_kept}
use Rattle.xet_records.proofs.RowsWithin.{segment_laws, rows_within, bytes_of_rows}
use Rattle.xet_records.proofs.Views.{shown_as, has_segments}
use Rattle.xet_records.proofs.KeptParts.{segments_kept, parts_joined}
use Rattle.xet_records.proofs.file_structs.view.MDBFileInfoView.write_kept.Goals as goal

pub part-segments-requires : goal.part-segments-requires
part-segments-requires g c =
    let shown = shown_as file_records IsWholeFile c.self.inside.header _ c.as_slice.result.now _ _ (sym c.as_slice.ensures) c.self.view_is c.self.invariant in
    omega (arith, rows_within segment_row FitsSegment segment_laws _ _ _ (has_segments _ _ _ shown), c.num_entries.ensures)

pub loop-part-preserved : goal.loop-part-preserved
loop-part-preserved g c =
    let s = as_kept c.args.kept c.args.self.now in
    let contents = g.W.Write.contents in
    let bytes = λ (part : OptionalPart). flat_map hash_row (rows_of part s) in
    let i = c.loop-part.part-index in
    subst (Appends (contents c.write_bytes.new.writer) (contents c.write_part.new.writer))
    (flat_map_more bytes [] (take i parts) (get_or parts i Verification) ∙ ap (flat_map bytes) (sym (take_more parts i Verification c.loop-part-test.true)))
    (Appends-trans _ (contents c.loop-part.writer) _ _ _ c.loop-part.invariant c.in_ok-write_part.ensures.bytes)

pub returns-clause-bytes : goal.returns-clause-bytes
returns-clause-bytes g c =
    let shown = shown_as file_records IsWholeFile c.self.inside.header _ c.as_slice.result.now _ _ (sym c.as_slice.ensures) c.self.view_is c.self.invariant in
    let s = as_kept c.args.kept c.args.self.now in
    let contents = g.W.Write.contents in
    let segments = c.part-segments.ensures.bytes ∙ bytes_of_rows segment_row FitsSegment segment_laws _ _ _ _ _ (has_segments _ _ _ shown) refl c.num_entries.ensures
    ∙ ap (λ ss. flat_map segment_row ss) (sym (segments_kept c.args.kept c.args.self.now)) in
    let rows = subst (λ ps. Appends (contents c.write_bytes.new.writer) (contents c.loop-part.writer) (flat_map (λ part. flat_map hash_row (rows_of part s)) ps))
    (take_all c.loop-part.part-index parts c.loop-part-test.false) c.loop-part.invariant in
    subst (Appends (contents c.args.writer.now) (contents c.loop-part.writer)) (parts_joined s _ _ (ap header_row c.kept_header-header.ensures.header) segments)
    (Appends-trans _ (contents c.write_bytes.new.writer) _ _ _
    (Appends-trans _ (contents c.write_row.new.writer) _ _ _ c.in_ok-write_row.ensures.bytes c.in_ok-write_bytes.ensures.bytes) rows)
