use Rattle.std.proofs.Common.{◌≡◌, ◌+◌, true, false, ◌++◌, take, get_or, flat_map, refl, sym, ap, ◌∙◌, append-nil, arith, rules}
use Rattle.std.proofs.lemmas.List.{take_all, take_more, flat_map_more}
use Rattle.std.proofs.lemmas.List.Sums.{sum_by_more}
use Rattle.xet_records.specs.declared.file_structs.header.FileDataSequenceHeader.{FileDataSequenceHeader}
use Rattle.xet_records.specs.declared.file_structs.part.OptionalPart.{OptionalPart}
use Rattle.xet_records.specs.declared.file_structs.part.OptionalPart.TheVariants.{Verification}
use Rattle.xet_records.specs.FileRow.{header_row, segment_row, hash_row, FitsSegment}
use Rattle.xet_records.specs.Part.{parts, part_rows, rows_of}
use Rattle.xet_records.specs.View.{as_kept}
use Rattle.xet_records.specs.Steps.ViewSteps.{keeps}
use Rattle.xet_records.proofs.KeptParts.{segments_kept, parts_joined}
use Rattle.xet_records.proofs.RowsWithin.{segment_laws, bytes_of_rows}
use Rattle.xet_records.proofs.Views.{has_segments}
use Rattle.placed_shards.proofs.Kept.{start_of, part_is_within, part_bytes, rows_stay, no_rows_stay}
use Rattle.placed_shards.proofs.Shown.{file_shown}
use Rattle.placed_shards.proofs.optional_parts.kept_bytes.Goals as goal
use Rattle.placed_shards.proofs.optional_parts.kept_bytes.Goals.{then-is_kept+in_ok-extend_from_slice-3, else-is_kept}

pub part-requires-then-is_kept : goal.part-requires-then-is_kept
part-requires-then-is_kept c =
    let r = c.args.file.now in
    let i = c.loop-part.part-index in
    let bytes = c.bytes-then-is_kept.result.now in
    let shown = file_shown r bytes c.is_stored.ensures.stored c.is_stored.ensures.rows c.bytes-then-is_kept.ensures.bytes in
    part_is_within r bytes shown i c.loop-part-test.true c.loop-part.at c.part_rows-rows.result
    (c.loop-part.invariant.start ∙ ap (λ (h : FileDataSequenceHeader). start_of h i) c.header-header.ensures)
    (c.part_rows-rows.ensures ∙ ap (part_rows (get_or parts i Verification)) c.header-header.ensures)

pub loop-part-preserved : goal.loop-part-preserved
loop-part-preserved c =
    let r = c.args.file.now in
    let kept = c.args.kept in
    let stored = c.is_stored.ensures.stored in
    let i = c.loop-part.part-index in
    let part = get_or parts i Verification in
    let bytes_of = λ (p : OptionalPart). flat_map hash_row (rows_of p (as_kept kept r)) in
    let start = c.extend_from_slice-2.new.self.items in
    let more : (start ++ flat_map bytes_of (take i parts)) ++ bytes_of part ≡ start ++ flat_map bytes_of (take (i + 1) parts) =
    flat_map_more bytes_of start (take i parts) part ∙ ap (λ ps. start ++ flat_map bytes_of ps) (sym (take_more parts i Verification c.loop-part-test.true)) in
    record {
      start = omega (arith, c.loop-part.invariant.start, c.part_rows-rows.ensures, sum_by_more (λ (p : OptionalPart). part_rows p c.header-header.result) parts i Verification c.loop-part-test.true);
      items = elim c.if-is_kept.branch [
        | then-is_kept+in_ok-extend_from_slice-3 w ↦
            (let bytes = w.bytes-then-is_kept.result.now in
            let shown = file_shown r bytes stored c.is_stored.ensures.rows w.bytes-then-is_kept.ensures.bytes in
            let stays : keeps kept part ≡ true = search rules in
            let piece : w.part-then-is_kept.result.now ≡ bytes_of part =
            w.part-then-is_kept.ensures.bytes
            ∙ part_bytes r bytes shown i c.loop-part-test.true c.loop-part.at c.part_rows-rows.result
            (c.loop-part.invariant.start ∙ ap (λ (h : FileDataSequenceHeader). start_of h i) c.header-header.ensures)
            (c.part_rows-rows.ensures ∙ ap (part_rows part) c.header-header.ensures)
            ∙ sym (rows_stay kept r stored.whole part stays) in
            rw w.bytes-is (w.in_ok-extend_from_slice-3.ensures.items ∙ (λ j. c.loop-part.invariant.items j ++ piece j) ∙ more))
        | else-is_kept w ↦
            (let goes : keeps kept part ≡ false = search rules in
            rw w.bytes-is (c.loop-part.invariant.items ∙ sym (append-nil (start ++ flat_map bytes_of (take i parts)))
            ∙ ap (λ bs. (start ++ flat_map bytes_of (take i parts)) ++ bs) (sym (no_rows_stay kept r stored.whole part goes)) ∙ more))
      ];
    }

pub returns : goal.returns
returns c =
    let r = c.args.file.now in
    let s = as_kept c.args.kept r in
    let stored = c.is_stored.ensures.stored in
    let bytes_of = λ (p : OptionalPart). flat_map hash_row (rows_of p s) in
    let bytes = c.bytes-2.result.now in
    let shown = file_shown r bytes stored c.is_stored.ensures.rows c.bytes-2.ensures.bytes in
    let header : c.to_bytes.result ≡ header_row s.metadata = c.to_bytes.ensures ∙ ap header_row c.kept_header.ensures in
    let segments : c.part.result.now ≡ flat_map segment_row s.segments =
    c.part.ensures.bytes ∙ bytes_of_rows segment_row FitsSegment segment_laws bytes 1 r.segments 1 c.header-header.result.num_entries (has_segments r.metadata bytes r shown) refl
    (ap (λ (h : FileDataSequenceHeader). h.num_entries) c.header-header.ensures ∙ sym stored.whole.segments)
    ∙ ap (flat_map segment_row) (sym (segments_kept c.args.kept r)) in
    let front : c.extend_from_slice-2.new.self.items ≡ header_row s.metadata ++ flat_map segment_row s.segments =
    c.in_ok-extend_from_slice-2.ensures.items
    ∙ (λ j. (c.in_ok-extend_from_slice.ensures.items ∙ ap (λ bs. bs ++ c.to_bytes.result) c.in_ok-bytes.ensures.items ∙ header) j ++ segments j) in
    c.into_bump_slice.ensures ∙ c.loop-part.invariant.items
    ∙ (λ j. front j ++ flat_map bytes_of (take_all c.loop-part.part-index parts c.loop-part-test.false j))
    ∙ parts_joined s (header_row s.metadata) (flat_map segment_row s.segments) refl refl
