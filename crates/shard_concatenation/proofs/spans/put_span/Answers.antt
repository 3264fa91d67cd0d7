use Rattle.std.proofs.Common.{◌≡◌, ◌+◌, ◌-◌, ◌*◌, ◌∙◌, ◌++◌, ℕ, List, [], length, map, flat_map, refl, sym, ap, subst, arith, rules}
use Rattle.std.specs.Prelude.{sum_by}
use Rattle.std.proofs.lemmas.List.{length-append}
use Rattle.std.proofs.lemmas.List.Concat.{length-flat_map}
use Rattle.xet_records.specs.FileRecord.{file_records}
use Rattle.xet_records.specs.XorbRecord.{xorb_records}
use Rattle.xet_shards.specs.declared.shard_format.ends.info.MDBShardInfo.{MDBShardInfo}
use Rattle.shard_concatenation.specs.declared.section_parts.SectionPart.{SectionPart}
use Rattle.shard_concatenation.specs.Concatenation.{files_in, xorbs_in, options_under}
use Rattle.shard_concatenation.specs.Steps.SectionsSteps.{HoldSections}
use Rattle.shard_concatenation.specs.Steps.SpansSteps.{HoldsSpan}
use Rattle.xet_shards.specs.Write.Layout.{shard_header_bytes, layout_of}
use Rattle.xet_shards.specs.Write.Tables.{table_bytes}
use Rattle.xet_shards.proofs.Write.Layouts.{length-shard_header_bytes, length-shard_footer_bytes}
use Rattle.xet_shards.proofs.Write.Tables.{length-table_bytes}
use Rattle.shard_concatenation.proofs.Concatenation.{layout_size, pieces_are}
use Rattle.shard_concatenation.proofs.WithinSpan.{nothing_within, before_span, behind_span, back_out_at, span_held}
use Rattle.shard_concatenation.proofs.spans.put_span.Goals as goal

pub put_rows_within-at-requires : goal.put_rows_within-at-requires
put_rows_within-at-requires c =
    let file_rows : sum_by (λ (s : SectionPart). length s.rows.now) c.as_slice-files.result.now ≡ 48 * c.args.gathered.now.totals.file_rows = ap (sum_by (λ (s : SectionPart). length s.rows.now)) c.as_slice-files.ensures.value ∙ c.requires.sizes.file_rows in
    omega (arith, file_rows, c.requires.footer.offset, c.requires.footer.small)

pub put_rows_within-at-requires-2 : goal.put_rows_within-at-requires-2
put_rows_within-at-requires-2 c =
    let file_rows : sum_by (λ (s : SectionPart). length s.rows.now) c.as_slice-files.result.now ≡ 48 * c.args.gathered.now.totals.file_rows = ap (sum_by (λ (s : SectionPart). length s.rows.now)) c.as_slice-files.ensures.value ∙ c.requires.sizes.file_rows in
    let xorb_rows : sum_by (λ (s : SectionPart). length s.rows.now) c.as_slice-xorbs.result.now ≡ 48 * c.args.gathered.now.totals.xorb_rows = ap (sum_by (λ (s : SectionPart). length s.rows.now)) c.as_slice-xorbs.ensures.value ∙ c.requires.sizes.xorb_rows in
    omega (arith, file_rows, xorb_rows, c.put_rows_within-at.ensures.end, c.requires.footer.offset, c.requires.footer.small)

pub returns : goal.returns
returns c = λ parts held fit info_is tables_are span within.
    let all = c.args.gathered.now in
    let from = c.args.from in
    let footer = c.args.info.now.metadata in
    let fs = files_in parts in
    let xs = xorbs_in parts in
    let h : List ℕ = c.as_slice.result.now in
    let fe : List ℕ = c.to_bytes.result in
    let xe : List ℕ = c.to_bytes-2.result in
    let t : List ℕ = c.args.tables.now in
    let f : List ℕ = c.as_slice-3.result.now in
    let rows : List ℕ = c.as_slice-2.result.now in
    let h_length : length h ≡ 48 = ap length (c.as_slice.ensures.value ∙ c.requires.ends.header) ∙ length-shard_header_bytes c.args.info.now.header in
    let f_length : length f ≡ 200 = ap length (c.as_slice-3.ensures.value ∙ c.requires.ends.footer) ∙ length-shard_footer_bytes footer c.requires.footer.buffer in
    let fe_length : length fe ≡ 48 = search rules in
    let xe_length : length xe ≡ 48 = search rules in
    let file_rows : sum_by (λ (s : SectionPart). length s.rows.now) c.as_slice-files.result.now ≡ 48 * all.totals.file_rows = ap (sum_by (λ (s : SectionPart). length s.rows.now)) c.as_slice-files.ensures.value ∙ c.requires.sizes.file_rows in
    let xorb_rows : sum_by (λ (s : SectionPart). length s.rows.now) c.as_slice-xorbs.result.now ≡ 48 * all.totals.xorb_rows = ap (sum_by (λ (s : SectionPart). length s.rows.now)) c.as_slice-xorbs.ensures.value ∙ c.requires.sizes.xorb_rows in
    let t_length : length t ≡ 12 * all.totals.files + 12 * all.totals.xorbs =
    ap length tables_are ∙ length-append (table_bytes file_records fs) (table_bytes xorb_records xs) ∙ omega (arith, length-table_bytes file_records fs, length-table_bytes xorb_records xs, held.totals_are.files_are, held.totals_are.xorbs_are) in
    let fr : List ℕ = flat_map (λ (s : SectionPart). s.rows.now) c.as_slice-files.result.now in
    let xr : List ℕ = flat_map (λ (s : SectionPart). s.rows.now) c.as_slice-xorbs.result.now in
    let fr_length = length-flat_map (λ (s : SectionPart). s.rows.now) c.as_slice-files.result.now in
    let xr_length = length-flat_map (λ (s : SectionPart). s.rows.now) c.as_slice-xorbs.result.now in
    let p1 = c.put_within.ensures [] refl (nothing_within from c.args.out.now) in
    let p2 = c.put_rows_within-at.ensures.bytes h (omega (arith, h_length)) p1 in
    let b2 : List ℕ = h ++ fr in
    let l2 : c.put_rows_within-at.result ≡ length b2 = omega (arith, length-append h fr, h_length, fr_length, c.put_rows_within-at.ensures.end) in
    let p3 = c.put_within-2.ensures b2 l2 p2 in
    let b3 : List ℕ = b2 ++ fe in
    let l3 : c.put_rows_within-at.result + 48 ≡ length b3 = omega (arith, l2, length-append b2 fe, fe_length) in
    let p4 = c.put_rows_within-at-2.ensures.bytes b3 l3 p3 in
    let b4 : List ℕ = b3 ++ xr in
    let l4 : c.put_rows_within-at-2.result ≡ length b4 = omega (arith, l3, length-append b3 xr, xr_length, c.put_rows_within-at-2.ensures.end) in
    let p5 = c.put_within-3.ensures b4 l4 p4 in
    let b5 : List ℕ = b4 ++ xe in
    let l5 : c.put_rows_within-at-2.result + 48 ≡ length b5 = omega (arith, l4, length-append b4 xe, xe_length) in
    let p6 = c.put_within-4.ensures b5 l5 p5 in
    let b6 : List ℕ = b5 ++ t in
    let start = footer.footer_offset - 16 * footer.chunk_lookup_num_entry in
    let l6 : start ≡ length b6 =
    omega (arith, l5, length-append b5 t, t_length, c.put_rows_within-at.ensures.end, c.put_rows_within-at-2.ensures.end, file_rows, xorb_rows, c.requires.footer.offset) in
    let p7 = before_span from start b6 span.front c.put_within-4.new.out l6 span.front_out p6 in
    let b7 : List ℕ = b6 ++ span.front in
    let l7 : start + c.args.chunks.now.before ≡ length b7 = omega (arith, l6, length-append b6 span.front, span.before_is) in
    let p8 = c.put_within-5.ensures b7 l7 p7 in
    let b8 : List ℕ = b7 ++ rows in
    let same : length c.put_within-5.new.out ≡ length c.args.out.now =
    omega (arith, c.put_within.auto.out, c.put_rows_within-at.auto.out, c.put_within-2.auto.out, c.put_rows_within-at-2.auto.out, c.put_within-3.auto.out, c.put_within-4.auto.out, c.put_within-5.auto.out) in
    let late : start + length (span.front ++ c.args.chunks.now.rows.items) ≡ length b8 =
    omega (arith, length-append b7 rows, l7, span.before_is, length-append span.front c.args.chunks.now.rows.items, ap length c.as_slice-2.ensures.value) in
    let p9 = behind_span from b8 span.back c.put_within-5.new.out (back_out_at span.back from (length c.args.out.now) (length c.put_within-5.new.out) _ (length b8) same late span.back_out) p8 in
    let b9 : List ℕ = b8 ++ span.back in
    let whole : b9 ++ f ≡ layout_of fs xs (options_under all.version all.key) =
    pieces_are c.as_slice-files.result.now c.as_slice-xorbs.result.now parts all.version all.key footer h fe xe t span.front rows span.back f
    (subst (λ ss. HoldSections file_records ss (map (λ p. p.files) parts)) (sym c.as_slice-files.ensures.value) held.files_held)
    (subst (λ ss. HoldSections xorb_records ss (map (λ p. p.xorbs) parts)) (sym c.as_slice-xorbs.ensures.value) held.xorbs_held)
    (c.as_slice.ensures.value ∙ c.requires.ends.header ∙ ap (λ (i : MDBShardInfo). shard_header_bytes i.header) info_is)
    (c.to_bytes.ensures ∙ ap file_records.header_bytes c.bookend.ensures) (c.to_bytes-2.ensures ∙ ap xorb_records.header_bytes c.bookend-2.ensures) tables_are
    (span.table_is ∙ ap (λ rs. (span.front ++ rs) ++ span.back) (sym c.as_slice-2.ensures.value)) (c.as_slice-3.ensures.value ∙ c.requires.ends.footer) (ap (λ (i : MDBShardInfo). i.metadata) info_is) in
    let size = layout_size all.totals footer fs xs all.version all.key fit held.totals_are c.requires.footer in
    let l9 : footer.footer_offset ≡ length b9 = omega (arith, ap length whole, length-append b9 f, f_length, size) in
    let p10 = c.put_within-6.ensures b9 l9 p9 in
    let filled = subst (λ bs. HoldsSpan from bs c.put_within-6.new.out) whole p10 in
    span_held from (length c.args.out.now) (layout_of fs xs (options_under all.version all.key)) c.put_within-6.new.out (omega (arith, same, c.put_within-6.auto.out)) (omega (arith, within, size)) filled
