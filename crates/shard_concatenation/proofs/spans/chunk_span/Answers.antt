use Rattle.std.proofs.Common.{◌≡◌, ◌-◌, ◌*◌, ◌<◌, ◌^◌, ◌∙◌, ◌++◌, ℕ, [], length, flat_map, inl, inr, refl, sym, ap, subst, append-nil, arith}
use Rattle.std.specs.Prelude.{◌/◌}
use Rattle.std.proofs.lemmas.Result.{err_from_is_err_and}
use Rattle.std.proofs.lemmas.List.Sorted.{length_permutation}
use Rattle.shard_concatenation.specs.Steps.ChunkMerging.{rows_held}
use Rattle.shard_concatenation.specs.Steps.ChunkCuts.{rows_before, rows_between, HoldInTables}
use Rattle.xet_shards.specs.Write.Tables.{chunk_table_rows, chunk_table_bytes}
use Rattle.xet_shards.proofs.Write.XorbLayouts.{length-chunk_table_bytes, length-chunk_table_rows}
use Rattle.shard_concatenation.proofs.ChunkSpans.{between_others, span_between}
use Rattle.shard_concatenation.proofs.spans.chunk_span.Goals as goal

pub returns-then-until-start-clause-span : goal.returns-then-until-start-clause-span
returns-then-until-start-clause-span c = λ xorbs held count.
    record {
      front = [];
      back = chunk_table_bytes xorbs;
      table_is = ap (λ rows. rows ++ chunk_table_bytes xorbs) (sym c.new-rows.ensures.items);
      before_is = refl;
      front_out = inl refl;
      back_out = inr (omega (arith, c.if-until-start.true, c.requires.rows));
    }

pub returns-then-end-from-clause-span : goal.returns-then-end-from-clause-span
returns-then-end-from-clause-span c = λ xorbs held count.
    let table = chunk_table_bytes xorbs in
    let size : 16 * c.args.footer.now.chunk_lookup_num_entry ≡ length table = omega (arith, count, length-chunk_table_bytes xorbs, length-chunk_table_rows xorbs) in
    record {
      front = table;
      back = [];
      table_is = sym (append-nil (table ++ c.new-rows.result.items) ∙ ap (λ rows. table ++ rows) c.new-rows.ensures.items ∙ append-nil table);
      before_is = size;
      front_out = inr (omega (arith, c.if-end-from.true, c.requires.rows, size));
      back_out = inl refl;
    }

pub returns-in_err-rows-clause-succeeds : goal.returns-in_err-rows-clause-succeeds
returns-in_err-rows-clause-succeeds c = λ xorbs tables count.
    let all = flat_map rows_held tables.held in
    let entries = c.args.footer.now.chunk_lookup_num_entry in
    let low = c.cuts_around-cuts.result.low in
    let high = c.cuts_around-high.result.high in
    let rows = rows_between low high all in
    let size : length all ≡ entries = omega (arith, count, length_permutation (chunk_table_rows xorbs) all tables.moved) in
    let small : length all < 2 ^ 64 = omega (arith, size, c.requires.small, c.requires.rows) in
    let before : c.cuts_around-cuts.result.before ≡ length (rows_before low all) = c.cuts_around-cuts.ensures.before tables.held tables.cursors_are tables.hold small in
    let between : HoldInTables rows c.as_slice.result.now = subst (HoldInTables rows) (sym c.as_slice.ensures.value) (c.in_ok-tables.ensures.held tables.held tables.cursors_are tables.hold) in
    let lacks = c.in_err-rows.ensures.succeeds rows between (omega (arith, between_others low high all, before, size)) in
    let p = err_from_is_err_and c.from_residual-in_err-rows.result c.from_residual-in_err-rows.ensures.1 in
    rw (p.1) (p.2 ∙ lacks)

pub returns-clause-span : goal.returns-clause-span
returns-clause-span c = λ xorbs tables count.
    let all = flat_map rows_held tables.held in
    let entries = c.args.footer.now.chunk_lookup_num_entry in
    let start : ℕ = c.args.footer.now.footer_offset - 16 * entries in
    let low = c.cuts_around-cuts.result.low in
    let high = c.cuts_around-high.result.high in
    let rows = rows_between low high all in
    let size : length all ≡ entries = omega (arith, count, length_permutation (chunk_table_rows xorbs) all tables.moved) in
    let small : length all < 2 ^ 64 = omega (arith, size, c.requires.small, c.requires.rows) in
    let before : c.cuts_around-cuts.result.before ≡ length (rows_before low all) = c.cuts_around-cuts.ensures.before tables.held tables.cursors_are tables.hold small in
    let between : HoldInTables rows c.as_slice.result.now = subst (HoldInTables rows) (sym c.as_slice.ensures.value) (c.in_ok-tables.ensures.held tables.held tables.cursors_are tables.hold) in
    let merges = c.in_ok-rows.ensures.merges rows between (omega (arith, between_others low high all, before, size)) in
    span_between xorbs all low high start c.args.from c.args.until ((c.args.until - start - 1) / 16) (record { before = 16 * c.cuts_around-cuts.result.before; rows = c.in_ok-rows.rows }) tables.moved merges (ap (λ n. 16 * n) before)
    (λ some. omega (arith, some, before, c.cuts_around-cuts.ensures.below, c.saturating_sub-first.ensures)) (c.cuts_around-high.ensures.high tables.held tables.cursors_are tables.hold small) (omega (arith, c.if-until-start.false))
