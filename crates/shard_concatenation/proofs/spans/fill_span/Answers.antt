use Rattle.std.proofs.Common.{◌≡◌, ◌+◌, ◌-◌, ◌*◌, ◌<◌, ◌≤◌, ◌^◌, ◌∙◌, ◌++◌, ℕ, List, Bor, length, map, inl, inr, refl, sym, ap, subst, arith, rules}
use Rattle.std.proofs.lemmas.Result.{err_from_is_err_and}
use Rattle.std.proofs.Math.ListN.{replicate}
use Rattle.std.proofs.lemmas.List.{length-replicate}
use Rattle.std.proofs.lemmas.List.Sorted.{IsPermutation-refl}
use Rattle.xet_records.specs.FileRecord.{file_records}
use Rattle.xet_records.specs.XorbRecord.{xorb_records}
use Rattle.shard_concatenation.specs.Concatenation.{files_in, xorbs_in, options_under, RefusesConcatenation}
use Rattle.shard_concatenation.specs.Spans.{FillsSpan}
use Rattle.shard_concatenation.specs.Steps.Gathering.{HoldTables}
use Rattle.shard_concatenation.specs.Steps.SectionsSteps.{HoldSections, all_of}
use Rattle.shard_concatenation.specs.Steps.SpansSteps.{IsChunkSpan}
use Rattle.xet_shards.specs.Write.Layout.{layout_of}
use Rattle.xet_shards.specs.Write.Tables.{table_bytes, chunk_table_rows, chunk_table_bytes}
use Rattle.shard_concatenation.proofs.Concatenation.{all_files, all_xorbs, count_is, parts_fit, file_rows_fit, xorb_rows_fit, layout_size}
use Rattle.shard_concatenation.proofs.WithinSpan.{any_span}
use Rattle.shard_concatenation.proofs.spans.fill_span.Goals as goal

pub returns-in_err-gathered-clause-succeeds : goal.returns-in_err-gathered-clause-succeeds
returns-in_err-gathered-clause-succeeds c = λ key parts row are.
    let lacks = c.in_err-gathered.ensures.succeeds key parts row are in
    let p = err_from_is_err_and c.from_residual.result c.from_residual.ensures.1 in
    rw (p.1) (p.2 ∙ lacks)

pub returns-in_err-gathered-clause-causes : goal.returns-in_err-gathered-clause-causes
returns-in_err-gathered-clause-causes c =
    let p = err_from_is_err_and c.from_residual.result c.from_residual.ensures.1 in
    rw (p.1) (subst (RefusesConcatenation (map (λ (x : Bor (List ℕ)). x.now) c.args.shards.now)) (sym p.2) (c.in_err-gathered.ensures.causes), refl)

pub returns-in_err-info-clause-succeeds : goal.returns-in_err-info-clause-succeeds
returns-in_err-info-clause-succeeds c = λ key parts row are.
    absurd (c.in_err-info.ensures.succeeds parts (c.in_ok-gathered.ensures.gathered key parts row.fit are).1)

pub returns-in_err-info-clause-causes : goal.returns-in_err-info-clause-causes
returns-in_err-info-clause-causes c =
    let p = err_from_is_err_and c.from_residual-in_err-info.result c.from_residual-in_err-info.ensures.1 in
    rw (p.1) (subst (RefusesConcatenation (map (λ (x : Bor (List ℕ)). x.now) c.args.shards.now)) (sym p.2) (inr (inr c.in_err-info.ensures.causes)), refl)

pub returns-in_err-check_row_counts-clause-succeeds : goal.returns-in_err-check_row_counts-clause-succeeds
returns-in_err-check_row_counts-clause-succeeds c = λ key parts row are.
    let held = (c.in_ok-gathered.ensures.gathered key parts row.fit are).1 in
    let tables = held.tables_held in
    let footer = c.in_ok-info.info.metadata in
    absurd (c.in_err-check_row_counts.ensures.held tables.held (tables.cursors_are ∙ sym c.as_slice-cursors.ensures.value) tables.hold
    (count_is c.in_ok-gathered.gathered.totals parts footer.chunk_lookup_num_entry held.totals_are c.in_ok-info.ensures.footer.chunks _ tables.moved))

pub returns-in_err-check_row_counts-clause-causes : goal.returns-in_err-check_row_counts-clause-causes
returns-in_err-check_row_counts-clause-causes c =
    let p = err_from_is_err_and c.from_residual-in_err-check_row_counts.result c.from_residual-in_err-check_row_counts.ensures.1 in
    rw (p.1) (subst (RefusesConcatenation (map (λ (x : Bor (List ℕ)). x.now) c.args.shards.now)) (sym p.2) (inr (inr (inl c.in_err-check_row_counts.ensures.causes))), refl)

pub returns-in_err-add_table-clause-succeeds : goal.returns-in_err-add_table-clause-succeeds
returns-in_err-add_table-clause-succeeds c = λ key parts row are.
    let held = (c.in_ok-gathered.ensures.gathered key parts row.fit are).1 in
    let lacks = c.in_err-add_table.ensures.succeeds (map (λ p. p.files) parts) (subst (λ ss. HoldSections file_records ss (map (λ p. p.files) parts)) (sym c.as_slice.ensures.value) held.files_held) (file_rows_fit parts row.together.rows) in
    let p = err_from_is_err_and c.from_residual-in_err-add_table.result c.from_residual-in_err-add_table.ensures.1 in
    rw (p.1) (p.2 ∙ lacks)

pub returns-in_err-add_table-clause-causes : goal.returns-in_err-add_table-clause-causes
returns-in_err-add_table-clause-causes c =
    let p = err_from_is_err_and c.from_residual-in_err-add_table.result c.from_residual-in_err-add_table.ensures.1 in
    rw (p.1) (subst (RefusesConcatenation (map (λ (x : Bor (List ℕ)). x.now) c.args.shards.now)) (sym p.2) (inr (inr c.in_err-add_table.ensures.causes)), refl)

pub returns-in_err-add_table-2-clause-succeeds : goal.returns-in_err-add_table-2-clause-succeeds
returns-in_err-add_table-2-clause-succeeds c = λ key parts row are.
    let held = (c.in_ok-gathered.ensures.gathered key parts row.fit are).1 in
    let lacks = c.in_err-add_table-2.ensures.succeeds (map (λ p. p.xorbs) parts) (subst (λ ss. HoldSections xorb_records ss (map (λ p. p.xorbs) parts)) (sym c.as_slice-2.ensures.value) held.xorbs_held) (xorb_rows_fit parts row.together.rows) in
    let p = err_from_is_err_and c.from_residual-in_err-add_table-2.result c.from_residual-in_err-add_table-2.ensures.1 in
    rw (p.1) (p.2 ∙ lacks)

pub returns-in_err-add_table-2-clause-causes : goal.returns-in_err-add_table-2-clause-causes
returns-in_err-add_table-2-clause-causes c =
    let p = err_from_is_err_and c.from_residual-in_err-add_table-2.result c.from_residual-in_err-add_table-2.ensures.1 in
    rw (p.1) (subst (RefusesConcatenation (map (λ (x : Bor (List ℕ)). x.now) c.args.shards.now)) (sym p.2) (inr (inr c.in_err-add_table-2.ensures.causes)), refl)

pub returns-in_err-chunks-clause-succeeds : goal.returns-in_err-chunks-clause-succeeds
returns-in_err-chunks-clause-succeeds c = λ key parts row are.
    let held = (c.in_ok-gathered.ensures.gathered key parts row.fit are).1 in
    let xs = xorbs_in parts in
    let count = count_is c.in_ok-gathered.gathered.totals parts c.in_ok-info.info.metadata.chunk_lookup_num_entry held.totals_are c.in_ok-info.ensures.footer.chunks (chunk_table_rows xs) (IsPermutation-refl (chunk_table_rows xs)) in
    let lacks = c.in_err-chunks.ensures.succeeds xs (subst (λ cs. HoldTables cs xs) (sym c.as_slice-cursors.ensures.value) held.tables_held) count in
    let p = err_from_is_err_and c.from_residual-in_err-chunks.result c.from_residual-in_err-chunks.ensures.1 in
    rw (p.1) (p.2 ∙ lacks)

pub returns-in_err-chunks-clause-causes : goal.returns-in_err-chunks-clause-causes
returns-in_err-chunks-clause-causes c =
    let p = err_from_is_err_and c.from_residual-in_err-chunks.result c.from_residual-in_err-chunks.ensures.1 in
    rw (p.1) (subst (RefusesConcatenation (map (λ (x : Bor (List ℕ)). x.now) c.args.shards.now)) (sym p.2) (inr (inr c.in_err-chunks.ensures.causes)), refl)

pub returns-then-until-size-clause-order : goal.returns-then-until-size-clause-order
returns-then-until-size-clause-order c = λ key parts fit are each. c.in_ok-gathered.ensures.order key parts fit are each

pub returns-then-until-size-clause-rows : goal.returns-then-until-size-clause-rows
returns-then-until-size-clause-rows c = λ key parts fit are.
    let totals = (c.in_ok-gathered.ensures.gathered key parts fit are).1.totals_are in
    let file_rows : c.in_ok-gathered.gathered.totals.file_rows < 2 ^ 32 = search rules in
    let xorb_rows : c.in_ok-gathered.gathered.totals.xorb_rows < 2 ^ 32 = search rules in
    record { file_rows = omega (arith, totals.file_rows); xorb_rows = omega (arith, totals.xorb_rows) }

pub returns-then-until-size-clause-parts : goal.returns-then-until-size-clause-parts
returns-then-until-size-clause-parts c = λ key parts fit are.
    let (same, held) = c.in_ok-gathered.ensures.gathered key parts fit are in
    let fs = files_in parts in
    let xs = xorbs_in parts in
    let gathered = c.in_ok-gathered.gathered in
    let footer = c.in_ok-info.info.metadata in
    let version = c.in_ok-gathered.ensures.version key parts fit are in
    let past : footer.footer_offset + 200 < c.args.from + length c.args.out.now = omega (arith, c.if-until-size.true, c.saturating_add-until.ensures) in
    subst (λ bytes. FillsSpan bytes c.args.from c.args.out.now c.args.out.now (footer.footer_offset + 200)) (λ i. layout_of fs xs (options_under (version i) (same i)))
    (layout_size gathered.totals footer fs xs gathered.version gathered.key (parts_fit key parts fit) held.totals_are c.in_ok-info.ensures.footer, inr (past, refl))

pub returns-then-until-size-clause-causes : goal.returns-then-until-size-clause-causes
returns-then-until-size-clause-causes c =
    let size = c.in_ok-info.info.metadata.footer_offset + 200 in
    let past : size < c.args.from + length c.args.out.now = omega (arith, c.if-until-size.true, c.saturating_add-until.ensures) in
    (replicate size 0, tt, (sym (length-replicate {A = ℕ} size 0), inr (past, refl)))

pub returns-clause-order : goal.returns-clause-order
returns-clause-order c = λ key parts fit are each. c.in_ok-gathered.ensures.order key parts fit are each

pub returns-clause-rows : goal.returns-clause-rows
returns-clause-rows c = λ key parts fit are.
    let totals = (c.in_ok-gathered.ensures.gathered key parts fit are).1.totals_are in
    let file_rows : c.in_ok-gathered.gathered.totals.file_rows < 2 ^ 32 = search rules in
    let xorb_rows : c.in_ok-gathered.gathered.totals.xorb_rows < 2 ^ 32 = search rules in
    record { file_rows = omega (arith, totals.file_rows); xorb_rows = omega (arith, totals.xorb_rows) }

pub returns-clause-causes : goal.returns-clause-causes
returns-clause-causes c =
    let footer = c.in_ok-info.info.metadata in
    let within : c.args.from + length c.args.out.now ≤ footer.footer_offset + 200 = omega (arith, c.if-until-size.false, c.saturating_add-until.ensures, c.in_ok-info.ensures.footer.small) in
    let any = any_span c.args.from (footer.footer_offset + 200) c.args.out.now c.put_span.new.out (omega (arith, c.put_span.auto.out)) within in
    (any.0, tt, any.1)

pub returns-clause-parts : goal.returns-clause-parts
returns-clause-parts c = λ key parts fit are.
    let (same, held) = c.in_ok-gathered.ensures.gathered key parts fit are in
    let fs = files_in parts in
    let xs = xorbs_in parts in
    let gathered = c.in_ok-gathered.gathered in
    let footer = c.in_ok-info.info.metadata in
    let widths = parts_fit key parts fit in
    let version = c.in_ok-gathered.ensures.version key parts fit are in
    let until_is : c.saturating_add-until.result ≡ c.args.from + length c.args.out.now = omega (arith, c.if-until-size.false, c.saturating_add-until.ensures, c.in_ok-info.ensures.footer.small) in
    let within : c.args.from + length c.args.out.now ≤ footer.footer_offset + 200 = omega (arith, c.if-until-size.false, until_is) in
    let first = c.in_ok-add_table.ensures.bytes (map (λ p. p.files) parts) (subst (λ ss. HoldSections file_records ss (map (λ p. p.files) parts)) (sym c.as_slice.ensures.value) held.files_held) in
    let second = c.in_ok-add_table-2.ensures.bytes (map (λ p. p.xorbs) parts) (subst (λ ss. HoldSections xorb_records ss (map (λ p. p.xorbs) parts)) (sym c.as_slice-2.ensures.value) held.xorbs_held) in
    let tables : c.as_slice-3.result.now ≡ table_bytes file_records fs ++ table_bytes xorb_records xs =
    c.as_slice-3.ensures.value ∙ second ∙ ap (λ l. l ++ table_bytes xorb_records (all_of (map (λ p. p.xorbs) parts))) (first ∙ ap (λ l. l ++ table_bytes file_records (all_of (map (λ p. p.files) parts))) c.new-tables.ensures.items)
    ∙ (λ i. table_bytes file_records (all_files parts i) ++ table_bytes xorb_records (all_xorbs parts i)) in
    let count = count_is gathered.totals parts footer.chunk_lookup_num_entry held.totals_are c.in_ok-info.ensures.footer.chunks (chunk_table_rows xs) (IsPermutation-refl (chunk_table_rows xs)) in
    let span = c.in_ok-chunks.ensures.span xs (subst (λ cs. HoldTables cs xs) (sym c.as_slice-cursors.ensures.value) held.tables_held) count in
    let filled = c.put_span.ensures parts held widths (c.in_ok-info.ensures.info parts held widths) tables
    (subst (λ end. IsChunkSpan (chunk_table_bytes xs) (footer.footer_offset - 16 * footer.chunk_lookup_num_entry) c.args.from end c.in_ok-chunks.chunks) until_is span) within in
    subst (λ bytes. FillsSpan bytes c.args.from c.args.out.now c.put_span.new.out (footer.footer_offset + 200)) (λ i. layout_of fs xs (options_under (version i) (same i)))
    (layout_size gathered.totals footer fs xs gathered.version gathered.key widths held.totals_are c.in_ok-info.ensures.footer, inl (within, filled))
