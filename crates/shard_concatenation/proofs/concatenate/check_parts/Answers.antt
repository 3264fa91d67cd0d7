use Rattle.std.proofs.Common.{◌∙◌, map, sym, subst}
use Rattle.std.proofs.lemmas.Result.{err_from_is_err_and}
use Rattle.xet_records.specs.FileRecord.{file_records}
use Rattle.xet_records.specs.XorbRecord.{xorb_records}
use Rattle.shard_concatenation.specs.Steps.SectionsSteps.{HoldSections}
use Rattle.shard_concatenation.proofs.Concatenation.{count_is, file_rows_fit, xorb_rows_fit}
use Rattle.shard_concatenation.proofs.concatenate.check_parts.Goals as goal

pub returns-in_err-check_tables-clause-succeeds : goal.returns-in_err-check_tables-clause-succeeds
returns-in_err-check_tables-clause-succeeds c = λ parts held together.
    let lacks = c.in_err-check_tables.ensures.succeeds (map (λ p. p.files) parts) (subst (λ ss. HoldSections file_records ss (map (λ p. p.files) parts)) (sym c.as_slice.ensures.value) held.files_held) (file_rows_fit parts together.rows) in
    let p = err_from_is_err_and c.from_residual-in_err-check_tables.result c.from_residual-in_err-check_tables.ensures.1 in
    rw (p.1) (p.2 ∙ lacks)

pub returns-in_err-check_tables-2-clause-succeeds : goal.returns-in_err-check_tables-2-clause-succeeds
returns-in_err-check_tables-2-clause-succeeds c = λ parts held together.
    let lacks = c.in_err-check_tables-2.ensures.succeeds (map (λ p. p.xorbs) parts) (subst (λ ss. HoldSections xorb_records ss (map (λ p. p.xorbs) parts)) (sym c.as_slice-2.ensures.value) held.xorbs_held) (xorb_rows_fit parts together.rows) in
    let p = err_from_is_err_and c.from_residual-in_err-check_tables-2.result c.from_residual-in_err-check_tables-2.ensures.1 in
    rw (p.1) (p.2 ∙ lacks)

pub returns-in_err-check_chunk_tables-clause-succeeds : goal.returns-in_err-check_chunk_tables-clause-succeeds
returns-in_err-check_chunk_tables-clause-succeeds c = λ parts held together.
    let tables = held.tables_held in
    let footer = c.in_ok-info.info.metadata in
    absurd (c.in_err-check_chunk_tables.ensures.held tables.held (tables.cursors_are ∙ sym c.as_slice-3.ensures.value) tables.hold
    (count_is c.args.gathered.now.totals parts footer.chunk_lookup_num_entry held.totals_are c.in_ok-info.ensures.footer.chunks _ tables.moved))
