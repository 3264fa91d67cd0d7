use Rattle.std.proofs.Common.{sym, subst, rules}
use Rattle.std.proofs.lemmas.Result.{err_from_is_err_and}
use Rattle.xet_base.specs.Errors.{IsWriteError}
use Rattle.shard_concatenation.proofs.SectionParts.{no_tables_written, rows_later_fit, count_fits, one_table_written}
use Rattle.shard_concatenation.proofs.section_parts.write_tables.Goals as goal

pub loop-section-init : goal.loop-section-init
loop-section-init g c = λ records hold. no_tables_written g.R.SectionRecord.kind _

pub loop-section-preserved : goal.loop-section-preserved
loop-section-preserved g c = λ records hold.
    one_table_written g.R.SectionRecord.kind c.args.sections.now records c.loop-section.section-index c.loop-section.first c.in_ok-first.first _ _ (g.W.Write.contents c.loop-section.writer) _ (λ rows. Unit {0}) hold (search rules)
    (c.loop-section.invariant records hold) tt (λ rows are fit fine. c.in_ok-write_later.ensures.bytes rows are fit) c.in_ok-first.ensures.sum

pub returns-in_err-write_later-clause-succeeds : goal.returns-in_err-write_later-clause-succeeds
returns-in_err-write_later-clause-succeeds g c = λ records hold few.
    let bad = rows_later_fit g.R.SectionRecord.kind c.args.sections.now records c.loop-section.section-index c.loop-section.first _ (g.W.Write.contents c.loop-section.writer) hold c.loop-section-test.true
    (c.loop-section.invariant records hold) few _ _ c.in_err-write_later.ensures.succeeds in
    let p = err_from_is_err_and c.from_residual.result c.from_residual.ensures.1 in
    rw (p.1) (subst IsWriteError (sym p.2) bad)

pub returns-in_err-first-clause-succeeds : goal.returns-in_err-first-clause-succeeds
returns-in_err-first-clause-succeeds g c = λ records hold few.
    absurd (count_fits g.R.SectionRecord.kind c.args.sections.now records c.loop-section.section-index c.loop-section.first _ (g.W.Write.contents c.loop-section.writer) hold c.loop-section-test.true
    (c.loop-section.invariant records hold) few _ c.in_err-first.ensures.passes)
