use Rattle.std.proofs.Common.{◌+◌, refl, sym, ap, ◌∙◌, arith}
use Rattle.std.proofs.lemmas.Result.{err_from_is_err_and}
use Rattle.xet_base.specs.Steps.SearchSteps.{table_in}
use Rattle.xet_base.proofs.Search.Tables.{none_after}
use Rattle.xet_base.proofs.Search.Steps.{read_failure, serves_advanced}
use Rattle.xet_base.proofs.Search.Collecting.{around_end, key_is, key_there, collected_start, collected_keep, collected_skip, counts_rest, passes_part}
use Rattle.xet_base.proofs.interpolation_search.collect.Goals as goal
use Rattle.xet_base.proofs.interpolation_search.collect.Goals.{then-found-key-2, else-found-key-2}

pub loop-row-init : goal.loop-row-init
loop-row-init g c = collected_start _ c.args.key _ c.args.rows.start c.args.rows.end _ c.args.results.now c.args.had c.requires.at_row c.requires.room

pub returns-in_err-found-clause-refused : goal.returns-in_err-found-clause-refused
returns-in_err-found-clause-refused g c =
    let t = table_in c.args.range (g.S.ShardSource.meaning c.args.source.now).bytes in
    let p = err_from_is_err_and c.from_residual.result c.from_residual.ensures.1 in
    rw (p.1, p.2) (read_failure t c.loop-row.row (g.S.ShardSource.meaning c.args.source.now) (g.S.ShardSource.meaning c.loop-row.source) (g.S.ShardSource.meaning c.read_key.new.source) 8 _ c.loop-row.invariant.no_failure
    (omega (arith, c.loop-row-test.true, c.requires.within)) (omega (arith, c.loop-row.invariant.at)) c.in_err-found.ensures.cause)

pub returns-in_err-found-clause-passes : goal.returns-in_err-found-clause-passes
returns-in_err-found-clause-passes g c =
    let fails = c.in_err-found.ensures in
    passes_part _ c.args.key _ c.args.rows.start c.loop-row.row c.args.rows.end _ _ c.args.results.now c.loop-row.results c.args.had c.loop-row.count c.loop-row.invariant
    (g.S.ShardSource.meaning c.read_key.new.source) 8 fails.bytes fails.seeks fails.read (omega arith) c.loop-row-test.true

pub returns-in_err-value-clause-refused : goal.returns-in_err-value-clause-refused
returns-in_err-value-clause-refused g c =
    let t = table_in c.args.range (g.S.ShardSource.meaning c.args.source.now).bytes in
    let p = err_from_is_err_and c.from_residual-in_err-value.result c.from_residual-in_err-value.ensures.1 in
    let fails = c.requires.reads _ _ _ c.in_err-value.ensures in
    let after = c.in_ok-found.ensures.0.after in
    rw (p.1, p.2) (read_failure t c.loop-row.row (g.S.ShardSource.meaning c.args.source.now) (g.S.ShardSource.meaning c.read_key.new.source) (g.S.ShardSource.meaning c.read_value.new.arg2) t.width _ (serves_advanced _ (g.S.ShardSource.meaning c.loop-row.source) _ 8 c.loop-row.invariant.no_failure after)
    (omega (arith, c.loop-row-test.true, c.requires.within)) (omega (arith, ap (λ s. s.at) after, c.loop-row.invariant.at)) fails.cause)

pub returns-in_err-value-clause-passes : goal.returns-in_err-value-clause-passes
returns-in_err-value-clause-passes g c =
    let fails = c.requires.reads _ _ _ c.in_err-value.ensures in
    let after = c.in_ok-found.ensures.0.after in
    passes_part _ c.args.key _ c.args.rows.start c.loop-row.row c.args.rows.end _ _ c.args.results.now c.loop-row.results c.args.had c.loop-row.count c.loop-row.invariant
    (g.S.ShardSource.meaning c.read_value.new.arg2) (8 + c.args.range.width) (fails.bytes ∙ ap (λ s. s.bytes) after) (fails.seeks ∙ ap (λ s. s.seeks) after)
    (omega (arith, fails.read, ap (λ s. s.read) after)) (omega arith) c.loop-row-test.true

pub returns-then-found-key-clause-found : goal.returns-then-found-key-clause-found
returns-then-found-key-clause-found g c before found =
    around_end _ c.args.key _ c.args.rows.start c.loop-row.row c.args.rows.end before c.loop-row.results c.loop-row.count c.requires.before (c.loop-row.invariant.finds before found)

pub returns-then-found-key-clause-count : goal.returns-then-found-key-clause-count
returns-then-found-key-clause-count g c sorted =
    let t = table_in c.args.range (g.S.ShardSource.meaning c.args.source.now).bytes in
    let row = c.loop-row.row in
    let now = g.S.ShardSource.meaning c.loop-row.source in
    let mid = g.S.ShardSource.meaning c.read_key.new.source in
    let reads = c.in_ok-found.ensures.0 in
    let same = c.loop-row.invariant.no_failure.bytes in
    let key = key_is t row now mid same c.loop-row.invariant.at reads c.in_ok-found.found c.in_ok-found.ensures.1 in
    counts_rest t c.args.key c.args.rows.start row c.args.rows.end _ c.args.had c.loop-row.count c.loop-row.invariant.counted
    (none_after t c.args.key row c.args.rows.end sorted (key_there t row now mid same c.loop-row.invariant.at reads) (omega (arith, key, c.if-found-key.true))
    (omega (arith, c.loop-row-test.true)) c.requires.within)

pub returns-then-found-key-clause-passes : goal.returns-then-found-key-clause-passes
returns-then-found-key-clause-passes g c =
    let reads = c.requires.reads _ _ _ c.in_ok-value.ensures in
    let after = c.in_ok-found.ensures.0.after in
    passes_part _ c.args.key _ c.args.rows.start c.loop-row.row c.args.rows.end _ _ c.args.results.now c.loop-row.results c.args.had c.loop-row.count c.loop-row.invariant
    (g.S.ShardSource.meaning c.read_value.new.arg2) (8 + c.args.range.width) (ap (λ s. s.bytes) reads.after ∙ ap (λ s. s.bytes) after)
    (ap (λ s. s.seeks) reads.after ∙ ap (λ s. s.seeks) after)
    (omega (arith, ap (λ s. s.read) reads.after, ap (λ s. s.read) after)) (omega arith) c.loop-row-test.true

pub returns-clause-found : goal.returns-clause-found
returns-clause-found g c before found =
    around_end _ c.args.key _ c.args.rows.start c.loop-row.row c.args.rows.end before c.loop-row.results c.loop-row.count c.requires.before (c.loop-row.invariant.finds before found)

pub loop-row-preserved : goal.loop-row-preserved
loop-row-preserved g c =
    let meaning = g.S.ShardSource.meaning in
    let old = meaning c.args.source.now in
    let t = table_in c.args.range old.bytes in
    let row = c.loop-row.row in
    let now = meaning c.loop-row.source in
    let mid = meaning c.read_key.new.source in
    let after = meaning c.read_value.new.arg2 in
    let reads = c.in_ok-found.ensures.0 in
    let reads_value = c.requires.reads _ _ _ c.in_ok-value.ensures in
    let key = key_is t row now mid c.loop-row.invariant.no_failure.bytes c.loop-row.invariant.at reads c.in_ok-found.found c.in_ok-found.ensures.1 in
    elim c.if-found-key-2.branch [
      | then-found-key-2 w ↦ rw (w.results-is, w.count-is)
          (collected_keep t c.args.key _ c.args.rows.start row c.args.rows.end 0 old now mid after c.args.results.now c.loop-row.results c.args.had c.loop-row.count refl c.loop-row.invariant
          reads reads_value c.in_ok-value.value w.keep-count.new.results w.keep-count.result c.loop-row.auto.row c.loop-row-test.true
          (omega (arith, c.loop-row-test.true, c.requires.within)) (sym key ∙ w.if-found-key-2.true) (_, _, c.in_ok-value.ensures, refl) c.loop-row.auto.results w.keep-count.ensures)
      | else-found-key-2 w ↦ rw (w.results-is, w.count-is)
          (collected_skip t c.args.key _ c.args.rows.start row c.args.rows.end 0 old now mid after c.args.results.now c.loop-row.results c.args.had c.loop-row.count refl c.loop-row.invariant
          reads reads_value (λ same_key. absurd (w.if-found-key-2.false (key ∙ same_key))))
    ]
