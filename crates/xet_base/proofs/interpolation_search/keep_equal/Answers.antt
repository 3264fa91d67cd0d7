use Rattle.std.proofs.Common.{◌≡◌, ◌<◌, ◌≤◌, refl, sym, ap, ◌∙◌, arith}
use Rattle.std.proofs.lemmas.Result.{err_from_is_err_and}
use Rattle.xet_base.specs.Search.Table.{key_at}
use Rattle.xet_base.specs.Steps.SearchSteps.{table_in}
use Rattle.xet_base.proofs.Search.Tables.{hits_below-hit, keys_ascend, none_after}
use Rattle.xet_base.proofs.Search.Steps.{read_failure, serves_still, serves_advanced}
use Rattle.xet_base.proofs.Search.Collecting.{around_end, key_is, key_there, value_is, collected_first, collected_keep, counts_rest, runs_first, runs_part, runs_row}
use Rattle.xet_base.proofs.interpolation_search.keep_equal.Goals as goal

pub returns-in_err-value-clause-refused : goal.returns-in_err-value-clause-refused
returns-in_err-value-clause-refused g c =
    let old = g.S.ShardSource.meaning c.args.source.now in
    let t = table_in c.args.range old.bytes in
    let p = err_from_is_err_and c.from_residual.result c.from_residual.ensures.1 in
    let fails = c.requires.reads _ _ _ c.in_err-value.ensures in
    rw (p.1, p.2) (read_failure t c.args.rows.start old old (g.S.ShardSource.meaning c.read_value.new.arg2) t.width _ (serves_still old)
    c.requires.equal.within (omega (arith, c.requires.key_read)) fails.cause)

pub returns-in_err-value-clause-runs : goal.returns-in_err-value-clause-runs
returns-in_err-value-clause-runs g c =
    let fails = c.requires.reads _ _ _ c.in_err-value.ensures in
    runs_first _ c.args.key c.args.rows.start c.args.rows.end _ (g.S.ShardSource.meaning c.read_value.new.arg2) c.requires.equal c.requires.before fails.bytes fails.seeks fails.read

pub loop-row-init : goal.loop-row-init
loop-row-init g c =
    let meaning = g.S.ShardSource.meaning in
    let old = meaning c.args.source.now in
    let t = table_in c.args.range old.bytes in
    let reads = c.requires.reads _ _ _ c.in_ok-value.ensures in
    let is_row = c.requires.equal in
    record {
      collected = collected_first t c.args.key _ c.args.rows.start c.args.rows.end old (meaning c.read_value.new.arg2) c.args.results.now c.keep-count.new.results c.args.had c.keep-count.result
          c.in_ok-value.value refl c.requires.key_read is_row c.requires.before c.requires.room reads
          (_, _, c.in_ok-value.ensures, value_is t c.args.rows.start old (meaning c.read_value.new.arg2) refl c.requires.key_read reads) c.keep-count.ensures;
      equal = omega (arith, hits_below-hit t c.args.key c.args.rows.start is_row.there is_row.same_key);
    }

pub returns-in_err-read_key-clause-refused : goal.returns-in_err-read_key-clause-refused
returns-in_err-read_key-clause-refused g c =
    let t = table_in c.args.range (g.S.ShardSource.meaning c.args.source.now).bytes in
    let p = err_from_is_err_and c.from_residual-in_err-read_key.result c.from_residual-in_err-read_key.ensures.1 in
    let so_far = c.loop-row.invariant.collected in
    rw (p.1, p.2) (read_failure t c.loop-row.row (g.S.ShardSource.meaning c.args.source.now) (g.S.ShardSource.meaning c.loop-row.source) (g.S.ShardSource.meaning c.read_key.new.source) 8 _ so_far.no_failure
    (omega (arith, c.loop-row-test.true, c.requires.within)) (omega (arith, so_far.at)) c.in_err-read_key.ensures.cause)

pub returns-in_err-read_key-clause-runs : goal.returns-in_err-read_key-clause-runs
returns-in_err-read_key-clause-runs g c =
    let fails = c.in_err-read_key.ensures in
    runs_part _ c.args.key _ c.args.rows.start c.loop-row.row c.args.rows.end _ _ c.args.results.now c.loop-row.results c.args.had c.loop-row.count c.loop-row.invariant
    (omega (arith, c.loop-row.auto.row)) (g.S.ShardSource.meaning c.read_key.new.source) 8 fails.bytes fails.seeks fails.read (omega arith)
    (omega (arith, c.loop-row-test.true))

pub returns-then-branch-key-clause-found : goal.returns-then-branch-key-clause-found
returns-then-branch-key-clause-found g c before found =
    around_end _ c.args.key _ c.args.rows.start c.loop-row.row c.args.rows.end before c.loop-row.results c.loop-row.count (omega (arith, c.requires.before))
    (c.loop-row.invariant.collected.finds before found)

pub returns-then-branch-key-clause-count : goal.returns-then-branch-key-clause-count
returns-then-branch-key-clause-count g c sorted =
    let t = table_in c.args.range (g.S.ShardSource.meaning c.args.source.now).bytes in
    let row = c.loop-row.row in
    let now = g.S.ShardSource.meaning c.loop-row.source in
    let mid = g.S.ShardSource.meaning c.read_key.new.source in
    let so_far = c.loop-row.invariant.collected in
    let reads = c.in_ok-read_key.ensures.0 in
    let same = so_far.no_failure.bytes in
    let key = key_is t row now mid same so_far.at reads c.in_ok-read_key.field-0 c.in_ok-read_key.ensures.1 in
    let there = key_there t row now mid same so_far.at reads in
    let within : row < c.args.range.rows = omega (arith, c.loop-row-test.true, c.requires.within) in
    let no_smaller : c.args.key ≤ key_at t row = omega (
      arith,
      c.requires.equal.same_key,
      keys_ascend t c.args.rows.start row sorted (omega (arith, c.loop-row.auto.row)) within there,
    ) in
    counts_rest t c.args.key c.args.rows.start row c.args.rows.end _ c.args.had c.loop-row.count so_far.counted
    (none_after t c.args.key row c.args.rows.end sorted there (omega (arith, no_smaller, key, c.if-branch-key.true)) (omega (arith, c.loop-row-test.true)) c.requires.within)

pub returns-then-branch-key-clause-runs : goal.returns-then-branch-key-clause-runs
returns-then-branch-key-clause-runs g c =
    let after = c.in_ok-read_key.ensures.0.after in
    runs_part _ c.args.key _ c.args.rows.start c.loop-row.row c.args.rows.end _ _ c.args.results.now c.loop-row.results c.args.had c.loop-row.count c.loop-row.invariant
    (omega (arith, c.loop-row.auto.row)) (g.S.ShardSource.meaning c.read_key.new.source) 8 (ap (λ s. s.bytes) after) (ap (λ s. s.seeks) after)
    (omega (arith, ap (λ s. s.read) after)) (omega arith) (omega (arith, c.loop-row-test.true))

pub returns-in_err-value-2-clause-refused : goal.returns-in_err-value-2-clause-refused
returns-in_err-value-2-clause-refused g c =
    let t = table_in c.args.range (g.S.ShardSource.meaning c.args.source.now).bytes in
    let p = err_from_is_err_and c.from_residual-in_err-value-2.result c.from_residual-in_err-value-2.ensures.1 in
    let so_far = c.loop-row.invariant.collected in
    let fails = c.requires.reads _ _ _ c.in_err-value-2.ensures in
    let after = c.in_ok-read_key.ensures.0.after in
    rw (p.1, p.2) (read_failure t c.loop-row.row (g.S.ShardSource.meaning c.args.source.now) (g.S.ShardSource.meaning c.read_key.new.source) (g.S.ShardSource.meaning c.read_value-in-loop-row.new.arg2) t.width _ (serves_advanced _ (g.S.ShardSource.meaning c.loop-row.source) _ 8 so_far.no_failure after)
    (omega (arith, c.loop-row-test.true, c.requires.within)) (omega (arith, ap (λ s. s.at) after, so_far.at)) fails.cause)

pub returns-in_err-value-2-clause-runs : goal.returns-in_err-value-2-clause-runs
returns-in_err-value-2-clause-runs g c =
    let t = table_in c.args.range (g.S.ShardSource.meaning c.args.source.now).bytes in
    let row = c.loop-row.row in
    let now = g.S.ShardSource.meaning c.loop-row.source in
    let mid = g.S.ShardSource.meaning c.read_key.new.source in
    let so_far = c.loop-row.invariant.collected in
    let reads = c.in_ok-read_key.ensures.0 in
    let fails = c.requires.reads _ _ _ c.in_err-value-2.ensures in
    let key = key_is t row now mid so_far.no_failure.bytes so_far.at reads c.in_ok-read_key.field-0 c.in_ok-read_key.ensures.1 in
    runs_row t c.args.key _ c.args.rows.start row c.args.rows.end _ now c.args.results.now c.loop-row.results c.args.had c.loop-row.count c.loop-row.invariant
    (omega (arith, c.loop-row.auto.row)) (g.S.ShardSource.meaning c.read_value-in-loop-row.new.arg2) (fails.bytes ∙ ap (λ s. s.bytes) reads.after)
    (fails.seeks ∙ ap (λ s. s.seeks) reads.after) (omega (arith, fails.read, ap (λ s. s.read) reads.after)) (key_there t row now mid so_far.no_failure.bytes so_far.at reads)
    (sym key ∙ c.if-branch-key.false) c.loop-row-test.true

pub loop-row-preserved : goal.loop-row-preserved
loop-row-preserved g c =
    let meaning = g.S.ShardSource.meaning in
    let old = meaning c.args.source.now in
    let t = table_in c.args.range old.bytes in
    let row = c.loop-row.row in
    let now = meaning c.loop-row.source in
    let mid = meaning c.read_key.new.source in
    let after = meaning c.read_value-in-loop-row.new.arg2 in
    let so_far = c.loop-row.invariant.collected in
    let reads = c.in_ok-read_key.ensures.0 in
    let reads_value = c.requires.reads _ _ _ c.in_ok-value-2.ensures in
    let key = key_is t row now mid so_far.no_failure.bytes so_far.at reads c.in_ok-read_key.field-0 c.in_ok-read_key.ensures.1 in
    let same_key : key_at t row ≡ c.args.key = sym key ∙ c.if-branch-key.false in
    record {
      collected = collected_keep t c.args.key _ c.args.rows.start row c.args.rows.end 8 old now mid after c.args.results.now c.loop-row.results c.args.had c.loop-row.count refl so_far
          reads reads_value c.in_ok-value-2.value c.keep-count-in-loop-row.new.results c.keep-count-in-loop-row.result (omega (arith, c.loop-row.auto.row)) c.loop-row-test.true
          (omega (arith, c.loop-row-test.true, c.requires.within)) same_key (_, _, c.in_ok-value-2.ensures, refl) (c.loop-row.auto.results ∙ c.keep-count.auto.results) c.keep-count-in-loop-row.ensures;
      equal = omega (
        arith,
        c.loop-row.invariant.equal,
        hits_below-hit t c.args.key row (key_there t row now mid so_far.no_failure.bytes so_far.at reads) same_key,
      );
    }

pub returns-clause-found : goal.returns-clause-found
returns-clause-found g c before found =
    around_end _ c.args.key _ c.args.rows.start c.loop-row.row c.args.rows.end before c.loop-row.results c.loop-row.count (omega (arith, c.requires.before))
    (c.loop-row.invariant.collected.finds before found)

pub returns-clause-runs : goal.returns-clause-runs
returns-clause-runs g c =
    runs_part _ c.args.key _ c.args.rows.start c.loop-row.row c.args.rows.end _ _ c.args.results.now c.loop-row.results c.args.had c.loop-row.count c.loop-row.invariant
    (omega (arith, c.loop-row.auto.row)) (g.S.ShardSource.meaning c.loop-row.source) 0 refl refl (omega arith) (omega arith)
    (omega (arith, c.loop-row.auto.row-end, c.requires.before))
