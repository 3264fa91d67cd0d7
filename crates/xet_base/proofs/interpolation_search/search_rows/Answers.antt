use Rattle.std.proofs.Common.{inl, inr, ◌+◌, ◌-◌, ◌<◌, List, length, ap, ◌∙◌, subst, arith}
use Rattle.std.specs.Prelude.{IfOk}
use Rattle.std.proofs.lemmas.Bool.{cases_lt}
use Rattle.std.proofs.lemmas.Result.{IfOk-weaker}
use Rattle.xet_base.specs.Source.{after_seek}
use Rattle.xet_base.specs.Search.Table.{IsSorted, Answers}
use Rattle.xet_base.specs.Steps.SearchSteps.{table_in, ReadsKey, StopsWithin, FindsFrom, Counts, ReadsThrough, Runs}
use Rattle.xet_base.proofs.Search.Turns.{mid_serves, searches_start, searches_below, searches_above, searches_equal}
use Rattle.xet_base.proofs.Search.Bounds.{bounded_key_not, bounded_runs, bounded_seek_not, bounded_passes, count_at_last}
use Rattle.xet_base.proofs.interpolation_search.search_rows.Goals as goal
use Rattle.xet_base.proofs.interpolation_search.search_rows.Goals.{then-found-key+in_ok-count, else-found-key}

pub loop-window-init : goal.loop-window-init
loop-window-init g c = searches_start _ c.args.key _ _ _ c.args.results.now c.ranges.key.fits c.new-window.ensures

pub returns-in_err-found-clause-bounds : goal.returns-in_err-found-clause-bounds
returns-in_err-found-clause-bounds g c sorted =
    let t = table_in c.args.range (g.S.ShardSource.meaning c.args.source.now).bytes in
    let now = g.S.ShardSource.meaning c.loop-window.source in
    let new = g.S.ShardSource.meaning c.read_key_of.new.source in
    bounded_key_not t c.args.key _ c.loop-window.window _ now c.args.results.now c.loop-window.results c.loop-window.count c.loop-window.invariant sorted new
    c.in_err-found.field-0.0
    (subst (λ bytes. StopsWithin (table_in c.args.range bytes) 1 8 now new c.in_err-found.field-0.0) c.loop-window.invariant.no_failure.bytes c.in_err-found.ensures)

pub returns-in_err-count-clause-bounds : goal.returns-in_err-count-clause-bounds
returns-in_err-count-clause-bounds g c sorted =
    let t = table_in c.args.range (g.S.ShardSource.meaning c.args.source.now).bytes in
    let w = c.loop-window.window in
    let now = g.S.ShardSource.meaning c.loop-window.source in
    let mid = g.S.ShardSource.meaning c.read_key_of.new.source in
    let new = g.S.ShardSource.meaning c.keep_equal.new.source in
    let so_far = c.loop-window.invariant in
    let found = c.in_ok-found.found in
    let running : w.low + 256 < w.high = omega (arith, c.loop-window-test.true) in
    let reads = subst (λ bytes. ReadsKey (table_in c.args.range bytes) (w.probe - 1) now mid found) so_far.no_failure.bytes c.in_ok-found.ensures in
    let same = (mid_serves t c.args.key _ w _ now mid c.args.results.now c.loop-window.results c.loop-window.count found so_far running reads).bytes in
    bounded_runs t c.args.key _ w _ now c.args.results.now c.loop-window.results c.loop-window.count so_far sorted mid new found running reads
    (subst (λ bytes. Runs (table_in c.args.range bytes) c.args.key (w.probe - 1) (w.high - 1) mid new) same c.keep_equal.ensures.runs)

pub loop-window-preserved : goal.loop-window-preserved
loop-window-preserved g c =
    let meaning = g.S.ShardSource.meaning in
    let old = meaning c.args.source.now in
    let t = table_in c.args.range old.bytes in
    let Gives = Answers (λ s. meaning s.now) (goal.F-post g c.args.read_value.now) c.args.range.width in
    let w = c.loop-window.window in
    let now = meaning c.loop-window.source in
    let mid = meaning c.read_key_of.new.source in
    let so_far = c.loop-window.invariant in
    let found = c.in_ok-found.found in
    let running : w.low + 256 < w.high = omega (arith, c.loop-window-test.true) in
    let reads = subst (λ bytes. ReadsKey (table_in c.args.range bytes) (w.probe - 1) now mid found) so_far.no_failure.bytes c.in_ok-found.ensures in
    let narrows = c.after-window.ensures.narrows in
    let steps = c.after-window.ensures.even in
    let next = c.after-window.result in
    elim c.if-found-key.branch [
      | then-found-key+in_ok-count v ↦
          let same = (mid_serves t c.args.key Gives w old now mid c.args.results.now c.loop-window.results c.loop-window.count found so_far running reads).bytes in
          let new = meaning v.keep_equal.new.source in
          rw (v.source-is, v.results-is, v.count-is)
          (searches_equal t c.args.key Gives w old now mid c.args.results.now c.loop-window.results c.loop-window.count found so_far running reads
          next new v.keep_equal.new.results v.in_ok-count.count v.if-found-key.true (narrows.equal v.if-found-key.true) steps v.in_ok-count.ensures.no_failure
          (subst (λ bytes. Runs (table_in c.args.range bytes) c.args.key (w.probe - 1) (w.high - 1) mid new) same v.keep_equal.ensures.runs)
          (subst (λ bytes. (before : List g.row.V.Denot) → FindsFrom (table_in c.args.range bytes) c.args.key Gives (w.high - 1) before c.loop-window.results c.loop-window.count
          → FindsFrom (table_in c.args.range bytes) c.args.key Gives (w.probe - 1) before v.keep_equal.new.results v.in_ok-count.count) same v.in_ok-count.ensures.found
          c.args.results.now so_far.finds)
          c.loop-window.auto.results
          (subst (λ bytes. IsSorted (table_in c.args.range bytes) → Counts (table_in c.args.range bytes) c.args.key (w.probe - 1) (w.high - 1) (length c.loop-window.results)
          c.loop-window.count v.in_ok-count.count) same v.in_ok-count.ensures.count))
      | else-found-key v ↦ rw (v.source-is, v.results-is, v.count-is) (elim (cases_lt c.args.key found) [
        | inl past ↦ searches_below t c.args.key Gives w old now mid c.args.results.now c.loop-window.results c.loop-window.count found so_far running reads next past (narrows.below past) steps
        | inr not_past ↦ let past : found < c.args.key = omega (arith, not_past, v.if-found-key.false) in
            searches_above t c.args.key Gives w old now mid c.args.results.now c.loop-window.results c.loop-window.count found so_far running reads next past (narrows.above past) steps
      ])
    ]

pub returns-in_err-seek_to-clause-bounds : goal.returns-in_err-seek_to-clause-bounds
returns-in_err-seek_to-clause-bounds g c sorted =
    bounded_seek_not _ c.args.key _ c.loop-window.window _ _ c.args.results.now c.loop-window.results c.loop-window.count c.loop-window.invariant sorted _ _ c.in_err-seek_to.ensures

pub returns-clause-found : goal.returns-clause-found
returns-clause-found g c =
    let t = table_in c.args.range (g.S.ShardSource.meaning c.args.source.now).bytes in
    let Gives = Answers (λ s. g.S.ShardSource.meaning s.now) (goal.F-post g c.args.read_value.now) c.args.range.width in
    let w = c.loop-window.window in
    let new = c.collect.new.results in
    let same = ap (λ s. s.bytes) c.in_ok-seek_to.ensures ∙ c.loop-window.invariant.no_failure.bytes in
    IfOk-weaker c.collect.result (FindsFrom t c.args.key Gives w.low c.args.results.now new) _ (λ n found. found.finds)
    (subst (λ bytes. (before : List g.row.V.Denot) → FindsFrom (table_in c.args.range bytes) c.args.key Gives (w.high - 1) before c.loop-window.results c.loop-window.count
    → IfOk c.collect.result (FindsFrom (table_in c.args.range bytes) c.args.key Gives w.low before new)) same c.collect.ensures.found
    c.args.results.now c.loop-window.invariant.finds)

pub returns-clause-count : goal.returns-clause-count
returns-clause-count g c sorted =
    let t = table_in c.args.range (g.S.ShardSource.meaning c.args.source.now).bytes in
    let w = c.loop-window.window in
    let same = ap (λ s. s.bytes) c.in_ok-seek_to.ensures ∙ c.loop-window.invariant.no_failure.bytes in
    IfOk-weaker c.collect.result (Counts t c.args.key w.low (w.high - 1) (length c.loop-window.results) c.loop-window.count) _
    (λ n counts. count_at_last t c.args.key _ w _ _ c.args.results.now c.loop-window.results c.loop-window.count c.loop-window.invariant sorted n c.loop-window.auto.results counts)
    (subst (λ bytes. IsSorted (table_in c.args.range bytes) → IfOk c.collect.result
    (Counts (table_in c.args.range bytes) c.args.key w.low (w.high - 1) (length c.loop-window.results) c.loop-window.count)) same c.collect.ensures.count sorted)

pub returns-clause-bounds : goal.returns-clause-bounds
returns-clause-bounds g c sorted =
    let t = table_in c.args.range (g.S.ShardSource.meaning c.args.source.now).bytes in
    let w = c.loop-window.window in
    let now = g.S.ShardSource.meaning c.loop-window.source in
    let mid = g.S.ShardSource.meaning c.seek_to.new.self in
    let new = g.S.ShardSource.meaning c.collect.new.source in
    let same = ap (λ s. s.bytes) c.in_ok-seek_to.ensures ∙ c.loop-window.invariant.no_failure.bytes in
    bounded_passes t c.args.key _ w _ now c.args.results.now c.loop-window.results c.loop-window.count c.loop-window.invariant sorted mid new
    (omega (arith, c.loop-window-test.false)) (c.in_ok-seek_to.ensures ∙ ap (after_seek now) c.row_offset.ensures)
    (subst (λ bytes. ReadsThrough (table_in c.args.range bytes) w.low (w.high - 1) mid new) same c.collect.ensures.passes)
