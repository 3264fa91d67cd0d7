use Rattle.std.proofs.Common.{◌-◌}
use Rattle.xet_base.specs.Search.Table.{Answers}
use Rattle.xet_base.specs.Steps.SearchSteps.{table_in}
use Rattle.xet_base.proofs.Search.Progress.{Searches}
use Rattle.xet_base.proofs.interpolation_search.search_rows.Given as goal

abbrev pub invariant-loop-window : goal.invariant-loop-window
invariant-loop-window g l =
    let meaning = g.S.ShardSource.meaning in
    let old = meaning l.fn.source in
    Searches (table_in l.fn.range old.bytes) l.key (Answers (λ s. meaning s.now) (goal.F-post g l.read_value) l.fn.range.width)
    l.window old (meaning l.source) l.fn.results l.results l.count

abbrev pub decreases-loop-window : goal.decreases-loop-window
decreases-loop-window g l = l.window.high - l.window.low
