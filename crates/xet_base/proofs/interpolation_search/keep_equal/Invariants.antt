use Rattle.xet_base.specs.Search.Table.{Answers}
use Rattle.xet_base.specs.Steps.SearchSteps.{table_in}
use Rattle.xet_base.proofs.Search.Progress.{Keeps}
use Rattle.xet_base.proofs.interpolation_search.keep_equal.Given as goal

abbrev pub invariant-loop-row : goal.invariant-loop-row
invariant-loop-row g l =
    let meaning = g.S.ShardSource.meaning in
    let old = meaning l.fn.source in
    Keeps (table_in l.fn.range old.bytes) l.key (Answers (λ s. meaning s.now) (goal.F-post g l.read_value) l.fn.range.width)
    l.fn.rows.start l.row l.fn.rows.end old (meaning l.source) l.fn.results l.results l.had l.count
