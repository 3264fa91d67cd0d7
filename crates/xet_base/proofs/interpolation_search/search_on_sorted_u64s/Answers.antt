use Rattle.std.proofs.Common.{subst}
use Rattle.xet_base.specs.Search.Table.{IsSorted, SearchIsBounded}
use Rattle.xet_base.proofs.Search.Steps.{same_table, found_at}
use Rattle.xet_base.proofs.Search.Collecting.{finds_none}
use Rattle.xet_base.proofs.interpolation_search.search_on_sorted_u64s.Goals as goal

pub returns-then-is_empty-clause-found : goal.returns-then-is_empty-clause-found
returns-then-is_empty-clause-found g c = finds_none _ c.args.key _ c.args.results.now

pub returns-clause-found : goal.returns-clause-found
returns-clause-found g c =
    found_at c.in-Some.range (g.S.ShardSource.meaning c.args.source.now) c.args.read_start c.args.num_entries c.args.value_width c.args.key _
    (λ s. g.S.ShardSource.meaning s.now) (goal.F-post g c.args.read_value) c.args.results.now _
    c.in-Some.ensures.some c.in_ok-search_rows.ensures.found

pub returns-clause-bounds : goal.returns-clause-bounds
returns-clause-bounds g c =
    let old = g.S.ShardSource.meaning c.args.source.now in
    subst (λ t. IsSorted t → SearchIsBounded t c.args.key old (g.S.ShardSource.meaning c.search_rows.new.source))
    (same_table c.in-Some.range old c.args.read_start c.args.num_entries c.args.value_width c.in-Some.ensures.some) c.in_ok-search_rows.ensures.bounds
