use Rattle.std.proofs.Common.{rules}
use Rattle.std.proofs.lemmas.Result.{on_ok_weaker}
use Rattle.std.proofs.lemmas.List.Sorted.{IsNonDecreasingBy-from_sort_by_key}
use Rattle.mdb_overview.specs.Totals.{bytes_left}
use Rattle.mdb_overview.proofs.overview.Overview.sort.Goals as goal

-- the closure's keys are these
pub returns-clause-sorted : goal.returns-clause-sorted
returns-clause-sorted c = on_ok_weaker c.sort_by_key.result
    (λ sorted. IsNonDecreasingBy-from_sort_by_key bytes_left c.sort_by_key.new.self.items sorted (λ a r q k. search rules))
    c.sort_by_key.ensures.sorted
