use Rattle.std.proofs.Common.{rules}
use Rattle.std.proofs.lemmas.List.Sorted.{IsPartitionPoint-from_clause}
use Rattle.mdb_garbage.specs.Order.{is_before}
use Rattle.mdb_garbage.proofs.Runs.{before_first}
use Rattle.mdb_garbage.proofs.sorted.start_of.Goals as goal

pub returns-clause-point : goal.returns-clause-point
returns-clause-point c =
    IsPartitionPoint-from_clause (is_before c.args.hash) _ _ c.partition_point.ensures.partitioned (before_first c.args.segments.now c.requires c.args.hash) (λ a r q k. search rules)
