use Rattle.std.proofs.Common.{rules}
use Rattle.std.proofs.lemmas.List.Sorted.{IsPartitionPoint-from_clause}
use Rattle.mdb_garbage.specs.Order.{is_up_to}
use Rattle.mdb_garbage.proofs.Runs.{up_to_first}
use Rattle.mdb_garbage.proofs.sorted.end_of.Goals as goal

pub returns-clause-point : goal.returns-clause-point
returns-clause-point c =
    IsPartitionPoint-from_clause (is_up_to c.args.hash) _ _ c.partition_point.ensures.partitioned (up_to_first c.args.segments.now c.requires c.args.hash) (λ a r q k. search rules)
