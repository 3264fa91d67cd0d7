use Rattle.xet_shards.proofs.Content.Joins.{union_is_join}
use Rattle.xet_shards.proofs.Content.Unions.{union-comm}
use Rattle.xet_core_structures.proofs.laws.union_commutes.Goals as goal

pub returns-clause-join : goal.returns-clause-join
returns-clause-join c = union_is_join

pub returns-clause-order : goal.returns-clause-order
returns-clause-order c = union-comm
