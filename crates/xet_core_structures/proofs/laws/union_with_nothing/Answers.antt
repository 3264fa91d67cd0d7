use Rattle.xet_shards.proofs.Content.Unions.{union-empty, union-of_empty}
use Rattle.xet_core_structures.proofs.laws.union_with_nothing.Goals as goal

pub returns-clause-right : goal.returns-clause-right
returns-clause-right c = union-empty

pub returns-clause-left : goal.returns-clause-left
returns-clause-left c = union-of_empty
