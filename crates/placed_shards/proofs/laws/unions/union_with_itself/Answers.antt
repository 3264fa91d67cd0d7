use Rattle.placed_shards.proofs.Equations.Unions.{itself_is, itself_united}
use Rattle.placed_shards.proofs.laws.unions.union_with_itself.Goals as goal

pub returns-clause-is : goal.returns-clause-is
returns-clause-is c = itself_is

pub returns-clause-exists : goal.returns-clause-exists
returns-clause-exists c = itself_united
