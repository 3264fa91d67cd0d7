use Rattle.placed_shards.proofs.Equations.AnyOrder.{turned, grouped}
use Rattle.placed_shards.proofs.Equations.Groups.{last_united}
use Rattle.placed_shards.proofs.laws.unions.unions_in_any_order.Goals as goal

pub returns-clause-turned : goal.returns-clause-turned
returns-clause-turned c = turned

pub returns-clause-grouped : goal.returns-clause-grouped
returns-clause-grouped c = grouped

pub returns-clause-united : goal.returns-clause-united
returns-clause-united c = last_united
