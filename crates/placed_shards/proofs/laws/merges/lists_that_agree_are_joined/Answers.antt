use Rattle.placed_shards.proofs.AgreeingLists.{list_agrees, list_made, list_refused}
use Rattle.placed_shards.proofs.laws.merges.lists_that_agree_are_joined.Goals as goal

pub returns-clause-agree : goal.returns-clause-agree
returns-clause-agree c = list_agrees

pub returns-clause-made : goal.returns-clause-made
returns-clause-made c = list_made

pub returns-clause-refused : goal.returns-clause-refused
returns-clause-refused c = list_refused
