use Rattle.placed_shards.proofs.HeldParts.{all_are_selected, list_selected, part_selected}
use Rattle.placed_shards.proofs.laws.merges.held_shards_are_selected.Goals as goal

pub returns-clause-one : goal.returns-clause-one
returns-clause-one c = part_selected

pub returns-clause-list : goal.returns-clause-list
returns-clause-list c = list_selected

pub returns-clause-all : goal.returns-clause-all
returns-clause-all c = all_are_selected
