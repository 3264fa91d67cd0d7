use Rattle.xet_core_structures.proofs.LawProofs.UnionSizes.{rows_of_union, bytes_of_union, bytes_of_tree, bytes_of_difference, bytes_of_repetition}
use Rattle.xet_core_structures.proofs.laws.sizes.results_are_bounded.Goals as goal

pub returns-clause-rows : goal.returns-clause-rows
returns-clause-rows c = rows_of_union

pub returns-clause-bytes : goal.returns-clause-bytes
returns-clause-bytes c = bytes_of_tree

pub returns-clause-repetition : goal.returns-clause-repetition
returns-clause-repetition c = bytes_of_repetition

pub returns-clause-union : goal.returns-clause-union
returns-clause-union c = bytes_of_union

pub returns-clause-difference : goal.returns-clause-difference
returns-clause-difference c = bytes_of_difference
