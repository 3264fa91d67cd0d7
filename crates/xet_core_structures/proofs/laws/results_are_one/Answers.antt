use Rattle.xet_core_structures.proofs.Records.OneResult.{one_union, one_difference, one_string}
use Rattle.xet_core_structures.proofs.laws.results_are_one.Goals as goal

pub returns-clause-union : goal.returns-clause-union
returns-clause-union c = one_union

pub returns-clause-difference : goal.returns-clause-difference
returns-clause-difference c = one_difference

pub returns-clause-bytes : goal.returns-clause-bytes
returns-clause-bytes c = one_string
