use Rattle.xet_core_structures.proofs.LawProofs.ByteLaws.{bytes_with_difference}
use Rattle.xet_core_structures.proofs.laws.unions_with_differences.Goals as goal

pub returns : goal.returns
returns c = bytes_with_difference
