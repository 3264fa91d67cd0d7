use Rattle.xet_core_structures.proofs.LawProofs.ByteLaws.{bytes_commute, bytes_associate, bytes_repeat, bytes_with_nothing, bytes_of_nothing}
use Rattle.xet_core_structures.proofs.laws.unions_of_bytes.Goals as goal

pub returns-clause-order : goal.returns-clause-order
returns-clause-order c = bytes_commute

pub returns-clause-grouping : goal.returns-clause-grouping
returns-clause-grouping c = bytes_associate

pub returns-clause-repetition : goal.returns-clause-repetition
returns-clause-repetition c = bytes_repeat

pub returns-clause-right : goal.returns-clause-right
returns-clause-right c = bytes_with_nothing

pub returns-clause-left : goal.returns-clause-left
returns-clause-left c = bytes_of_nothing
