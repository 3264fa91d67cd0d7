use Rattle.std.proofs.Common.{sym, ap, ◌∙◌}
use Rattle.std.proofs.lemmas.Cmp.{tied_itself}
use Rattle.xet_base.specs.Hash.{hash_cmp}
use Rattle.xet_base.proofs.HashOrder.{hash_cmp-IsTotalOrder, hash_cmp-IsAntisymmetric}
use Rattle.xet_base.proofs.merklehash.hashes_are_ordered_by_words.Goals as goal

pub returns-clause-total : goal.returns-clause-total
returns-clause-total c = hash_cmp-IsTotalOrder

pub returns-clause-ties : goal.returns-clause-ties
returns-clause-ties c = λ a b. (hash_cmp-IsAntisymmetric a b, λ same. ap (hash_cmp a) (sym same) ∙ tied_itself hash_cmp-IsTotalOrder a)
