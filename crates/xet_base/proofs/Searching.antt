-- A search among sorted hashes.
use Rattle.std.proofs.Common.{◌≡◌, ◌↔◌, ⊎_elim, ℕ, List, length, IsTrue, Contains, Ok, Err, sym, ap, ◌∙◌, subst, true≢false, rules}
use Rattle.std.specs.declared.cmp.Ordering.TheVariants.{Less, Equal, Greater}
use Rattle.std.specs.declared.result.Result.{Result}
use Rattle.std.specs.List.Sorted.{IsSorted, IsBinarySearchResult, IsSearchInRange}
use Rattle.std.specs.Ordering.{is_lt, is_gt}
use Rattle.std.specs.Result.{is_ok}
use Rattle.std.proofs.lemmas.Bool.{cases_lt}
use Rattle.std.proofs.lemmas.Cmp.{tied_itself}
use Rattle.std.proofs.lemmas.List.Sorted.{searchable_from_sorted}
use Rattle.xet_base.specs.declared.merklehash.DataHash.{DataHash}
use Rattle.xet_base.specs.Hash.{hash_cmp}
use Rattle.xet_base.proofs.HashOrder.{hash_cmp-IsTotalOrder, hash_cmp-IsAntisymmetric}

module _ (hash : DataHash) where
  itself : hash_cmp hash hash ≡ Equal
  itself = tied_itself hash_cmp-IsTotalOrder hash

  not_less : (other : DataHash) → other ≡ hash → ¬ (hash_cmp other hash ≡ Less)
  not_less other same less = true≢false (sym (ap is_lt (subst (λ h. hash_cmp h hash ≡ Less) same less)) ∙ ap is_lt itself)

  not_greater : (other : DataHash) → other ≡ hash → ¬ (hash_cmp other hash ≡ Greater)
  not_greater other same greater = true≢false (sym (ap is_gt (subst (λ h. hash_cmp h hash ≡ Greater) same greater)) ∙ ap is_gt itself)

  pub search_is_in_range : (hashes : List DataHash) (found : Result ℕ ℕ) → IsSorted hash_cmp hashes → IsSearchInRange found (length hashes)
      → IsBinarySearchResult (λ h. hash_cmp h hash) hashes found → IsTrue (is_ok found) ↔ Contains hashes hash
  search_is_in_range hashes (Ok i) sorted within at = (λ _. (i, within, hash_cmp-IsAntisymmetric _ _ (at hash)), λ _. search rules)
  search_is_in_range hashes (Err i) sorted within at = (
    λ is. absurd (search rules),
    λ (k, below, same).
        let parts = at (searchable_from_sorted hash_cmp-IsTotalOrder (λ (h : DataHash). h) hashes hash sorted) in
        absurd (⊎_elim (λ before. not_less _ same (parts.0 k hash (search rules) before))
        (λ after. not_greater _ same (parts.1 k hash after below)) (cases_lt k i)),
  )
