-- The pair at which a loop over two lists side by side is.
use Rattle.std.proofs.Common.{arith, ◌≡◌, ℕ, ◌+◌, ◌<◌, List, [], ◌∷◌, ◌++◌}
use Rattle.std.proofs.Common.{zip, take, length, get_or, ap, sym, subst, ◌∙◌}
use Rattle.std.specs.List.{Contains}
use Rattle.std.proofs.lemmas.List.{take_more}
use Rattle.std.proofs.lemmas.List.Elements.{Contains-get_or}
use Rattle.std.proofs.lemmas.Slice.Zip.{length-zip, get_or-zip}

module _ {A B : Type 0} (xs : List A) (ys : List B) (n : ℕ) (x : A) (y : B)
    (in_xs : n < length xs) (in_ys : n < length ys) (x_is : x ≡ get_or xs n x) (y_is : y ≡ get_or ys n y) where
  at_turn : get_or (zip xs ys) n (x, y) ≡ (x, y)
  at_turn = get_or-zip xs ys n (x, y) in_xs in_ys ∙ (λ i. (sym x_is i, sym y_is i))

  within : n < length (zip xs ys)
  within = omega (arith, length-zip xs ys, in_xs, in_ys)

  pub take_turn : take (n + 1) (zip xs ys) ≡ take n (zip xs ys) ++ (x, y) ∷ []
  take_turn = take_more (zip xs ys) n (x, y) within ∙ ap (λ p. take n (zip xs ys) ++ p ∷ []) at_turn

  pub contains_turn : Contains (zip xs ys) (x, y)
  contains_turn = subst (Contains (zip xs ys)) at_turn (Contains-get_or (zip xs ys) n (x, y) within)
