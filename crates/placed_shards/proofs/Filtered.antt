-- What a test keeps of records.
use Rattle.std.proofs.Common.{◌≡◌, ℕ, ◌≤◌, Bool, true, false, List, [], ◌∷◌, length, refl, ap, subst, arith}
use Rattle.std.specs.Prelude.{sum_by}
use Rattle.std.specs.List.{items_where_true}
use Rattle.std.specs.List.Retain.{IsFiltered, ReturnsInTurn}
use Rattle.std.proofs.lemmas.List.Sums.{sum_by-cons}
use Rattle.xet_shards.specs.StreamingShard.MinimalShard.{IsKept}

module _ {X P : Type 0} (R : P → X → Bool → P → Type 0) (answers : X → Bool → Type 0) (f : P) (says : (x : X) (b : Bool) (g : P) → R f x b g → answers x b × (g ≡ f)) where
  walk : (bs : List Bool) (xs ys : List X) (q : P) → length bs ≡ length xs → ReturnsInTurn R f bs xs q → ys ≡ items_where_true bs xs → IsKept answers xs ys
  walk [] [] ys q len turn is = is
  walk [] (x ∷ xs) ys q len turn is = absurd (omega (arith, len))
  walk (b ∷ bs) [] ys q len turn is = absurd turn
  walk (true ∷ bs) (x ∷ xs) ys q len turn is =
      let said = says x true turn.0 turn.1 in
      (true, said.0, items_where_true bs xs, walk bs xs (items_where_true bs xs) q (omega (arith, len)) (subst (λ g. ReturnsInTurn R g bs xs q) said.1 turn.2) refl, is)
  walk (false ∷ bs) (x ∷ xs) ys q len turn is =
      let said = says x false turn.0 turn.1 in
      (false, said.0, items_where_true bs xs, walk bs xs (items_where_true bs xs) q (omega (arith, len)) (subst (λ g. ReturnsInTurn R g bs xs q) said.1 turn.2) refl, is)

  pub kept_from_filtered : (xs ys : List X) → IsFiltered R f xs ys → IsKept answers xs ys
  kept_from_filtered xs ys filtered = walk filtered.0 xs ys filtered.1 filtered.2 filtered.3 filtered.4

-- what is kept has no more rows
pub sum_kept : {X : Type 0} (answers : X → Bool → Type 0) (f : X → ℕ) (xs kept : List X) → IsKept answers xs kept → sum_by f kept ≤ sum_by f xs
sum_kept answers f [] kept is = omega (arith, ap (sum_by f) is)
sum_kept answers f (x ∷ xs) kept (true, answer, rest, before, is) =
    omega (arith, ap (sum_by f) is, sum_by-cons f x rest, sum_by-cons f x xs, sum_kept answers f xs rest before)
sum_kept answers f (x ∷ xs) kept (false, answer, rest, before, is) =
    omega (arith, ap (sum_by f) is, sum_by-cons f x xs, sum_kept answers f xs rest before)
