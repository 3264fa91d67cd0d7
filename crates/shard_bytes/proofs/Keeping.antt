-- What a filter keeps.
use Rattle.std.proofs.Common.{◌≡◌, ◌↔◌, Bool, true, false, ℕ, ◌+◌, ◌<◌, List, [], ◌∷◌, ◌++◌, length, take, get_or, sym, subst, IsTrue, rules}
use Rattle.std.proofs.lemmas.List.{take_more}
use Rattle.xet_shards.proofs.StreamingShard.MinimalWriting.{one_kept, none_kept}
use Rattle.xet_core_structures.specs.MinimalShard.{IsKept}

pub IsKept-wider : {X : Type 0} (Narrow Wide : X → Bool → Type 0) → ((x : X) (b : Bool) → Narrow x b → Wide x b) → (xs kept : List X) → IsKept Narrow xs kept → IsKept Wide xs kept
IsKept-wider Narrow Wide wider [] kept is = is
IsKept-wider Narrow Wide wider (x ∷ xs) kept (accepted, answers, rest, others, is) = (accepted, wider x accepted answers, rest, IsKept-wider Narrow Wide wider xs rest others, is)

-- one element more was looked at
module _ {X : Type 0} (answers : X → Bool → Type 0) (xs kept more : List X) (i : ℕ) (d : X) (below : i < length xs) (before : IsKept answers (take i xs) kept) where
  pub next_kept : answers (get_or xs i d) true → more ≡ kept ++ get_or xs i d ∷ [] → IsKept answers (take (i + 1) xs) more
  next_kept answer is =
      subst (λ ys. IsKept answers ys more) (sym (take_more xs i d below))
      (subst (IsKept answers (take i xs ++ get_or xs i d ∷ [])) (sym is) (one_kept answers (take i xs) kept (get_or xs i d) before answer))

  pub next_not_kept : answers (get_or xs i d) false → more ≡ kept → IsKept answers (take (i + 1) xs) more
  next_not_kept answer is =
      subst (λ ys. IsKept answers ys more) (sym (take_more xs i d below))
      (subst (IsKept answers (take i xs ++ get_or xs i d ∷ [])) (sym is) (none_kept answers (take i xs) kept (get_or xs i d) before answer))

-- the answer to whether something is not so
pub not_so : (found : Bool) (P : Type 0) → (IsTrue found ↔ P) → found ≡ false → IsTrue true ↔ (¬ P)
not_so found P decides is = search rules

pub but_so : (found : Bool) (P : Type 0) → (IsTrue found ↔ P) → found ≡ true → IsTrue false ↔ (¬ P)
but_so found P decides is = search rules

pub both_so : {P Q R : Type 0} → P ↔ Q → Q ↔ R → P ↔ R
both_so one other = (λ p. other.0 (one.0 p), λ r. one.1 (other.1 r))
