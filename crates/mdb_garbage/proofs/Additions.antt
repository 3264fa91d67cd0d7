-- What is added to a list, step by step.
use Rattle.std.proofs.Common.{◌≡◌, ◌↔◌, ◌⊎◌, inl, inr, ⊎_elim, ℕ, ◌+◌, ◌<◌, ◌≤◌, List, length, get_or, Option, None, Some, refl, sym, ap, ◌∙◌, subst, arith}
use Rattle.std.specs.Prelude.{Contains, slice_get}
use Rattle.std.proofs.lemmas.Option.{none-some, same_Some, slice_get_within, slice_get-get_or, get_or_from_slice_get, slice_get_read}
use Rattle.xet_base.specs.declared.merklehash.DataHash.{DataHash}
use Rattle.mdb_garbage.specs.declared.finding.Misfit.{Misfit}
use Rattle.mdb_garbage.specs.declared.finding.GarbageFinding.{GarbageFinding}
use Rattle.mdb_garbage.specs.Steps.{Adds, IsFound, IsOneOf}
use Rattle.mdb_garbage.proofs.FileSegments.{below_or_at}

module _ {X : Type 0} where
  pub adds_none : (P : X → Type 0) (xs : List X) → ((x : X) → ¬ P x) → Adds P xs xs
  adds_none P xs none = record { kept = λ x has. has; added = λ x is. absurd (none x is); each = λ x has. inl has }

  pub adds_as : (P Q : X → Type 0) (old new : List X) → ((x : X) → P x → Q x) → ((x : X) → Q x → P x) → Adds P old new → Adds Q old new
  adds_as P Q old new to back adds = record {
    kept = adds.kept;
    added = λ x is. adds.added x (back x is);
    each = λ x has. ⊎_elim (λ there. inl there) (λ is. inr (to x is)) (adds.each x has);
  }

  pub adds_then : (P Q : X → Type 0) (old now new : List X) → Adds P old now → Adds Q now new → Adds (λ x. P x ⊎ Q x) old new
  adds_then P Q old now new first second = record {
    kept = λ x has. second.kept x (first.kept x has);
    added = λ x is. ⊎_elim (λ p. second.kept x (first.added x p)) (λ q. second.added x q) is;
    each = λ x has. of x (second.each x has);
  } where
    of : (x : X) → Contains now x ⊎ Q x → Contains old x ⊎ (P x ⊎ Q x)
    of x (inl there) = ⊎_elim (λ before. inl before) (λ is. inr (inl is)) (first.each x there)
    of x (inr is) = inr (inr is)

-- nothing is found without a misfit
pub found_none : (hash : DataHash) (old : List GarbageFinding) → Adds (IsFound hash None) old old
found_none hash old = adds_none (IsFound hash None) old (λ f is. none-some f.misfit is.1)

module _ {T : Type 0} (hash_of : T → DataHash) (F : T → Misfit → Type 0) (xs : List T) where
  -- a misfit of one of the first values
  abbrev pub IsUpTo : ℕ → GarbageFinding → Type 0
  IsUpTo n f = (i : ℕ) × (x : T) × (i < n) × (slice_get xs i ≡ Some x) × (f.xorb ≡ hash_of x) × F x f.misfit

  pub up_to_start : (old : List GarbageFinding) → Adds (IsUpTo 0) old old
  up_to_start old = adds_none (IsUpTo 0) old (λ f (i, x, low, at, of_x, is). omega (arith, low))

  pub up_to_more : (index : ℕ) (d : T) (hash : DataHash) (misfit : Option Misfit) (old now new : List GarbageFinding) → index < length xs → hash ≡ hash_of (get_or xs index d)
      → ((g : Misfit) → (misfit ≡ Some g) ↔ F (get_or xs index d) g) → Adds (IsUpTo index) old now → Adds (IsFound hash misfit) now new → Adds (IsUpTo (index + 1)) old new
  up_to_more index d hash misfit old now new low hash_is is before adds =
      adds_as (λ f. IsUpTo index f ⊎ IsFound hash misfit f) (IsUpTo (index + 1)) old new to back (adds_then (IsUpTo index) (IsFound hash misfit) old now new before adds)
    where
      x : T
      x = get_or xs index d

      at : slice_get xs index ≡ Some (get_or xs index d)
      at = slice_get-get_or xs index d low

      to : (f : GarbageFinding) → IsUpTo index f ⊎ IsFound hash misfit f → IsUpTo (index + 1) f
      to f (inl (i, y, less, y_at, of_y, is_f)) = (i, y, omega (arith, less), y_at, of_y, is_f)
      to f (inr (hash_of_f, misfit_of_f)) = (index, get_or xs index d, omega arith, at, hash_of_f ∙ hash_is, (is f.misfit).0 misfit_of_f)

      same : (i : ℕ) (y : T) → i ≡ index → slice_get xs i ≡ Some y → y ≡ get_or xs index d
      same i y is_at y_at = same_Some y (get_or xs index d) (sym y_at ∙ ap (slice_get xs) is_at ∙ at)

      of : (f : GarbageFinding) (i : ℕ) (y : T) → slice_get xs i ≡ Some y → f.xorb ≡ hash_of y → F y f.misfit → (i < index) ⊎ (i ≡ index) → IsUpTo index f ⊎ IsFound hash misfit f
      of f i y y_at of_y is_f (inl less) = inl (i, y, less, y_at, of_y, is_f)
      of f i y y_at of_y is_f (inr at_it) =
          let y_is = same i y at_it y_at in
          inr (of_y ∙ ap hash_of y_is ∙ sym hash_is, (is f.misfit).1 (subst (λ z. F z f.misfit) y_is is_f))

      back : (f : GarbageFinding) → IsUpTo (index + 1) f → IsUpTo index f ⊎ IsFound hash misfit f
      back f (i, y, below, y_at, of_y, is_f) = of f i y y_at of_y is_f (below_or_at i index below)

  pub up_to_all : (n : ℕ) (old new : List GarbageFinding) → length xs ≤ n → Adds (IsUpTo n) old new → Adds (IsOneOf hash_of F xs) old new
  up_to_all n old new past adds = adds_as (IsUpTo n) (IsOneOf hash_of F xs) old new to back adds where
    to : (f : GarbageFinding) → IsUpTo n f → IsOneOf hash_of F xs f
    to f (i, y, low, at, of_y, is) = (y, (i, slice_get_within xs i y at, get_or_from_slice_get xs i y y at), of_y, is)

    back : (f : GarbageFinding) → IsOneOf hash_of F xs f → IsUpTo n f
    back f (y, (i, low, there), of_y, is) = (i, y, omega (arith, low, past), slice_get_read xs (length xs) i y refl low (sym there), of_y, is)
