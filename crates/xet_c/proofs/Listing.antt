-- Records of a list, each with its part of another list.
use Rattle.std.proofs.Common.{◌≡◌, ℕ, zero, suc, ◌+◌, ◌<◌, ◌≤◌, Bool, false, true≢false, List, [], ◌∷◌, ◌++◌, length, get_or, take, drop, refl, sym, ap, ◌∙◌, subst, arith}
use Rattle.std.specs.Prelude.{◌==◌, sum_by}
use Rattle.std.proofs.Math.Seq.{take-length, drop-length}
use Rattle.std.proofs.lemmas.List.{take_more, take_all, take-append-le, drop-append-le, take-append-drop, length-append, length-drop, length-take-le}
use Rattle.std.proofs.lemmas.List.Sums.{sum_by-cons, sum_by_more_le}
use Rattle.xet_c.specs.ListedRecords.{AreListed, AddUp}

append_nil : {X : Type 0} (xs : List X) → xs ++ [] ≡ xs
append_nil [] = refl
append_nil (x ∷ xs) = ap (λ ys. x ∷ ys) (append_nil xs)

append_assoc : {X : Type 0} (xs ys zs : List X) → (xs ++ ys) ++ zs ≡ xs ++ (ys ++ zs)
append_assoc [] ys zs = refl
append_assoc (x ∷ xs) ys zs = ap (λ ws. x ∷ ws) (append_assoc xs ys zs)

module _ {L I R : Type 0} (count : L → ℕ) (IsListed : L → List I → R → Type 0) where
  pub listed_sum : (ls : List L) (items : List I) (rs : List R) → AreListed count IsListed ls items rs → sum_by count ls ≡ length items
  listed_sum [] items [] none = sym (ap length none)
  listed_sum (l ∷ ls) items (r ∷ rs) (fits, one, more) =
      omega (arith, sum_by-cons count l ls, listed_sum ls (drop (count l) items) rs more, length-drop (count l) items, fits)
  listed_sum [] items (r ∷ rs) none = absurd none
  listed_sum (l ∷ ls) items [] none = absurd none

  -- one record more, with the next items
  pub listed_push : (ls : List L) (items own : List I) (rs : List R) (l : L) (r : R) → AreListed count IsListed ls items rs → count l ≡ length own → IsListed l own r
      → AreListed count IsListed (ls ++ l ∷ []) (items ++ own) (rs ++ r ∷ [])
  listed_push [] items own [] l r none size one =
      let own_is : items ++ own ≡ own = ap (λ xs. xs ++ own) none in
      let fits : count l ≤ length (items ++ own) = omega (arith, size, ap length own_is) in (
        fits,
        subst (λ xs. IsListed l xs r) (sym (ap (take (count l)) own_is ∙ take_all (count l) own (omega (arith, size)))) one,
        ap (drop (count l)) own_is ∙ ap (λ n. drop n own) size ∙ drop-length own,
      )
  listed_push (x ∷ ls) items own (y ∷ rs) l r (fits, first, more) size one = (
    omega (arith, fits, length-append items own),
    subst (λ xs. IsListed x xs y) (sym (take-append-le (count x) items own fits)) first,
    subst (λ xs. AreListed count IsListed (ls ++ l ∷ []) xs (rs ++ r ∷ [])) (sym (drop-append-le (count x) items own fits)) (listed_push ls (drop (count x) items) own rs l r more size one),
  )
  listed_push [] items own (y ∷ rs) l r none size one = absurd none
  listed_push (x ∷ ls) items own [] l r none size one = absurd none

  -- the records of the list up to an index have the items in front of the rest
  abbrev pub HasListed : List L → List I → ℕ → List I → List R → Type 0
  HasListed ls items i rest rs = (front : List I) × (items ≡ front ++ rest) × AreListed count IsListed (take i ls) front rs

  pub more_listed : (ls : List L) (items : List I) (i : ℕ) (rest own after : List I) (rs new : List R) (d : L) (r : R) → i < length ls → HasListed ls items i rest rs → count (get_or ls i d) ≤ length rest
      → own ≡ take (count (get_or ls i d)) rest → after ≡ drop (count (get_or ls i d)) rest → IsListed (get_or ls i d) own r → new ≡ rs ++ r ∷ [] → HasListed ls items (i + 1) after new
  more_listed ls items i rest own after rs new d r below (front, split, so_far) fits own_is after_is one is =
      let l = get_or ls i d in (
        front ++ own,
        split ∙ ap (λ xs. front ++ xs) (sym (take-append-drop (count l) rest)) ∙ sym (λ k. front ++ (own_is k ++ after_is k)) ∙ sym (append_assoc front own after),
        subst (λ xs. AreListed count IsListed xs (front ++ own) new) (sym (take_more ls i d below))
            (subst (AreListed count IsListed (take i ls ++ l ∷ []) (front ++ own)) (sym is)
            (listed_push (take i ls) front own rs l r so_far (sym (ap length own_is ∙ length-take-le (count l) rest fits)) one)),
      )

  -- too few items for the next record
  pub too_few : (ls : List L) (items : List I) (i : ℕ) (rest : List I) (rs : List R) (d : L) → i < length ls → HasListed ls items i rest rs → length rest < count (get_or ls i d) → ¬ AddUp count ls items
  too_few ls items i rest rs d below (front, split, listed) few adds =
      omega (arith, adds, ap length split, length-append front rest, listed_sum (take i ls) front rs listed, sum_by_more_le count ls i d below, few)

  -- items that no record has
  pub too_many : (ls : List L) (items : List I) (i : ℕ) (rest : List I) (rs : List R) → length ls ≤ i → i ≤ length ls → HasListed ls items i rest rs → 0 < length rest → ¬ AddUp count ls items
  too_many ls items i rest rs done within (front, split, listed) more adds =
      let end : i ≡ length ls = omega (arith, done, within) in
      omega (arith, adds, ap length split, length-append front rest, listed_sum (take i ls) front rs listed, ap (λ n. sum_by count (take n ls)) end, ap (sum_by count) (take-length ls), more)

some_left : (n : ℕ) (b : Bool) → b ≡ (n == 0) → b ≡ false → 0 < n
some_left zero b is not = absurd (true≢false (sym is ∙ not))
some_left (suc n) b is not = omega arith

pub are_left : {I : Type 0} (rest : List I) (b : Bool) → b ≡ (length rest == 0) → b ≡ false → 0 < length rest
are_left rest b is not = some_left (length rest) b is not
