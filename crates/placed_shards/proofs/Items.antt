-- The items of lists, by their places.
use Rattle.std.proofs.Common.{◌≡◌, ◌⊎◌, inl, inr, ℕ, zero, suc, ◌+◌, ◌<◌, ◌≤◌, List, [], ◌∷◌, ◌++◌, length, map, take, drop, get_or, Some, sym, ap, subst, ◌∙◌, arith, append_assoc}
use Rattle.std.specs.Prelude.{All, Contains, slice_get}
use Rattle.std.proofs.Math.Seq.{drop-append_seam}
use Rattle.std.proofs.lemmas.Bool.{cases_order}
use Rattle.std.proofs.lemmas.List.{map-append, take_more, take-append-drop}
use Rattle.std.proofs.lemmas.List.Elements.{All-drop, Contains-push_cases}
use Rattle.std.proofs.lemmas.Option.{slice_get_within, slice_get-get_or, get_or_from_slice_get}
use Rattle.xet_shards.proofs.StreamingShard.MinimalShard.{one_more_item}

-- an item at a place of a list is one of its items
pub has_at : {X : Type 0} (xs : List X) (i : ℕ) (x : X) → slice_get xs i ≡ Some x → Contains xs x
has_at xs i x at = (i, slice_get_within xs i x at, get_or_from_slice_get xs i x x at)

pub place_of_item : {X : Type 0} (xs : List X) (x : X) → Contains xs x → (i : ℕ) × (slice_get xs i ≡ Some x)
place_of_item xs x (i, low, is) = (i, slice_get-get_or xs i x low ∙ ap Some is)

-- what holds of all of a list holds of the second part of it
pub all_behind : {X : Type 0} (P : X → Type 0) (xs ys : List X) → All P (xs ++ ys) → All P ys
all_behind P xs ys all = subst (All P) (drop-append_seam xs ys) (All-drop P (length xs) (xs ++ ys) all)

-- the only item of a list of one
pub only_item : {X : Type 0} (x y : X) → Contains (x ∷ []) y → x ≡ y
only_item x y (zero, low, is) = is
only_item x y (suc k, low, is) = absurd (omega (arith, low))

pub below_or_at : (i n : ℕ) → i < n + 1 → (i < n) ⊎ (i ≡ n)
below_or_at i n low = of (cases_order i n) where
  of : (i ≡ n) ⊎ ((i < n) ⊎ (n < i)) → (i < n) ⊎ (i ≡ n)
  of (inl same) = inr same
  of (inr (inl less)) = inl less
  of (inr (inr more)) = absurd (omega (arith, more, low))

pub below_or_from : (i n : ℕ) → (i < n) ⊎ (n ≤ i)
below_or_from i n = of (cases_order i n) where
  of : (i ≡ n) ⊎ ((i < n) ⊎ (n < i)) → (i < n) ⊎ (n ≤ i)
  of (inl same) = inr (omega (arith, same))
  of (inr (inl less)) = inl less
  of (inr (inr more)) = inr (omega (arith, more))

-- one item more of a list is mapped
pub one_more_mapped : {X Y : Type 0} (f : X → Y) (old : List Y) (xs : List X) (i : ℕ) (x : X) → i < length xs → x ≡ get_or xs i x → (old ++ map f (take i xs)) ++ f x ∷ [] ≡ old ++ map f (take (i + 1) xs)
one_more_mapped f old xs i x low is =
    append_assoc old (map f (take i xs)) (f x ∷ [])
    ∙ ap (λ l. old ++ l) (sym (map-append f (take i xs) (x ∷ [])) ∙ ap (map f) (sym (one_more_item xs i x low is)))

-- the first items of a list, one more
pub taken_more : {X : Type 0} (xs : List X) (i : ℕ) (x : X) → slice_get xs i ≡ Some x → take i xs ++ x ∷ [] ≡ take (i + 1) xs
taken_more xs i x at = sym (take_more xs i x (slice_get_within xs i x at) ∙ ap (λ z. take i xs ++ z ∷ []) (get_or_from_slice_get xs i x x at))

-- a list is what comes before one of its items, the item, and what comes after it
pub split_at_item : {X : Type 0} (xs : List X) (i : ℕ) (x : X) → slice_get xs i ≡ Some x → xs ≡ take i xs ++ x ∷ drop (i + 1) xs
split_at_item xs i x at =
    sym (take-append-drop (i + 1) xs) ∙ ap (λ l. l ++ drop (i + 1) xs) (sym (taken_more xs i x at)) ∙ append_assoc (take i xs) (x ∷ []) (drop (i + 1) xs)

-- an item of the first ones, one more, is one of them or the next
pub taken_cases : {X : Type 0} (xs : List X) (i : ℕ) (x y : X) → slice_get xs i ≡ Some x → Contains (take (i + 1) xs) y → Contains (take i xs) y ⊎ (x ≡ y)
taken_cases xs i x y at has = Contains-push_cases (take i xs) x y (subst (λ l. Contains l y) (sym (taken_more xs i x at)) has)
