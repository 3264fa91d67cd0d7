-- Distinct rows of a table: their sum, and that if they are as many as the rows with a property, they are all of these.
use Rattle.std.proofs.Common.{◌≡◌, ◌≢◌, ◌⊎◌, inl, inr, ◌==◌, ltb, if◌then◌else◌, Bool, true, ℕ, zero, suc, ◌+◌, ◌<◌, ◌≤◌, List, [], ◌∷◌, length, take, get_or, All, AllPairs, refl, sym, ap, ◌∙◌, arith}
use Rattle.std.specs.Prelude.{sum_by, filter}
use Rattle.std.proofs.Math.Seq.{take-suc}
use Rattle.std.proofs.lemmas.List.{take_all}
use Rattle.std.proofs.lemmas.List.Elements.{All-cons, All-drop, All-weaker, filter-append}
use Rattle.std.proofs.lemmas.List.Sums.{sum_by-append, sum_by-cons}
use Rattle.std.proofs.lemmas.Bool.{cases_eq, ne_eqb, cond-true, cond-false}
use Rattle.xet_base.specs.Search.Table.{Hit, OtherRow}
use Rattle.xet_base.proofs.Search.KnownTable.{sum_below}

-- f, but 0 at i
abbrev zeroed_at : (ℕ → ℕ) → ℕ → ℕ → ℕ
zeroed_at f i j = if j == i then 0 else f j

zeroed_at-other : (f : ℕ → ℕ) (i j : ℕ) → j ≢ i → zeroed_at f i j ≡ f j
zeroed_at-other f i j other = cond-false {A = ℕ} (j == i) 0 (f j) (ne_eqb j i other)

sum_below-split : (f : ℕ → ℕ) (i n : ℕ) → sum_below f n ≡ sum_below (zeroed_at f i) n + (if ltb i n then f i else 0)
sum_below-split f i zero = grind arith
sum_below-split f i (suc n) = grind (arith, sum_below-split f i n)

sum_below-zeroed_at : (f : ℕ → ℕ) (i n : ℕ) → i < n → sum_below f n ≡ sum_below (zeroed_at f i) n + f i
sum_below-zeroed_at f i n within = grind (arith, sum_below-split f i n)

module _ {V : Type 0} where
  -- a row is in a list, or differs from each row of the list
  is_among : (i : ℕ) (found : List (Hit V)) → ((k : ℕ) × (k < length found) × ((d : Hit V) → (get_or found k d).row ≡ i)) ⊎ All (λ h. h.row ≢ i) found
  is_among i [] = inr (λ k d within. absurd (omega (arith, within)))
  is_among i (h ∷ found) = elim (cases_eq h.row i) [
    | inl same ↦ inl (0, omega arith, λ d. same)
    | inr other ↦ elim (is_among i found) [
      | inl at ↦ inl (suc at.0, omega (arith, at.1), at.2)
      | inr none ↦ inr (All-cons (λ (g : Hit V). g.row ≢ i) h found other none)
    ]
  ]

  sum-zeroed_at : (f : ℕ → ℕ) (i : ℕ) (found : List (Hit V)) → All (λ h. h.row ≢ i) found → sum_by (λ h. zeroed_at f i h.row) found ≡ sum_by (λ h. f h.row) found
  sum-zeroed_at f i [] others = refl
  sum-zeroed_at f i (h ∷ found) others =
      sum_by-cons (λ (g : Hit V). zeroed_at f i g.row) h found
      ∙ (λ k. zeroed_at-other f i h.row (others 0 h (omega arith)) k + sum-zeroed_at f i found (All-drop (λ (g : Hit V). g.row ≢ i) 1 (h ∷ found) others) k)
      ∙ sym (sum_by-cons (λ (g : Hit V). f g.row) h found)

  -- the sum over distinct rows below n is at most that over all rows below n
  pub sum_distinct : (f : ℕ → ℕ) (n : ℕ) (found : List (Hit V)) → AllPairs OtherRow found → All (λ h. h.row < n) found → sum_by (λ h. f h.row) found ≤ sum_below f n
  sum_distinct f n [] distinct below = omega arith
  sum_distinct f n (h ∷ found) distinct below =
      let others : All (λ g. g.row ≢ h.row) found = λ k d within same. distinct 0 (suc k) d (omega arith) (omega (arith, within)) (sym same) in
      omega (
        arith,
        sum_by-cons (λ (g : Hit V). f g.row) h found,
        sum_below-zeroed_at f h.row n (below 0 h (omega arith)),
        sum-zeroed_at f h.row found others,
        sum_distinct (zeroed_at f h.row) n found (λ i j d lt within. distinct (suc i) (suc j) d (omega (arith, lt)) (omega (arith, within)))
            (All-drop (λ (g : Hit V). g.row < n) 1 (h ∷ found) below),
      )

  -- distinct rows with a property, if they are as many as there are, are all rows with it
  pub all_marked : (f : ℕ → ℕ) (n : ℕ) (found : List (Hit V)) (i : ℕ) → AllPairs OtherRow found → All (λ h. h.row < n) found
      → sum_below f n ≤ sum_by (λ h. f h.row) found → i < n → 0 < f i → (k : ℕ) × (k < length found) × ((d : Hit V) → (get_or found k d).row ≡ i)
  all_marked f n found i distinct below many within marked = elim (is_among i found) [
    | inl at ↦ at
    | inr others ↦ absurd (omega (arith, many, marked, sum_below-zeroed_at f i n within, sum-zeroed_at f i found others, sum_distinct (zeroed_at f i) n found distinct below))
  ]

one_marked : {X : Type 0} (weight : X → ℕ) (x : X) (b : Bool) → sum_by weight (if b then x ∷ [] else []) ≡ (if b then weight x else 0)
one_marked weight x b = grind (arith, sum_by-cons weight x [])

-- weights of the elements with a property, summed by index and over the list of these elements
pub sum_marked : {X : Type 0} (p : X → Bool) (weight : X → ℕ) (xs : List X) (d : X) (n : ℕ) → n ≤ length xs
    → sum_below (λ i. if p (get_or xs i d) then weight (get_or xs i d) else 0) n ≡ sum_by weight (filter p (take n xs))
sum_marked p weight xs d zero within = refl
sum_marked p weight xs d (suc n) within =
    let x = get_or xs n d in
    rw (take-suc xs n d within, filter-append p (take n xs) (x ∷ []), sum_by-append weight (filter p (take n xs)) (filter p (x ∷ [])))
    (omega (arith, sum_marked p weight xs d n (omega (arith, within)), one_marked weight x (p x)))

-- a list of ones
sum-of_ones : {X : Type 0} (f : X → ℕ) (xs : List X) → All (λ x. f x ≡ 1) xs → sum_by f xs ≡ length xs
sum-of_ones f [] ones = refl
sum-of_ones f (x ∷ xs) ones = sum_by-cons f x xs ∙ omega (arith, ones 0 x (omega arith), sum-of_ones f xs (All-drop (λ y. f y ≡ 1) 1 (x ∷ xs) ones))

-- how many elements of a list have a property
pub count_marked : {X : Type 0} (p : X → Bool) (xs : List X) (d : X) → sum_below (λ i. if p (get_or xs i d) then 1 else 0) (length xs) ≡ length (filter p xs)
count_marked {X = X} p xs d =
    sum_marked p (λ x. 1) xs d (length xs) (omega arith)
    ∙ ap (λ ys. sum_by (λ (x : X). 1) (filter p ys)) (take_all (length xs) xs (omega arith)) ∙ sum-of_ones (λ (x : X). 1) (filter p xs) (λ k e below. refl)

module _ {X V : Type 0} (p : X → Bool) (xs : List X) (d : X) (found : List (Hit V)) where
  pub sum-marked_hits : All (λ h. p (get_or xs h.row d) ≡ true) found → sum_by (λ h. if p (get_or xs h.row d) then 1 else 0) found ≡ length found
  sum-marked_hits marked =
      sum-of_ones (λ (h : Hit V). if p (get_or xs h.row d) then 1 else 0) found
      (All-weaker (λ h. p (get_or xs h.row d) ≡ true) (λ h. (if p (get_or xs h.row d) then 1 else 0) ≡ 1) (λ h is. cond-true {A = ℕ} _ 1 0 is) found marked)

  -- distinct rows with the property are no more
  pub few_marked : AllPairs OtherRow found → All (λ h. h.row < length xs) found → All (λ h. p (get_or xs h.row d) ≡ true) found → length found ≤ length (filter p xs)
  few_marked distinct below marked =
      omega (arith, sum-marked_hits marked, sum_distinct (λ i. if p (get_or xs i d) then 1 else 0) (length xs) found distinct below, count_marked p xs d)
