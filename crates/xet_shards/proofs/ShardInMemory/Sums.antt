-- Sums over a map, over a map with some of its entries, and over a list whose elements are mapped.
use Rattle.std.proofs.Common.{◌≡◌, ℕ, ◌+◌, ◌≤◌, false, List, [], ◌∷◌, map, Option, Some, None, T, refl, ap, ◌∙◌, arith, cond}
use Rattle.std.specs.Prelude.{All, sum_by}
use Rattle.std.specs.Ordering.{eq_by_cmp}
use Rattle.std.specs.declared.cmp.Ordering.{Ordering}
use Rattle.std.specs.Cmp.{IsTotalOrder}
use Rattle.std.proofs.lemmas.Cmp.{eq_by_cmp_equiv}
use Rattle.std.specs.Map.{values_of}
use Rattle.std.specs.FinMap.{FinMap, IsAntisymmetric, is_sorted, find, empty, get, insert, remove, entries, values, same_map, entries_sorted, get-entries, get-insert, get-remove}
use Rattle.std.specs.FinMap.Entries.{below_all}
use Rattle.std.proofs.lemmas.List.Elements.{All-cons, All-nil}
use Rattle.std.proofs.lemmas.List.Sums.{sum_by-cons}
use Rattle.xet_shards.proofs.Content.Maps.{sum-insert, both_left, both_right, below_none, values-empty}

-- what the value of a key counts, if it has one
abbrev pub count_if_some : {X : Type 0} → (X → ℕ) → Option X → ℕ
count_if_some f None = 0
count_if_some f (Some v) = f v

module _ {K X : Type 0} {R : K → K → Ordering} (total : IsTotalOrder R) (exact : IsAntisymmetric R) where
  -- an entry removed from a map and inserted again
  put_back : (m : FinMap R X) (k : K) (v : X) → get m k ≡ Some v → insert (remove m k) k v ≡ m
  put_back m k v here = same_map total exact _ _ (λ q. grind (arith, get-insert total (remove m k) k v q, get-remove total m k q, exact q k))

  -- a key that is found after an entry is not that entry's
  other_key : (e : K × X) (es : List (K × X)) (q : K) (v : X) → T (below_all R e.0 es) → find R q es ≡ Some v → eq_by_cmp R q e.0 ≡ false
  other_key e es q v below is = grind (arith, exact q e.0, below_none R e.0 es below)

  all_found : (P : K × X → Type 0) (es : List (K × X)) → T (is_sorted R es) → ((q : K) (v : X) → find R q es ≡ Some v → P (q, v)) → All P es
  all_found P [] sorted each = All-nil P
  all_found P (e ∷ es) sorted each =
      All-cons P e es (each e.0 e.1 (ap (λ b. cond b (Some e.1) (find R e.0 es)) ((eq_by_cmp_equiv total).refl e.0)))
      (all_found P es (both_right _ _ sorted) (λ q v is. each q v (ap (λ b. cond b (Some e.1) (find R q es)) (other_key e es q v (both_left _ _ sorted) is) ∙ is)))

  -- what holds of each value under its key holds of all entries
  pub all_of_map : (P : K × X → Type 0) (m : FinMap R X) → ((q : K) (v : X) → get m q ≡ Some v → P (q, v)) → All P (entries m)
  all_of_map P m each = all_found P (entries m) (entries_sorted m) (λ q v is. each q v (get-entries m q ∙ is))

  get-removed_key : (m : FinMap R X) (k : K) → get (remove m k) k ≡ None
  get-removed_key m k = get-remove total m k k ∙ ap (λ b. cond b None (get m k)) ((eq_by_cmp_equiv total).refl k)

  -- a sum is that of one value and of the rest
  pub sum-remove : (f : X → ℕ) (m : FinMap R X) (k : K) (v : X) → get m k ≡ Some v → sum_by f (values m) ≡ sum_by f (values (remove m k)) + f v
  sum-remove f m k v here = grind (arith, sum-insert total exact f (remove m k) k v, put_back m k v here, get-removed_key m k)

  -- no value is more than the sum
  pub part-le-sum : (f : X → ℕ) (m : FinMap R X) (k : K) (v : X) → get m k ≡ Some v → f v ≤ sum_by f (values m)
  part-le-sum f m k v here = omega (arith, sum-remove f m k v here)

  -- a sum is that of a key's value and of the rest
  sum-without : (f : X → ℕ) (m : FinMap R X) (k : K) → sum_by f (values m) ≡ sum_by f (values (remove m k)) + count_if_some f (get m k)
  sum-without f m k = go (get m k) refl
    where
      absent : get m k ≡ None → remove m k ≡ m
      absent none = same_map total exact _ _ (λ q. grind (arith, get-remove total m k q, exact q k))

      go : (o : Option X) → get m k ≡ o → sum_by f (values m) ≡ sum_by f (values (remove m k)) + count_if_some f o
      go None none = omega (arith, ap (λ (n : FinMap R X). sum_by f (values n)) (absent none))
      go (Some v) is = sum-remove f m k v is

  -- no entry of a sorted list counts more than the values of its key in two maps
  abbrev AreBelow : (X → ℕ) → List (K × X) → FinMap R X → FinMap R X → Type 0
  AreBelow f es m n = (q : K) (v : X) → find R q es ≡ Some v → f v ≤ count_if_some f (get m q) + count_if_some f (get n q)

  in_rest : (f : X → ℕ) (e : K × X) (es : List (K × X)) (m n : FinMap R X) → T (below_all R e.0 es) → AreBelow f (e ∷ es) m n → AreBelow f es (remove m e.0) (remove n e.0)
  in_rest f e es m n below all q v is =
      let out = other_key e es q v below is in
      let found = all q v (ap (λ b. cond b (Some e.1) (find R q es)) out ∙ is) in
      let same : (o : FinMap R X) → get (remove o e.0) q ≡ get o q = λ o. get-remove total o e.0 q ∙ ap (λ b. cond b None (get o q)) out in
      omega (arith, found, ap (count_if_some f) (same m), ap (count_if_some f) (same n))

  sum_in : (f : X → ℕ) (es : List (K × X)) (m n : FinMap R X) → T (is_sorted R es) → AreBelow f es m n → sum_by f (values_of es) ≤ sum_by f (values m) + sum_by f (values n)
  sum_in f [] m n sorted all = omega arith
  sum_in f (e ∷ es) m n sorted all =
      omega (
        arith,
        sum_by-cons f e.1 (values_of es),
        sum-without f m e.0,
        sum-without f n e.0,
        all e.0 e.1 (ap (λ b. cond b (Some e.1) (find R e.0 es)) ((eq_by_cmp_equiv total).refl e.0)),
        sum_in f es (remove m e.0) (remove n e.0) (both_right _ _ sorted) (in_rest f e es m n (both_left _ _ sorted) all),
      )

  -- a map of which no value counts more than those of its key in two maps has at most the sum of both
  pub sum-of_both : (f : X → ℕ) (a b c : FinMap R X) → ((q : K) (v : X) → get c q ≡ Some v → f v ≤ count_if_some f (get a q) + count_if_some f (get b q))
      → sum_by f (values c) ≤ sum_by f (values a) + sum_by f (values b)
  sum-of_both f a b c all = sum_in f (entries c) a b (entries_sorted c) (λ q v is. all q v (get-entries c q ∙ is))

  -- the sum over a map is at most that over a map that has all its keys, with values that count no less
  pub sum-below : (f : X → ℕ) (a b : FinMap R X) → ((q : K) (v : X) → get a q ≡ Some v → (w : X) × (get b q ≡ Some w) × (f v ≤ f w))
      → sum_by f (values a) ≤ sum_by f (values b)
  sum-below f a b all =
      let none : FinMap R X = empty in
      let both = sum-of_both f b none a (λ q v at. let found = all q v at in omega (arith, ap (count_if_some f) found.1, found.2)) in
      omega (arith, both, ap (sum_by f) (values-empty X R))

  -- or with all its entries
  pub sub-sum : (f : X → ℕ) (a b : FinMap R X) → ((q : K) (v : X) → get a q ≡ Some v → get b q ≡ Some v) → sum_by f (values a) ≤ sum_by f (values b)
  sub-sum f a b all = sum-below f a b (λ q v at. (v, all q v at, omega arith))

-- elements that are mapped to some which count no more have no greater sum
pub sum-mapped : {X : Type 0} (f : X → X) (count : X → ℕ) → ((x : X) → count (f x) ≤ count x) → (xs : List X) → sum_by count (map f xs) ≤ sum_by count xs
sum-mapped f count each [] = omega arith
sum-mapped f count each (x ∷ xs) = omega (arith, sum_by-cons count (f x) (map f xs), sum_by-cons count x xs, each x, sum-mapped f count each xs)
