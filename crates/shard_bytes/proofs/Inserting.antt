-- Entries that are inserted into a finite map one after another.
use Rattle.std.proofs.Common.{◌≡◌, ℕ, ◌+◌, ◌≤◌, Bool, true, false, ◌&&◌, List, [], ◌∷◌, map, Some, None, T, refl, sym, ap, ◌∙◌, subst, arith}
use Rattle.std.specs.Prelude.{Option, option_map, unwrap_or, sum_by, cond, ⊤}
use Rattle.std.specs.Option.{option_or}
use Rattle.std.specs.Ordering.{is_lt, is_eq, eq_by_cmp}
use Rattle.std.specs.declared.cmp.Ordering.{Ordering}
use Rattle.std.specs.declared.cmp.Ordering.TheVariants.{Equal}
use Rattle.std.specs.Cmp.{IsTotalOrder, tied_itself}
use Rattle.std.specs.FinMap.{FinMap, IsAntisymmetric, is_sorted, find, get, insert, entries, values, empty, same_map, entries_sorted, get-entries, get-empty, get-insert}
use Rattle.std.specs.FinMap.Entries.{below_all}
use Rattle.std.proofs.lemmas.List.Sums.{sum_by-cons}

equal_of : (o : Ordering) → T (is_eq o) → o ≡ Equal
equal_of o p = grind arith

left_of : (a b : Bool) → T (a && b) → T a
left_of a b p = grind arith

right_of : (a b : Bool) → T (a && b) → T b
right_of a b p = grind arith

-- a map with entries inserted one after another, of two with one key the later
abbrev pub inserts : {K X : Type 0} {R : K → K → Ordering} → FinMap R X → List (K × X) → FinMap R X
inserts m [] = m
inserts m (e ∷ es) = inserts (insert m e.0 e.1) es

or_none : {X : Type 0} (o : Option X) → option_or o None ≡ o
or_none None = refl
or_none (Some x) = refl

not_tied : {K : Type 0} {R : K → K → Ordering} (total : IsTotalOrder R) (exact : IsAntisymmetric R) (k x : K) (b : Bool) → eq_by_cmp R x k ≡ b → T (is_lt (R k x)) → b ≡ false
not_tied total exact k x false is below = refl
not_tied {R = R} total exact k x true is below =
    let same : x ≡ k = exact x k (equal_of _ (subst T (sym is) tt)) in
    absurd (subst (λ o. T (is_lt o)) (tied_itself total k) (subst (λ y. T (is_lt (R k y))) same below))

module _ {K X : Type 0} {R : K → K → Ordering} (total : IsTotalOrder R) (exact : IsAntisymmetric R) where
  below_not_found : (x : K) (es : List (K × X)) → T (below_all R x es) → find R x es ≡ None
  below_not_found x [] below = refl
  below_not_found x (e ∷ es) below = grind (arith, below_not_found x es (right_of (is_lt (R x e.0)) _ below))

  -- a key that is inserted first and does not stand behind
  first_or : (k : K) (v : X) (q : K) (behind : Option X) (old : Option X) (b : Bool) → (T b → behind ≡ None)
      → option_or behind (cond b (Some v) old) ≡ option_or (cond b (Some v) behind) old
  first_or k v q behind old true none = ap (λ o. option_or o (Some v)) (none tt)
  first_or k v q behind old false none = refl

  pub get-inserts : (m : FinMap R X) (es : List (K × X)) (q : K) → T (is_sorted R es) → get (inserts m es) q ≡ option_or (find R q es) (get m q)
  get-inserts m [] q sorted = refl
  get-inserts m (e ∷ es) q sorted =
      get-inserts (insert m e.0 e.1) es q (right_of (below_all R e.0 es) _ sorted)
      ∙ ap (option_or (find R q es)) (get-insert total m e.0 e.1 q)
      ∙ first_or e.0 e.1 q (find R q es) (get m q) (eq_by_cmp R q e.0)
      (λ same. ap (λ x. find R x es) (exact q e.0 (equal_of _ same)) ∙ below_not_found e.0 es (left_of _ (is_sorted R es) sorted))

  -- the entries of a map make it again
  pub inserts-entries : (m : FinMap R X) → inserts empty (entries m) ≡ m
  inserts-entries m =
      same_map total exact (inserts empty (entries m)) m
      (λ q. get-inserts empty (entries m) q (entries_sorted m) ∙ ap (option_or (find R q (entries m))) (get-empty R q)
      ∙ or_none (find R q (entries m)) ∙ sym (get-entries m q))

  -- none of the entries has a key of the map
  abbrev pub AreNew : FinMap R X → List (K × X) → Type 0
  AreNew m [] = ⊤
  AreNew m (e ∷ es) = (get m e.0 ≡ None) × AreNew m es

  still_new : (m : FinMap R X) (k : K) (v : X) (es : List (K × X)) → T (below_all R k es) → AreNew m es → AreNew (insert m k v) es
  still_new m k v [] below new = tt
  still_new m k v (e ∷ es) below new = (
    get-insert total m k v e.0 ∙ ap (λ b. cond b (Some v) (get m e.0)) (not_tied total exact k e.0 (eq_by_cmp R e.0 k) refl (left_of _ (below_all R k es) below)) ∙ new.0,
    still_new m k v es (right_of (is_lt (R k e.0)) _ below) new.1,
  )

  pub all_new : (es : List (K × X)) → AreNew empty es
  all_new [] = tt
  all_new (e ∷ es) = (get-empty R e.0, all_new es)

  module _ (f : X → ℕ) (most : ℕ) (sum-insert : (m : FinMap R X) (k : K) (v : X)
      → sum_by f (values (insert m k v)) + unwrap_or (option_map f (get m k)) 0 ≡ sum_by f (values m) + f v) where
    -- the sum over the map stays within a bound after each insertion
    abbrev pub StaysWithin : FinMap R X → List (K × X) → Type 0
    StaysWithin m [] = ⊤
    StaysWithin m (e ∷ es) = (sum_by f (values (insert m e.0 e.1)) ≤ most) × StaysWithin (insert m e.0 e.1) es

    sum-new : (m : FinMap R X) (k : K) (v : X) → get m k ≡ None → sum_by f (values (insert m k v)) ≡ sum_by f (values m) + f v
    sum-new m k v new = let before = sum-insert m k v in let none = ap (λ o. unwrap_or (option_map f o) 0) new in omega (arith, before, none)

    pub stays_within : (m : FinMap R X) (es : List (K × X)) → T (is_sorted R es) → AreNew m es
        → sum_by f (values m) + sum_by f (map (λ e. e.1) es) ≤ most → StaysWithin m es
    stays_within m [] sorted new fits = tt
    stays_within m (e ∷ es) sorted new fits =
        let one = sum-new m e.0 e.1 new.0 in
        let split : sum_by f (map (λ x. x.1) (e ∷ es)) ≡ f e.1 + sum_by f (map (λ x. x.1) es) = sum_by-cons f e.1 (map (λ x. x.1) es) in (
          omega (arith, one, fits, split),
          stays_within (insert m e.0 e.1) es (right_of (below_all R e.0 es) _ sorted)
              (still_new m e.0 e.1 es (left_of _ (is_sorted R es) sorted) new.1) (omega (arith, one, fits, split)),
        )
