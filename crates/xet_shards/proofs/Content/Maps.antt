-- The finite maps of the entries of a `BTreeMap`.
use Rattle.std.proofs.Common.{◌≡◌, ℕ, ◌+◌, Bool, ◌&&◌, List, [], ◌∷◌, map, length, Some, None, T, refl, sym, ap, ◌∙◌, subst, arith, is_some, ◌<◌, ◌≤◌, Bor}
use Rattle.std.specs.Prelude.{All, IfSome, Option, option_map, unwrap_or, sum_by, cond}
use Rattle.std.specs.Ordering.{is_lt, match_ordering}
use Rattle.std.specs.declared.cmp.Ordering.{Ordering}
use Rattle.std.specs.declared.cmp.Ordering.TheVariants.{Less, Equal, Greater}
use Rattle.std.specs.Cmp.{IsTotalOrder}
use Rattle.std.specs.Map.{lookup, keys_of}
use Rattle.std.specs.BTreeMap.{insert_entry, is_at}
use Rattle.std.specs.FinMap.{FinMap, from_entries, IsAntisymmetric, is_sorted, find, get, insert, entries, keys, values, empty, from_sorted, same_map, same_entries_map, entries-from_sorted, entries-insert, entries_sorted, get-from_sorted, get-entries, get-empty, get-from_entries, len, len-entries, len-empty, len-insert}
use Rattle.std.specs.FinMap.Entries.{put, is_sorted-put, below_all}
use Rattle.std.specs.List.Sorted.{IsStrictlySortedBy}
use Rattle.std.specs.List.{AllByRecursion}
use Rattle.std.proofs.lemmas.Map.Entries.{sum_by-insert_entry}
use Rattle.std.proofs.lemmas.Map.Views.{All-keys-insert_entry}
use Rattle.std.proofs.lemmas.List.{nil_from_length}
use Rattle.std.proofs.lemmas.List.Elements.{All-cons, All-drop}

pub is_lt-Less : (o : Ordering) → T (is_lt o) → o ≡ Less
is_lt-Less o p = grind arith

pub both_left : (a b : Bool) → T (a && b) → T a
both_left a b p = grind arith

pub both_right : (a b : Bool) → T (a && b) → T b
both_right a b p = grind arith

-- what is said of a value is said of a reference to it
pub IfSome-lent : {X : Type 0} (P : X → Type 0) (o : Option (Bor X)) (p : Option X) → option_map (λ x. x.now) o ≡ p → IfSome p P → IfSome o (λ x. P x.now)
IfSome-lent P o p same holds = grind (arith, holds)

pub lent_map : {X Y : Type 0} (f : X → Y) (o : Option (Bor X)) (p : Option X) → option_map (λ x. x.now) o ≡ p → option_map (λ x. f x.now) o ≡ option_map f p
lent_map f o p same = grind (arith, same)

module _ {K X : Type 0} (R : K → K → Ordering) where
  -- insertion into the entries is insertion into the map
  put_is : (k : K) (v : X) (es : List (K × X)) → insert_entry R es k v ≡ put R k v es
  put_is k v [] = refl
  put_is k v (e ∷ es) = grind (arith, put_is k v es)

  pub found_is : (q : K) (es : List (K × X)) → lookup (is_at (R q)) es ≡ find R q es
  found_is q [] = refl
  found_is q (e ∷ es) = ap (cond (is_at (R q) e.0) (Some e.1)) (found_is q es)

  pub below_none : (x : K) (es : List (K × X)) → T (below_all R x es) → find R x es ≡ None
  below_none x [] below = refl
  below_none x (e ∷ es) below = grind (arith, below_none x es (both_right (is_lt (R x e.0)) _ below))

  below_keys : (x : K) (es : List (K × X)) → T (below_all R x es) → AllByRecursion (λ y. R x y ≡ Less) (keys_of es)
  below_keys x [] below = tt
  below_keys x (e ∷ es) below = (is_lt-Less (R x e.0) (both_left _ _ below), below_keys x es (both_right _ _ below))

  -- ascending keys, in the form that std's sums over maps take
  pub rising_keys : (es : List (K × X)) → T (is_sorted R es) → IsStrictlySortedBy R (keys_of es)
  unfolding IsStrictlySortedBy
  rising_keys [] sorted = tt
  rising_keys (e ∷ es) sorted = (below_keys e.0 es (both_left _ _ sorted), rising_keys es (both_right _ _ sorted))

pub entries-inserted : {K X : Type 0} {R : K → K → Ordering} → IsTotalOrder R → (m : FinMap R X) (k : K) (v : X) → entries (insert m k v) ≡ insert_entry R (entries m) k v
entries-inserted {R = R} total m k v = entries-insert total m k v ∙ sym (put_is R k v (entries m))

module _ {K X : Type 0} {R : K → K → Ordering} (total : IsTotalOrder R) (exact : IsAntisymmetric R) where
  pub from_sorted-nil : from_sorted {X = X} {R = R} [] ≡ empty
  from_sorted-nil = same_map total exact (from_sorted []) empty (λ q. get-from_sorted R [] q tt ∙ sym (get-empty R q))

  pub sorted-insert_entry : (es : List (K × X)) (k : K) (v : X) → T (is_sorted R es) → T (is_sorted R (insert_entry R es k v))
  sorted-insert_entry es k v sorted = subst (λ fs. T (is_sorted R fs)) (sym (put_is R k v es)) (is_sorted-put R total k v es sorted)

  -- the map of the entries after an insertion
  pub from_sorted-insert_entry : (es : List (K × X)) (k : K) (v : X) → T (is_sorted R es) → from_sorted {R = R} (insert_entry R es k v) ≡ insert (from_sorted es) k v
  from_sorted-insert_entry es k v sorted =
      same_entries_map _ _ (entries-from_sorted R (insert_entry R es k v) (sorted-insert_entry es k v sorted)
      ∙ ap (λ fs. insert_entry R fs k v) (sym (entries-from_sorted R es sorted)) ∙ sym (entries-inserted total (from_sorted es) k v))

  pub finds_in_map : (es : List (K × X)) (q : K) → T (is_sorted R es) → lookup (is_at (R q)) es ≡ get (from_sorted {R = R} es) q
  finds_in_map es q sorted = found_is R q es ∙ sym (get-from_sorted R es q sorted)

  -- what holds of each entry still does after an entry for which it holds is inserted
  pub All-insert_entry : (P : K × X → Type 0) (es : List (K × X)) (k : K) (v : X) → All P es → P (k, v) → All P (insert_entry R es k v)
  All-insert_entry P [] k v all new = All-cons P (k, v) [] new all
  All-insert_entry P (e ∷ es) k v all new =
      elim (R k e.0) as (λ o. R k e.0 ≡ o → All P (match_ordering o ((k, v) ∷ e ∷ es) ((e.0, v) ∷ es) (e ∷ insert_entry R es k v))) [
        | Less ↦ λ is. All-cons P (k, v) (e ∷ es) new all
        | Equal ↦ λ is. All-cons P (e.0, v) es (subst (λ q. P (q, v)) (exact k e.0 is) new) (All-drop P 1 (e ∷ es) all)
        | Greater ↦ λ is. All-cons P e (insert_entry R es k v) (all 0 e (omega arith)) (All-insert_entry P es k v (All-drop P 1 (e ∷ es) all) new)
      ] refl

  -- the sum over a map after an insertion
  pub sum-insert : (f : X → ℕ) (m : FinMap R X) (k : K) (v : X)
      → sum_by f (values (insert m k v)) + unwrap_or (option_map f (get m k)) 0 ≡ sum_by f (values m) + f v
  sum-insert f m k v =
      let old = get-entries m k ∙ sym (found_is R k (entries m)) in
      cc (entries-inserted total m k v, old, sum_by-insert_entry f total (entries m) k v (rising_keys R (entries m) (entries_sorted m)))

module _ {K : Type 0} (X : Type 0) (R : K → K → Ordering) where
  pub entries-empty : entries (empty {X = X} {R = R}) ≡ []
  entries-empty = nil_from_length (entries empty) (sym (len-entries empty) ∙ len-empty R X)

  pub values-empty : values (empty {X = X} {R = R}) ≡ []
  values-empty = ap (map (λ e. e.1)) entries-empty

-- entries inserted one after another, the last first
abbrev pub put_all : {K X : Type 0} → (K → K → Ordering) → List (K × X) → List (K × X)
put_all R [] = []
put_all R (e ∷ es) = put R e.0 e.1 (put_all R es)

pub entries-from_entries : {K X : Type 0} {R : K → K → Ordering} → IsTotalOrder R → (es : List (K × X)) → entries (from_entries {R = R} es) ≡ put_all R es
entries-from_entries {X = X} {R = R} total [] = entries-empty X R
entries-from_entries {X = X} {R = R} total (e ∷ es) = entries-insert total (from_entries es) e.0 e.1 ∙ ap (put R e.0 e.1) (entries-from_entries total es)

-- what holds of the keys of entries holds of those of their map
pub All-keys-from_entries : {K X : Type 0} {R : K → K → Ordering} → IsTotalOrder R → (P : K → Type 0) (es : List (K × X)) → All P (keys_of es)
    → All P (keys (from_entries {R = R} es))
All-keys-from_entries {X = X} {R = R} total P [] all = subst (λ fs. All P (keys_of fs)) (sym (entries-empty X R)) all
All-keys-from_entries {R = R} total P (e ∷ es) all =
    subst (λ fs. All P (keys_of fs)) (sym (entries-inserted total (from_entries es) e.0 e.1))
    (All-keys-insert_entry R e.0 e.1 P (entries (from_entries es)) (All-keys-from_entries total P es (All-drop P 1 (keys_of (e ∷ es)) all)) (all 0 e.0 (omega arith)))

-- keys whose ranks ascend from n on
abbrev pub IsRising : {K : Type 0} → (K → ℕ) → ℕ → List K → Type 0
IsRising rank n [] = Unit {0}
IsRising rank n (k ∷ ks) = (n ≤ rank k) × IsRising rank (rank k + 1) ks

pub rising_lower : {K : Type 0} (rank : K → ℕ) (m n : ℕ) (ks : List K) → m ≤ n → IsRising rank n ks → IsRising rank m ks
rising_lower rank m n [] below rising = tt
rising_lower rank m n (k ∷ ks) below rising = (omega (arith, below, rising.0), rising.1)

module _ {K X : Type 0} {R : K → K → Ordering} (total : IsTotalOrder R) (rank : K → ℕ) (same_rank : (x y : K) → R x y ≡ Equal → rank x ≡ rank y) where
  none_ranked : (k : K) (n : ℕ) (es : List (K × X)) → rank k < n → IsRising rank n (keys_of es) → find R k es ≡ None
  none_ranked k n [] below rising = refl
  none_ranked k n (e ∷ es) below rising =
      grind (arith, same_rank k e.0, none_ranked k (rank e.0 + 1) es (omega (arith, below, rising.0)) rising.1)

  -- the map of entries with such keys has them all
  pub length-from_entries : (n : ℕ) (es : List (K × X)) → IsRising rank n (keys_of es) → length (entries (from_entries {R = R} es)) ≡ length es
  length-from_entries n [] rising = ap length (entries-empty X R)
  length-from_entries n (e ∷ es) rising =
      let rest : FinMap R X = from_entries es in
      sym (len-entries (insert rest e.0 e.1)) ∙ len-insert total rest e.0 e.1
      ∙ ap (λ o. cond (is_some {T = X} o) (len rest) (len rest + 1)) (get-from_entries total es e.0 ∙ none_ranked e.0 (rank e.0 + 1) es (omega arith) rising.1)
      ∙ omega (arith, len-entries rest, length-from_entries (rank e.0 + 1) es rising.1)
