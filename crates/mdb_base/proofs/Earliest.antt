-- The earliest of expiries, one after the other.
use Rattle.std.proofs.Common.{arith, ℕ, ◌≡◌, ◌≤◌, ◌⊎◌, List, [], ◌∷◌, ◌++◌, inl, inr, refl, sym, subst, ◌∙◌, ap, ◌+◌, ◌<◌, length, take, map, get_or}
use Rattle.std.specs.Prelude.{Option, Some, None, All, Contains, IfSome, IsNone, min}
use Rattle.std.proofs.lemmas.List.{take_more, map-append}
use Rattle.std.proofs.lemmas.List.Elements.{All-append, Contains-append_left, Contains-append_right}
use Rattle.mdb_base.specs.Expiries.{earlier_of, IsEarliest}

-- an expiry is none or not before another
abbrev NotBefore : ℕ → Option ℕ → Type 0
NotBefore expiry x = IfSome x (λ other. expiry ≤ other)

none_not_before : (expiry : ℕ) (x : Option ℕ) → IsNone x → NotBefore expiry x
none_not_before expiry None none = tt
none_not_before expiry (Some other) none = grind (arith, none)

not_before_less : (less expiry : ℕ) (x : Option ℕ) → less ≤ expiry → NotBefore expiry x → NotBefore less x
not_before_less less expiry None le not_before = tt
not_before_less less expiry (Some other) le not_before = omega (arith, le, not_before)

All-one : (P : Option ℕ → Type 0) (x : Option ℕ) → P x → All P (x ∷ [])
All-one P x holds = λ k d below. grind (arith, holds)

Contains-one : (x : Option ℕ) → Contains (x ∷ []) x
Contains-one x = (0, omega arith, refl)

min_is : (a b : ℕ) → (min a b ≡ a) ⊎ (min a b ≡ b)
min_is a b = grind arith

has_min : (xs : List (Option ℕ)) (a b m : ℕ) → (m ≡ a) ⊎ (m ≡ b) → Contains xs (Some a)
    → Contains (xs ++ Some b ∷ []) (Some m)
has_min xs a b m (inl is) h =
    subst (λ n. Contains (xs ++ Some b ∷ []) (Some n)) (sym is) (Contains-append_left xs (Some b ∷ []) (Some a) h)
has_min xs a b m (inr is) h =
    subst (λ n. Contains (xs ++ Some b ∷ []) (Some n)) (sym is)
    (Contains-append_right xs (Some b ∷ []) (Some b) (Contains-one (Some b)))

-- one more expiry
pub earliest_more : (xs : List (Option ℕ)) (found x : Option ℕ) → IsEarliest xs found
    → IsEarliest (xs ++ x ∷ []) (earlier_of found x)
earliest_more xs None None all = All-append (λ x. IsNone x) xs (None ∷ []) all (All-one (λ x. IsNone x) None refl)
earliest_more xs None (Some b) all = (
  Contains-append_right xs (Some b ∷ []) (Some b) (Contains-one (Some b)),
  All-append (NotBefore b) xs (Some b ∷ []) (λ k d below. none_not_before b _ (all k d below))
      (All-one (NotBefore b) (Some b) (omega arith)),
)
earliest_more xs (Some a) None h = (
  Contains-append_left xs (None ∷ []) (Some a) h.0,
  All-append (NotBefore a) xs (None ∷ []) h.1 (All-one (NotBefore a) None tt),
)
earliest_more xs (Some a) (Some b) h = (
  has_min xs a b (min a b) (min_is a b) h.0,
  All-append (NotBefore (min a b)) xs (Some b ∷ [])
      (λ k d below. not_before_less (min a b) a _ (omega arith) (h.1 k d below))
      (All-one (NotBefore (min a b)) (Some b) (omega arith)),
)

-- one more value that has an expiry
pub earliest_with : {X : Type 0} (its : X → Option ℕ) (xs : List X) (i : ℕ) (d : X) (found next : Option ℕ)
    → i < length xs → IsEarliest (map its (take i xs)) found → next ≡ earlier_of found (its (get_or xs i d))
    → IsEarliest (map its (take (i + 1) xs)) next
earliest_with {X} its xs i d found next below earliest is =
    let x : X = get_or xs i d in
    let more : map its (take (i + 1) xs) ≡ map its (take i xs) ++ its x ∷ [] =
    ap (map its) (take_more xs i d below) ∙ map-append its (take i xs) (x ∷ []) in
    subst (IsEarliest (map its (take (i + 1) xs))) (sym is)
    (subst (λ l. IsEarliest l (earlier_of found (its x))) (sym more)
    (earliest_more (map its (take i xs)) found (its x) earliest))
