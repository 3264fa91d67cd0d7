-- The iterations of a loop over the values or the entries of a map.
use Rattle.std.proofs.Common.{◌≡◌, ℕ, ◌+◌, ◌≤◌, List, [], ◌∷◌, ◌++◌, map, Option, None, Some, sym, ap, ◌∙◌, subst, arith, append-nil, rules}
use Rattle.std.specs.Prelude.{All, sum_by, flat_map}
use Rattle.std.proofs.lemmas.Grind.{common_steps, flat_map-append}
use Rattle.std.specs.Borrow.{Bor}
use Rattle.std.specs.Map.Iter.{TakesFirst, deref}
use Rattle.std.proofs.lemmas.List.{map-append, map_push}
use Rattle.std.proofs.lemmas.List.Elements.{All-drop}
use Rattle.std.proofs.lemmas.List.Sums.{sum_by-append, sum_by-cons}
use Rattle.std.proofs.lemmas.Map.Iter.{rest_more}

-- the same over the entries of a map: the index of an iteration, and its entry
module _ {X Y : Type 0} (show : Y → X) where
  pub entry_turn : (all : List X) (before : List Y) (s t : List X) (r : Option Y) (y : Y)
      → map show before ++ s ≡ all → r ≡ Some y → TakesFirst show s r t → map show before ++ show y ∷ t ≡ all
  entry_turn all before s t r y whole is step = ap (λ rest. map show before ++ rest) (sym (rest_more show s t r y is step)) ∙ whole

  pub entry_turned : (all : List X) (before : List Y) (t : List X) (y : Y) → map show before ++ show y ∷ t ≡ all → map show (before ++ y ∷ []) ++ t ≡ all
  entry_turned all before t y whole = grind (arith, common_steps)

  pub entry_end : (all : List X) (before : List Y) (s t : List X) (r : Option Y) → map show before ++ s ≡ all → r ≡ None → TakesFirst show s r t → map show before ≡ all
  entry_end all before s t r whole is step = search rules

module _ {X : Type 0} where
  pub All-middle : (P : X → Type 0) (front rest : List X) (x : X) → All P (front ++ x ∷ rest) → P x
  All-middle P [] rest x all = all 0 x (omega arith)
  All-middle P (y ∷ front) rest x all = All-middle P front rest x (All-drop P 1 (y ∷ front ++ x ∷ rest) all)

  pub entry_holds : (P : X → Type 0) (front rest all : List X) (x : X) → front ++ x ∷ rest ≡ all → All P all → P x
  entry_holds P front rest all x whole holds = All-middle P front rest x (subst (All P) (sym whole) holds)

  pub sum-middle : (f : X → ℕ) (front rest : List X) (x : X) → sum_by f front + f x ≤ sum_by f (front ++ x ∷ rest)
  sum-middle f front rest x = omega (arith, sum_by-append f front (x ∷ rest), sum_by-cons f x rest)

  pub flat_map-push : {Y : Type 0} (f : X → List Y) (xs : List X) (x : X) → flat_map f (xs ++ x ∷ []) ≡ flat_map f xs ++ f x
  flat_map-push f xs x = flat_map-append f xs (x ∷ []) ∙ ap (λ ys. flat_map f xs ++ ys) (append-nil (f x))

-- the same of what a function makes of each value
module _ {X Y : Type 0} (f : X → Y) where
  pub mapped_turn : (all : List X) (before : List (Bor X)) (s t : List X) (r : Option (Bor X)) (x : Bor X)
      → map deref before ++ s ≡ all → r ≡ Some x → TakesFirst deref s r t → map f (map deref before) ++ f x.now ∷ map f t ≡ map f all
  mapped_turn all before s t r x whole is step = sym (map-append f (map deref before) (x.now ∷ t)) ∙ ap (map f) (entry_turn deref all before s t r x whole is step)

  pub mapped_end : (all : List X) (before : List (Bor X)) (s t : List X) (r : Option (Bor X))
      → map deref before ++ s ≡ all → r ≡ None → TakesFirst deref s r t → map f (map deref before) ≡ map f all
  mapped_end all before s t r whole is step = ap (map f) (entry_end deref all before s t r whole is step)

  pub mapped_push : (before : List (Bor X)) (x : Bor X) → map f (map deref (before ++ x ∷ [])) ≡ map f (map deref before) ++ f x.now ∷ []
  mapped_push before x = ap (map f) (map_push deref before x) ∙ map_push f (map deref before) x.now
