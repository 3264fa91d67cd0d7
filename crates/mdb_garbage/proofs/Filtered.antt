-- What a filter keeps.
use Rattle.std.proofs.Common.{◌≡◌, zero, suc, Bool, true, List, [], ◌∷◌, sym, ap, ◌∙◌, subst, arith, true≢false}
use Rattle.std.specs.Prelude.{Contains}
use Rattle.std.specs.List.{filter, All}
use Rattle.std.specs.List.Retain.{IsFiltered}
use Rattle.std.proofs.lemmas.Bool.{cond_both}
use Rattle.std.proofs.lemmas.Fn.{filter_same}
use Rattle.std.proofs.lemmas.List.Elements.{All-filter, All-cons, All-nil, All-contains, All-contains_itself}
use Rattle.xet_base.specs.declared.merklehash.DataHash.{DataHash}
use Rattle.mdb_garbage.specs.declared.range.HashRange.{HashRange}
use Rattle.mdb_garbage.specs.CollectedRanges.{in_range}
use Rattle.mdb_garbage.specs.Steps.{KeepsInRange}

module _ {X : Type 0} where
  has_later : (y : X) (ys : List X) (x : X) → Contains ys x → Contains (y ∷ ys) x
  has_later y ys x has = (suc has.0, omega (arith, has.1), has.2)

  has_first : (y : X) (ys : List X) (x : X) → y ≡ x → Contains (y ∷ ys) x
  has_first y ys x is = (zero, omega arith, is)

  module _ (p : X → Bool) where
    pub filtered_has : (xs : List X) (x : X) → Contains xs x → p x ≡ true → Contains (filter p xs) x
    filtered_has [] x has passes = absurd (omega (arith, has.1))
    filtered_has (y ∷ ys) x (zero, below, is) passes =
        cond_both (p y) (y ∷ filter p ys) (filter p ys) (λ l. Contains l x)
        (λ _. has_first y (filter p ys) x is)
        (λ no. absurd (true≢false (sym passes ∙ ap p (sym is) ∙ no)))
    filtered_has (y ∷ ys) x (suc k, below, is) passes =
        let rest = filtered_has ys x (k, omega (arith, below), is) passes in
        cond_both (p y) (y ∷ filter p ys) (filter p ys) (λ l. Contains l x) (λ _. has_later y (filter p ys) x rest) (λ _. rest)

    all_pass : (xs : List X) → All (λ x. p x ≡ true) (filter p xs)
    all_pass [] = All-nil (λ x. p x ≡ true)
    all_pass (y ∷ ys) =
        cond_both (p y) (y ∷ filter p ys) (filter p ys) (All (λ x. p x ≡ true)) (λ passes. All-cons (λ x. p x ≡ true) y (filter p ys) passes (all_pass ys)) (λ _. all_pass ys)

    pub filtered_passes : (xs : List X) (x : X) → Contains (filter p xs) x → p x ≡ true
    filtered_passes xs x has = All-contains (λ y. p y ≡ true) (filter p xs) x (all_pass xs) has

    pub filtered_from : (xs : List X) (x : X) → Contains (filter p xs) x → Contains xs x
    filtered_from xs x has = All-contains (Contains xs) (filter p xs) x (All-filter p (Contains xs) xs (All-contains_itself xs)) has

  -- what a closure keeps that tests whether hashes are in a range
  pub retains_range : {F : Type 0} (R : F → X → Bool → F → Type 0) (range : HashRange) (hash_of : X → DataHash) (f : F)
      → ((x : X) (b : Bool) (f' : F) → R f x b f' → (b ≡ in_range range (hash_of x)) × (f' ≡ f)) → (xs ys : List X) → IsFiltered R f xs ys → KeepsInRange range hash_of xs ys
  retains_range R range hash_of f tests xs ys filtered =
      let test = λ (x : X). in_range range (hash_of x) in
      let is = filter_same R test f tests xs ys filtered in
      record {
        kept = λ x has within. subst (λ l. Contains l x) (sym is) (filtered_has test xs x has within);
        each = λ x has. (filtered_from test xs x (subst (λ l. Contains l x) is has), filtered_passes test xs x (subst (λ l. Contains l x) is has));
      }
