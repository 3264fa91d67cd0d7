-- The records of a run, compared with those that are kept of it.
use Rattle.std.proofs.Common.{◌≡◌, ◌⊎◌, inl, inr, ℕ, ◌+◌, ◌<◌, ◌≤◌, List, [], ◌∷◌, ◌++◌, Some, sym, ap, ◌∙◌, subst, arith}
use Rattle.std.specs.Prelude.{Contains, slice_get}
use Rattle.std.proofs.lemmas.List.Elements.{Contains-push, Contains-push_cases, Contains-append_left}
use Rattle.std.proofs.lemmas.Option.{same_Some}
use Rattle.placed_shards.specs.declared.differing.Differing.{Differing}
use Rattle.placed_shards.specs.declared.places.Place.{Place}
use Rattle.placed_shards.specs.Steps.Differing.{record_at, AgreesWithAll, AgreeWithin, ComparesPlace, DifferWithin, DiffersFromKept, IsRun}
use Rattle.placed_shards.proofs.Items.{below_or_at}

module _ {R : Type 0} (agree : R → R → Type 0) (lists : List (List R)) (places : List Place) (from : ℕ) where
  -- a place that is kept is one of those from one on, up to another
  abbrev pub IsKept : ℕ → Place → Type 0
  IsKept at k = (i : ℕ) × (from ≤ i) × (i < at) × (slice_get places i ≡ Some k)

  -- each record at these places is that of one that is kept, and the records of those agree
  pub record IsComparing (at : ℕ) (kept : List Place) : Type 0 where
    pub after : from ≤ at
    pub each : (k : Place) → Contains kept k → IsKept at k
    pub has : (i : ℕ) (p : Place) → from ≤ i → i < at → slice_get places i ≡ Some p → (k : Place) × Contains kept k × (record_at lists k ≡ record_at lists p)
    pub agrees : (k : Place) (s : R) → Contains kept k → record_at lists k ≡ Some s → AgreesWithAll agree lists kept s

  pub comparing_start : IsComparing from []
  comparing_start = record {
    after = omega arith;
    each = λ k has. absurd (omega (arith, has.1));
    has = λ i p low high. absurd (omega (arith, low, high));
    agrees = λ k s has. absurd (omega (arith, has.1));
  }

  module _ (itself : (r : R) → agree r r) (turned : (r s : R) → agree r s → agree s r) where
    -- one place alone
    pub one_agrees : (to : ℕ) → to ≡ from + 1 → AgreeWithin agree lists places from to
    one_agrees to is i j p q i_low i_high j_low j_high p_at q_at r s r_at s_at =
        let i_is : i ≡ j = omega (arith, is, i_low, i_high, j_low, j_high) in
        let p_is : p ≡ q = same_Some p q (sym p_at ∙ ap (slice_get places) i_is ∙ q_at) in
        subst (agree r) (same_Some r s (sym r_at ∙ ap (record_at lists) p_is ∙ s_at)) (itself r)

    module _ (at : ℕ) (kept : List Place) (comparing : IsComparing at kept) where
      -- the records of all places agree
      pub all_agree : AgreeWithin agree lists places from at
      all_agree i j p q i_low i_high j_low j_high p_at q_at r s r_at s_at =
          let one = comparing.has i p i_low i_high p_at in
          let other = comparing.has j q j_low j_high q_at in
          comparing.agrees other.0 s other.1 (other.2 ∙ s_at) one.0 r one.1 (one.2 ∙ r_at)

      module _ (here : Place) (here_at : slice_get places at ≡ Some here) where
        later : (k : Place) → IsKept at k → IsKept (at + 1) k
        later k (i, low, high, is) = (i, low, omega (arith, high), is)

        -- the record here is that of a place that is kept
        copy_on : (k : Place) → Contains kept k → record_at lists k ≡ record_at lists here → IsComparing (at + 1) kept
        copy_on k has same = record {
          after = omega (arith, comparing.after);
          each = λ l there. later l (comparing.each l there);
          has = λ i p low high p_at. found i p low p_at (below_or_at i at high);
          agrees = comparing.agrees;
        } where
          found : (i : ℕ) (p : Place) → from ≤ i → slice_get places i ≡ Some p → (i < at) ⊎ (i ≡ at) → (l : Place) × Contains kept l × (record_at lists l ≡ record_at lists p)
          found i p low p_at (inl less) = comparing.has i p low less p_at
          found i p low p_at (inr is) = (k, has, same ∙ ap (record_at lists) (same_Some here p (sym here_at ∙ ap (slice_get places) (sym is) ∙ p_at)))

        -- the record here agrees with those of all that are kept, and its place is kept too
        kept_on : (s : R) → record_at lists here ≡ Some s → AgreesWithAll agree lists kept s → IsComparing (at + 1) (kept ++ here ∷ [])
        kept_on s is agrees = record {
          after = omega (arith, comparing.after);
          each = λ k has. still k (Contains-push_cases kept here k has);
          has = λ i p low high p_at. found i p low p_at (below_or_at i at high);
          agrees = λ k t has k_at. with_all k t k_at (Contains-push_cases kept here k has);
        } where
          still : (k : Place) → Contains kept k ⊎ (here ≡ k) → IsKept (at + 1) k
          still k (inl has) = later k (comparing.each k has)
          still k (inr same) = (at, comparing.after, omega arith, here_at ∙ ap Some same)

          found : (i : ℕ) (p : Place) → from ≤ i → slice_get places i ≡ Some p → (i < at) ⊎ (i ≡ at) → (l : Place) × Contains (kept ++ here ∷ []) l × (record_at lists l ≡ record_at lists p)
          found i p low p_at (inl less) = let l = comparing.has i p low less p_at in (l.0, Contains-append_left kept (here ∷ []) l.0 l.1, l.2)
          found i p low p_at (inr same) = (here, Contains-push kept here, ap (record_at lists) (same_Some here p (sym here_at ∙ ap (slice_get places) (sym same) ∙ p_at)))

          record_here : (k : Place) (t : R) → here ≡ k → record_at lists k ≡ Some t → s ≡ t
          record_here k t same k_at = same_Some s t (sym is ∙ ap (record_at lists) same ∙ k_at)

          pair : (k l : Place) (r t : R) → Contains kept k ⊎ (here ≡ k) → Contains kept l ⊎ (here ≡ l) → record_at lists k ≡ Some t → record_at lists l ≡ Some r → agree r t
          pair k l r t (inl k_has) (inl l_has) k_at l_at = comparing.agrees k t k_has k_at l r l_has l_at
          pair k l r t (inl k_has) (inr l_is) k_at l_at = turned t r (subst (agree t) (record_here l r l_is l_at) (agrees k t k_has k_at))
          pair k l r t (inr k_is) (inl l_has) k_at l_at = subst (agree r) (record_here k t k_is k_at) (agrees l r l_has l_at)
          pair k l r t (inr k_is) (inr l_is) k_at l_at = subst (agree r) (sym (record_here l r l_is l_at) ∙ record_here k t k_is k_at) (itself r)

          with_all : (k : Place) (t : R) → record_at lists k ≡ Some t → Contains kept k ⊎ (here ≡ k) → AgreesWithAll agree lists (kept ++ here ∷ []) t
          with_all k t k_at which l r l_has l_at = pair k l r t which (Contains-push_cases kept here l l_has) k_at l_at

        pub compared_on : (kept' : List Place) → ComparesPlace agree lists here kept kept' → IsComparing (at + 1) kept'
        compared_on kept' (inl (same, (k, has, copy))) = subst (IsComparing (at + 1)) (sym same) (copy_on k has copy)
        compared_on kept' (inr (more, (s, is, agrees))) = subst (IsComparing (at + 1)) (sym more) (kept_on s is agrees)

        -- the record here does not agree with one of those
        pub differ_here : (to : ℕ) (d : Differing) → IsRun places from to → at < to → DiffersFromKept agree lists here kept d → DifferWithin agree lists places from to d
        differ_here to d run low (s, is, (k, r, has, k_at, number, against), second_is, hash_is) =
            let one = comparing.each k has in
            record {
              i = one.0;
              j = at;
              one = k;
              other = here;
              is_one = (one.1, omega (arith, one.2, low), one.3);
              is_other = (comparing.after, low, here_at);
              numbers = (number, second_is);
              hashes = (run.same one.0 k one.1 (omega (arith, one.2, low)) one.3 ∙ sym (run.same at here comparing.after low here_at) ∙ hash_is, hash_is);
              differ = (r, s, k_at, is, against);
            }
