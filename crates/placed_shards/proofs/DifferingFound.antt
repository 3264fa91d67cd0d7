-- The runs of records with one hash, one after the other, and what they say of the lists.
use Rattle.std.proofs.Common.{◌≡◌, ◌⊎◌, inl, inr, ℕ, ◌<◌, ◌≤◌, Bool, true, false, List, [], ◌∷◌, ◌++◌, length, map, Option, None, Some, refl, sym, ap, ◌∙◌, subst, cond, arith}
use Rattle.std.specs.Prelude.{Contains, slice_get}
use Rattle.std.specs.List.Sorted.{IsStrictlySortedBy}
use Rattle.std.specs.Ordering.{eq_by_cmp}
use Rattle.std.specs.declared.cmp.Ordering.TheVariants.{Less}
use Rattle.std.proofs.lemmas.List.{map-append}
use Rattle.std.proofs.lemmas.List.Elements.{Contains-push, Contains-push_cases, Contains-append_left, Contains-append_right}
use Rattle.std.proofs.lemmas.Option.{none-some, same_Some, slice_get_within}
use Rattle.xet_base.specs.declared.merklehash.DataHash.{DataHash}
use Rattle.xet_base.specs.Hash.{hash_cmp}
use Rattle.xet_base.proofs.HashOrder.{same_key}
use Rattle.xet_records.specs.RecordKind.{RecordKind}
use Rattle.xet_shards.specs.Write.WithOptions.{Ascends}
use Rattle.xet_shards.proofs.Content.MappedShards.{unmapped_member}
use Rattle.xet_core_structures.specs.Records.RecordPairs.{key_of_record, with_hash}
use Rattle.xet_core_structures.proofs.Records.ListMaps.{with_hash_of}
use Rattle.placed_shards.specs.declared.differing.Differing.{Differing}
use Rattle.placed_shards.specs.declared.places.Place.{Place}
use Rattle.placed_shards.specs.Agreement.{AgreeIfBoth}
use Rattle.placed_shards.specs.Steps.Differing.{record_at, AgreeAt, AgreeWithin, ComparesRun, DifferWithin, FindsDiffering, HasPlaces, IsPlace, IsRun}
use Rattle.placed_shards.proofs.HashRuns.{ascends_more, in_list, less_apart, list_there}
use Rattle.placed_shards.proofs.Items.{below_or_from, has_at, place_of_item}

-- what a list has under a hash is one of its records, and has this hash
pub found_under : {H R : Type 0} (K : RecordKind H R) (rs : List R) (q : DataHash) (r : R) → with_hash K rs q ≡ Some r → Contains rs r × (key_of_record K r ≡ q)
found_under K [] q r is = absurd (none-some r is)
found_under {R = R} K (x ∷ rs) q r is = of (eq_by_cmp hash_cmp q (key_of_record K x)) refl is (found_under K rs q r) where
  of : (b : Bool) → eq_by_cmp hash_cmp q (key_of_record K x) ≡ b → cond b (Some x) (with_hash K rs q) ≡ Some r → (with_hash K rs q ≡ Some r → Contains rs r × (key_of_record K r ≡ q))
      → Contains (x ∷ rs) r × (key_of_record K r ≡ q)
  of true same some in_rest =
      let x_is : x ≡ r = same_Some x r some in
      ((0, omega arith, x_is), ap (key_of_record K) (sym x_is) ∙ sym ((same_key q (key_of_record K x)).0 same))
  of false other some in_rest = let rest = in_rest some in (Contains-append_right (x ∷ []) rs r rest.0, rest.1)

-- two records agree, if there are two
pub if_both : {R : Type 0} (agree : R → R → Type 0) (a b : Option R) → ((r s : R) → a ≡ Some r → b ≡ Some s → agree r s) → AgreeIfBoth agree a b
if_both agree None b both = tt
if_both agree (Some r) None both = tt
if_both agree (Some r) (Some s) both = both r s refl refl

both_differ : {R : Type 0} (agree : R → R → Type 0) (a b : Option R) (r s : R) → a ≡ Some r → b ≡ Some s → ¬ agree r s → ¬ AgreeIfBoth agree a b
both_differ agree a b r s a_is b_is differ agreed = differ (subst (λ o. AgreeIfBoth agree (Some r) o) b_is (subst (λ o. AgreeIfBoth agree o b) a_is agreed))

abbrev hashes : List Differing → List DataHash
hashes found = map (λ d. d.hash) found

module _ {R : Type 0} (agree : R → R → Type 0) (lists : List (List R)) (places : List Place) where
  -- the runs up to a place are compared
  pub record HasCompared (at : ℕ) (found : List Differing) : Type 0 where
    pub within : at ≤ length places
    pub apart : (i j : ℕ) (p q : Place) → i < at → at ≤ j → slice_get places i ≡ Some p → slice_get places j ≡ Some q → hash_cmp p.hash q.hash ≡ Less
    pub ascends : IsStrictlySortedBy hash_cmp (hashes found)
    pub each : (d : Differing) → Contains found d → DifferWithin agree lists places 0 at d
    pub agrees : (i j : ℕ) (p q : Place) → i < at → j < at → slice_get places i ≡ Some p → slice_get places j ≡ Some q → p.hash ≡ q.hash → ¬ Contains (hashes found) p.hash → AgreeAt agree lists p q

  pub compared_start : HasCompared 0 []
  unfolding IsStrictlySortedBy
  compared_start = record {
    within = omega arith;
    apart = λ i j p q low. absurd (omega (arith, low));
    ascends = tt;
    each = λ d has. absurd (omega (arith, has.1));
    agrees = λ i j p q low. absurd (omega (arith, low));
  }

  wider : (from to at : ℕ) (d : Differing) → to ≤ at → DifferWithin agree lists places from to d → DifferWithin agree lists places 0 at d
  wider from to at d up is = record {
    i = is.i;
    j = is.j;
    one = is.one;
    other = is.other;
    is_one = (omega arith, omega (arith, is.is_one.1, up), is.is_one.2);
    is_other = (omega arith, omega (arith, is.is_other.1, up), is.is_other.2);
    numbers = is.numbers;
    hashes = is.hashes;
    differ = is.differ;
  }

  module _ (at to : ℕ) (found : List Differing) (compared : HasCompared at found) (run : IsRun places at to) where
    apart_on : (i j : ℕ) (p q : Place) → i < to → to ≤ j → slice_get places i ≡ Some p → slice_get places j ≡ Some q → hash_cmp p.hash q.hash ≡ Less
    apart_on i j p q low high p_at q_at = of (below_or_from i at) where
      of : (i < at) ⊎ (at ≤ i) → hash_cmp p.hash q.hash ≡ Less
      of (inl before) = compared.apart i j p q before (omega (arith, run.some, high)) p_at q_at
      of (inr here) = subst (λ h. hash_cmp h q.hash ≡ Less) (sym (run.same i p here low p_at)) (run.later j q high q_at)

    -- what is so within the runs before, and in this one, is so up to its end
    agrees_on : (found' : List Differing) → ((h : DataHash) → Contains (hashes found) h → Contains (hashes found') h)
        → ((i j : ℕ) (p q : Place) → at ≤ i → i < to → at ≤ j → j < to → slice_get places i ≡ Some p → slice_get places j ≡ Some q → ¬ Contains (hashes found') p.hash → AgreeAt agree lists p q)
        → (i j : ℕ) (p q : Place) → i < to → j < to → slice_get places i ≡ Some p → slice_get places j ≡ Some q → p.hash ≡ q.hash → ¬ Contains (hashes found') p.hash → AgreeAt agree lists p q
    agrees_on found' kept here i j p q i_low j_low p_at q_at same none = of (below_or_from i at) (below_or_from j at) where
      of : (i < at) ⊎ (at ≤ i) → (j < at) ⊎ (at ≤ j) → AgreeAt agree lists p q
      of (inl i_before) (inl j_before) = compared.agrees i j p q i_before j_before p_at q_at same (λ has. none (kept p.hash has))
      of (inl i_before) (inr j_here) = absurd (less_apart p.hash q.hash (compared.apart i j p q i_before j_here p_at q_at) same)
      of (inr i_here) (inl j_before) = absurd (less_apart q.hash p.hash (compared.apart j i q p j_before i_here q_at p_at) (sym same))
      of (inr i_here) (inr j_here) = here i j p q i_here i_low j_here j_low p_at q_at none

    compared_agreeing : AgreeWithin agree lists places at to → HasCompared to found
    compared_agreeing agrees = record {
      within = run.within;
      apart = apart_on;
      ascends = compared.ascends;
      each = λ d has. wider 0 at to d (omega (arith, run.some)) (compared.each d has);
      agrees = agrees_on found (λ h has. has) (λ i j p q i_low i_high j_low j_high p_at q_at none. agrees i j p q i_low i_high j_low j_high p_at q_at);
    }

    module _ (d : Differing) (differ : DifferWithin agree lists places at to d) where
      more : hashes (found ++ d ∷ []) ≡ hashes found ++ d.hash ∷ []
      more = map-append (λ (x : Differing). x.hash) found (d ∷ [])

      hash_is : d.hash ≡ run.hash
      hash_is = sym differ.hashes.1 ∙ run.same differ.j differ.other differ.is_other.0 differ.is_other.1 differ.is_other.2

      below : (h : DataHash) → Contains (hashes found) h → hash_cmp h d.hash ≡ Less
      below h has =
          let e = unmapped_member (λ (x : Differing). x.hash) found h has in
          let before = compared.each e.0 e.1 in
          subst (λ k. hash_cmp k d.hash ≡ Less) (before.hashes.1 ∙ e.2)
          (subst (λ k. hash_cmp before.other.hash k ≡ Less) differ.hashes.1 (compared.apart before.j differ.j before.other differ.other before.is_other.1 differ.is_other.0 before.is_other.2 differ.is_other.2))

      compared_differing : HasCompared to (found ++ d ∷ [])
      compared_differing = record {
        within = run.within;
        apart = apart_on;
        ascends = subst (IsStrictlySortedBy hash_cmp) (sym more) (ascends_more (hashes found) d.hash below compared.ascends);
        each = λ e has. from e (Contains-push_cases found d e has);
        agrees = agrees_on (found ++ d ∷ []) (λ h has. subst (λ hs. Contains hs h) (sym more) (Contains-append_left (hashes found) (d.hash ∷ []) h has))
            (λ i j p q i_low i_high j_low j_high p_at q_at none.
            absurd (none (subst (λ hs. Contains hs p.hash) (sym more) (subst (Contains (hashes found ++ d.hash ∷ [])) (hash_is ∙ sym (run.same i p i_low i_high p_at)) (Contains-push (hashes found) d.hash)))));
      } where
        from : (e : Differing) → Contains found e ⊎ (d ≡ e) → DifferWithin agree lists places 0 to e
        from e (inl has) = wider 0 at to e (omega (arith, run.some)) (compared.each e has)
        from e (inr is) = subst (DifferWithin agree lists places 0 to) is (wider at to to d (omega arith) differ)

    pub compared_on : (found' : List Differing) → ComparesRun agree lists places at to found found' → HasCompared to found'
    compared_on found' (inl (same, agrees)) = subst (HasCompared to) (sym same) (compared_agreeing agrees)
    compared_on found' (inr (d, more, differ)) = subst (HasCompared to) (sym more) (compared_differing d differ)

module _ {H R : Type 0} (K : RecordKind H R) (agree : R → R → Type 0) (lists : List (List R)) (ascend : (l : List R) → Contains lists l → Ascends K l) (places : List Place) (has : HasPlaces K lists places) where
  -- the record at a place is what its list has under its hash
  record IsUnder (p : Place) (r : R) : Type 0 where
    list : List R
    at : slice_get lists p.list ≡ Some list
    under : with_hash K list p.hash ≡ Some r

  under_hash : (p : Place) (r : R) → IsPlace K lists p → record_at lists p ≡ Some r → IsUnder p r
  under_hash p r is r_at =
      let there = list_there K lists p r r_at in
      let hash : key_of_record K r ≡ p.hash = ap (key_of_record K) (same_Some r is.value (sym r_at ∙ is.at)) ∙ is.hash in
      record {
        list = there.0;
        at = there.1;
        under = subst (λ h. with_hash K there.0 h ≡ Some r) hash (with_hash_of K there.0 r (ascend there.0 (has_at lists p.list there.0 there.1)) (has_at there.0 p.index r there.2));
      }

  -- what a list has under a hash is at a place
  record IsFoundAt (q : DataHash) (r : R) : Type 0 where
    place : Place
    number : ℕ
    at_number : slice_get places number ≡ Some place
    at : record_at lists place ≡ Some r
    hash : place.hash ≡ q

  found_at : (q : DataHash) (l : List R) (r : R) → Contains lists l → with_hash K l q ≡ Some r → IsFoundAt q r
  found_at q l r l_has r_is =
      let found = found_under K l q r r_is in
      let list_place = place_of_item lists l l_has in
      let index = place_of_item l r found.0 in
      let place : Place = record { hash = q; list = list_place.0; index = index.0 } in
      let r_at : record_at lists place ≡ Some r = in_list K lists place l list_place.1 ∙ index.1 in
      let number = place_of_item places place (has.all place (record { value = r; at = r_at; hash = found.1 })) in
      record { place = place; number = number.0; at_number = number.1; at = r_at; hash = refl }

  module _ (n : ℕ) (found : List Differing) (past : length places ≤ n) (compared : HasCompared agree lists places n found) where
    differ : (d : Differing) → Contains found d → (xs ys : List R) × (slice_get lists d.first ≡ Some xs) × (slice_get lists d.second ≡ Some ys) × (¬ AgreeIfBoth agree (with_hash K xs d.hash) (with_hash K ys d.hash))
    differ d is =
        let two = compared.each d is in
        let r = two.differ.0 in
        let s = two.differ.1 in
        let one = under_hash two.one r (has.each two.one (has_at places two.i two.one two.is_one.2)) two.differ.2 in
        let other = under_hash two.other s (has.each two.other (has_at places two.j two.other two.is_other.2)) two.differ.3 in (
          one.list,
          other.list,
          subst (λ i. slice_get lists i ≡ Some one.list) two.numbers.0 one.at,
          subst (λ i. slice_get lists i ≡ Some other.list) two.numbers.1 other.at,
          both_differ agree (with_hash K one.list d.hash) (with_hash K other.list d.hash) r s (subst (λ h. with_hash K one.list h ≡ Some r) two.hashes.0 one.under) (subst (λ h. with_hash K other.list h ≡ Some s) two.hashes.1 other.under) two.differ.4,
        )

    agrees : (q : DataHash) → ¬ Contains (hashes found) q → (xs ys : List R) → Contains lists xs → Contains lists ys → AgreeIfBoth agree (with_hash K xs q) (with_hash K ys q)
    agrees q none xs ys xs_has ys_has = if_both agree (with_hash K xs q) (with_hash K ys q) both where
      both : (r s : R) → with_hash K xs q ≡ Some r → with_hash K ys q ≡ Some s → agree r s
      both r s r_is s_is =
          let one = found_at q xs r xs_has r_is in
          let other = found_at q ys s ys_has s_is in
          compared.agrees one.number other.number one.place other.place (omega (arith, past, slice_get_within places one.number one.place one.at_number)) (omega (arith, past, slice_get_within places other.number other.place other.at_number))
          one.at_number other.at_number (one.hash ∙ sym other.hash) (λ has. none (subst (Contains (hashes found)) one.hash has)) r s one.at other.at

    pub found_differing : FindsDiffering K agree lists found
    found_differing = record { ascends = compared.ascends; each = differ; others = agrees }
