-- Places of records in the order of their hashes, and the runs of those that have one hash.
use Rattle.std.proofs.Common.{◌≡◌, ◌⊎◌, inl, inr, ℕ, suc, ◌+◌, ◌<◌, ◌≤◌, false, List, [], ◌∷◌, ◌++◌, length, get_or, Option, None, Some, refl, sym, ap, ◌∙◌, subst, arith, true≢false}
use Rattle.std.specs.Prelude.{Contains, option_and_then, slice_get}
use Rattle.std.specs.Cmp.{IsTotalOrder}
use Rattle.std.specs.List.{AllByRecursion}
use Rattle.std.specs.List.Sorted.{IsSorted, IsStrictlySortedBy, IsPermutation}
use Rattle.std.specs.Ordering.{nat_cmp, ordering_then, ordering_reverse, is_lt}
use Rattle.std.specs.declared.cmp.Ordering.{Ordering}
use Rattle.std.specs.declared.cmp.Ordering.TheVariants.{Less, Equal, Greater}
use Rattle.std.proofs.lemmas.Cmp.{then_total, on_total, nat_cmp_total, tied_itself}
use Rattle.std.proofs.lemmas.List.Elements.{Contains-push, Contains-push_cases, Contains-append_left}
use Rattle.std.proofs.lemmas.List.Sorted.{sorted_far, ranks_by, Contains-permutation, IsPermutation-sym}
use Rattle.std.proofs.lemmas.Option.{none-some, same_Some, slice_get_within, slice_get-get_or, get_or_from_slice_get}
use Rattle.xet_base.specs.declared.merklehash.DataHash.{DataHash}
use Rattle.xet_base.specs.Hash.{hash_cmp}
use Rattle.xet_base.proofs.HashOrder.{hash_cmp-IsTotalOrder, hash_cmp-IsAntisymmetric}
use Rattle.xet_records.specs.RecordKind.{RecordKind}
use Rattle.placed_shards.specs.declared.places.Place.{Place}
use Rattle.xet_core_structures.specs.Records.RecordPairs.{key_of_record}
use Rattle.placed_shards.specs.Steps.Differing.{place_cmp, record_at, IsRun, IsIn, IsPlace, AddsPlaces, HasPlaces}
use Rattle.placed_shards.proofs.Items.{below_or_at}

-- what stands for a place that a list does not have
abbrev pub no_place : Place
no_place = record { hash = record { word0 = 0; word1 = 0; word2 = 0; word3 = 0 }; list = 0; index = 0 }

-- the order of places is that of their hashes first
place_total : IsTotalOrder place_cmp
place_total =
    then_total (on_total (λ (p : Place). p.hash) hash_cmp-IsTotalOrder) (then_total (on_total (λ (p : Place). p.list) nat_cmp_total) (on_total (λ (p : Place). p.index) nat_cmp_total))

not_lesser : (o p : Ordering) → is_lt (ordering_then o p) ≡ false → is_lt o ≡ false
not_lesser Less p is = absurd (true≢false is)
not_lesser Equal p is = refl
not_lesser Greater p is = refl

same_or_less : (k q : DataHash) → is_lt (hash_cmp q k) ≡ false → (k ≡ q) ⊎ (hash_cmp k q ≡ Less)
same_or_less k q not_less = of (hash_cmp k q) refl where
  of : (o : Ordering) → hash_cmp k q ≡ o → (k ≡ q) ⊎ (hash_cmp k q ≡ Less)
  of Less is = inr is
  of Equal is = inl (hash_cmp-IsAntisymmetric k q is)
  of Greater is = absurd (true≢false (sym (ap is_lt (hash_cmp-IsTotalOrder.antisymm q k ∙ ap ordering_reverse is)) ∙ not_less))

pub less_apart : (k q : DataHash) → hash_cmp k q ≡ Less → ¬ (k ≡ q)
less_apart k q less same = true≢false (sym (ap is_lt (subst (λ j. hash_cmp j q ≡ Less) same less)) ∙ ap is_lt (tied_itself hash_cmp-IsTotalOrder q))

module _ (places : List Place) where
  -- the places from one on have a hash, up to another
  pub record IsRunning (from end : ℕ) (hash : DataHash) : Type 0 where
    pub some : from < end
    pub within : end ≤ length places
    pub same : (i : ℕ) (p : Place) → from ≤ i → i < end → slice_get places i ≡ Some p → p.hash ≡ hash

  pub running_on : (from end : ℕ) (hash : DataHash) (next : Place) → IsRunning from end hash → slice_get places end ≡ Some next → next.hash ≡ hash → IsRunning from (end + 1) hash
  running_on from end hash next running at is = record {
    some = omega (arith, running.some);
    within = omega (arith, slice_get_within places end next at);
    same = λ i p low high p_at. of i p low p_at (below_or_at i end high);
  } where
    of : (i : ℕ) (p : Place) → from ≤ i → slice_get places i ≡ Some p → (i < end) ⊎ (i ≡ end) → p.hash ≡ hash
    of i p low p_at (inl less) = running.same i p low less p_at
    of i p low p_at (inr same) = ap (λ (q : Place). q.hash) (same_Some p next (sym p_at ∙ ap (slice_get places) same ∙ at)) ∙ is

module _ (places : List Place) (sorted : IsSorted place_cmp places) where
  -- a later place has the same hash or a greater one
  in_order : (i j : ℕ) (p q : Place) → i ≤ j → slice_get places i ≡ Some p → slice_get places j ≡ Some q → (p.hash ≡ q.hash) ⊎ (hash_cmp p.hash q.hash ≡ Less)
  in_order i j p q before p_at q_at =
      let far = sorted_far (λ x y. is_lt (place_cmp x y)) (ranks_by place_total (λ (p : Place). p)) places sorted i j p before (slice_get_within places j q q_at) in
      let p_is = get_or_from_slice_get places i p p p_at in
      let q_is = get_or_from_slice_get places j q p q_at in
      same_or_less p.hash q.hash (not_lesser (hash_cmp q.hash p.hash) (ordering_then (nat_cmp q.list p.list) (nat_cmp q.index p.index)) (subst (λ t. t) (λ k. is_lt (place_cmp (q_is k) (p_is k)) ≡ false) far))

  less_on : (k : DataHash) (p q : Place) → hash_cmp k p.hash ≡ Less → (p.hash ≡ q.hash) ⊎ (hash_cmp p.hash q.hash ≡ Less) → hash_cmp k q.hash ≡ Less
  less_on k p q less (inl same) = subst (λ h. hash_cmp k h ≡ Less) same less
  less_on k p q less (inr more) = hash_cmp-IsTotalOrder.trans k p.hash q.hash less more

  -- after a place with another hash all have greater ones
  later_hashes : (from to : ℕ) (first : Place) → from ≤ to → slice_get places from ≡ Some first → ((q : Place) → slice_get places to ≡ Some q → ¬ (q.hash ≡ first.hash))
      → (i : ℕ) (p : Place) → to ≤ i → slice_get places i ≡ Some p → hash_cmp first.hash p.hash ≡ Less
  later_hashes from to first before first_at other i p after p_at =
      let low = slice_get_within places i p p_at in
      let next = get_or places to first in
      let next_at = slice_get-get_or places to first (omega (arith, low, after)) in
      less_on first.hash next p (of (in_order from to first next before first_at next_at) (other next next_at)) (in_order to i next p after next_at p_at)
    where
      of : {k q : DataHash} → (k ≡ q) ⊎ (hash_cmp k q ≡ Less) → ¬ (q ≡ k) → hash_cmp k q ≡ Less
      of (inl same) differ = absurd (differ (sym same))
      of (inr less) differ = less

  pub run_ends : (from end : ℕ) (hash : DataHash) (first : Place) → IsRunning places from end hash → slice_get places from ≡ Some first → ((q : Place) → slice_get places end ≡ Some q → ¬ (q.hash ≡ hash)) → IsRun places from end
  run_ends from end hash first running first_at other =
      let first_is : first.hash ≡ hash = running.same from first (omega arith) running.some first_at in
      record {
        some = running.some;
        within = running.within;
        hash = hash;
        same = running.same;
        later = λ i p high p_at. subst (λ k. hash_cmp k p.hash ≡ Less) first_is (later_hashes from end first (omega (arith, running.some)) first_at (λ q q_at same. other q q_at (same ∙ first_is)) i p high p_at);
      }

-- a list of hashes with a greater one at its end
first_below : (k h : DataHash) (hs : List DataHash) → AllByRecursion (λ q. hash_cmp h q ≡ Less) hs → hash_cmp h k ≡ Less → AllByRecursion (λ q. hash_cmp h q ≡ Less) (hs ++ k ∷ [])
first_below k h [] all less = (less, tt)
first_below k h (q ∷ hs) all less = (all.0, first_below k h hs all.1 less)

pub ascends_more : (hs : List DataHash) (k : DataHash) → ((h : DataHash) → Contains hs h → hash_cmp h k ≡ Less) → IsStrictlySortedBy hash_cmp hs → IsStrictlySortedBy hash_cmp (hs ++ k ∷ [])
unfolding IsStrictlySortedBy
ascends_more [] k below ascends = (tt, tt)
ascends_more (h ∷ hs) k below ascends = (first_below k h hs ascends.0 (below h (0, omega arith, refl)), ascends_more hs k (λ q has. below q (suc has.0, omega (arith, has.1), has.2)) ascends.1)

module _ {H R : Type 0} (K : RecordKind H R) where
  -- the places of a list up to an index were added
  pub record IsAdding (number : ℕ) (list : List R) (index : ℕ) (old new : List Place) : Type 0 where
    pub kept : (p : Place) → Contains old p → Contains new p
    pub added : (p : Place) → p.list ≡ number → p.index < index → IsIn K list p → Contains new p
    pub each : (p : Place) → Contains new p → Contains old p ⊎ ((p.list ≡ number) × IsIn K list p)

  module _ (number : ℕ) (list : List R) (old : List Place) where
    module _ (index : ℕ) (new : List Place) (adding : IsAdding number list index old new) where
      pub adding_on : (value : R) (hash : DataHash) → slice_get list index ≡ Some value → hash ≡ key_of_record K value → IsAdding number list (index + 1) old (new ++ record { hash = hash; list = number; index = index } ∷ [])
      adding_on value hash at hash_is = record {
        kept = λ p has. Contains-append_left new (next ∷ []) p (adding.kept p has);
        added = λ p is low here. which p is here (below_or_at p.index index low);
        each = λ p has. from p (Contains-push_cases new next p has);
      } where
        next : Place
        next = record { hash = hash; list = number; index = index }

        which : (p : Place) → p.list ≡ number → IsIn K list p → (p.index < index) ⊎ (p.index ≡ index) → Contains (new ++ next ∷ []) p
        which p is here (inl low) = Contains-append_left new (next ∷ []) p (adding.added p is low here)
        which p is here (inr same) =
            let value_is : here.value ≡ value = same_Some here.value value (sym here.at ∙ ap (slice_get list) same ∙ at) in
            let p_is : next ≡ p = λ k. record { hash = (hash_is ∙ sym (ap (key_of_record K) value_is) ∙ here.hash) k; list = sym is k; index = sym same k } in
            subst (Contains (new ++ next ∷ [])) p_is (Contains-push new next)

        from : (p : Place) → Contains new p ⊎ (next ≡ p) → Contains old p ⊎ ((p.list ≡ number) × IsIn K list p)
        from p (inl has) = adding.each p has
        from p (inr is) = inr (subst (λ q. (q.list ≡ number) × IsIn K list q) is (refl, record { value = value; at = at; hash = sym hash_is }))

      pub all_added : length list ≤ index → AddsPlaces K number list old new
      all_added past = record {
        kept = adding.kept;
        added = λ p is here. adding.added p is (omega (arith, past, slice_get_within list p.index here.value here.at)) here;
        each = adding.each;
      }

  -- the places of the lists up to a number
  pub record HasPlacesUpTo (lists : List (List R)) (n : ℕ) (places : List Place) : Type 0 where
    pub all : (p : Place) → p.list < n → IsPlace K lists p → Contains places p
    pub each : (p : Place) → Contains places p → IsPlace K lists p

  module _ (lists : List (List R)) where
    -- the record at a place is that of the list with its number
    pub in_list : (p : Place) (list : List R) → slice_get lists p.list ≡ Some list → record_at lists p ≡ slice_get list p.index
    in_list p list at = ap (option_and_then (λ l. slice_get l p.index)) at

    -- where there is a record, there is a list
    pub list_there : (p : Place) (r : R) → record_at lists p ≡ Some r → (list : List R) × (slice_get lists p.list ≡ Some list) × (slice_get list p.index ≡ Some r)
    list_there p r at = of (slice_get lists p.list) refl at where
      of : (o : Option (List R)) → slice_get lists p.list ≡ o → option_and_then (λ l. slice_get l p.index) o ≡ Some r → (list : List R) × (slice_get lists p.list ≡ Some list) × (slice_get list p.index ≡ Some r)
      of None is none = absurd (none-some r none)
      of (Some list) is some = (list, is, some)

    pub places_on : (n : ℕ) (list : List R) (old new : List Place) → slice_get lists n ≡ Some list → HasPlacesUpTo lists n old → AddsPlaces K n list old new → HasPlacesUpTo lists (n + 1) new
    places_on n list old new at has adds = record {
      all = λ p low is. which p is (below_or_at p.list n low);
      each = λ p here. from p (adds.each p here);
    } where
      which : (p : Place) → IsPlace K lists p → (p.list < n) ⊎ (p.list ≡ n) → Contains new p
      which p is (inl low) = adds.kept p (has.all p low is)
      which p is (inr same) = adds.added p same (record { value = is.value; at = sym (in_list p list (ap (slice_get lists) same ∙ at)) ∙ is.at; hash = is.hash })

      from : (p : Place) → Contains old p ⊎ ((p.list ≡ n) × IsIn K list p) → IsPlace K lists p
      from p (inl here) = has.each p here
      from p (inr (is, is_in)) = record { value = is_in.value; at = in_list p list (ap (slice_get lists) is ∙ at) ∙ is_in.at; hash = is_in.hash }

    pub all_places : (n : ℕ) (places : List Place) → length lists ≤ n → HasPlacesUpTo lists n places → HasPlaces K lists places
    all_places n places past has = record {
      all = λ p is. let there = list_there p is.value is.at in has.all p (omega (arith, past, slice_get_within lists p.list there.0 there.1)) is;
      each = has.each;
    }

    pub places_permuted : (old new : List Place) → IsPermutation old new → HasPlaces K lists old → HasPlaces K lists new
    places_permuted old new moved has = record {
      all = λ p is. Contains-permutation old new p moved (has.all p is);
      each = λ p here. has.each p (Contains-permutation new old p (IsPermutation-sym old new moved) here);
    }
