-- The starts of a xorb, among those of a sorted list from its first chunk on.
use Rattle.std.proofs.Common.{◌≡◌, ℕ, zero, suc, ◌+◌, ◌-◌, ◌<◌, ◌≤◌, Bool, true, false, List, [], ◌∷◌, length, drop, get_or, leb, Some, Ok, Err, refl, sym, ap, ◌∙◌, subst, true≢false, arith}
use Rattle.std.specs.Prelude.{◌||◌, slice_get}
use Rattle.std.specs.declared.cmp.Ordering.{Ordering}
use Rattle.std.specs.declared.cmp.Ordering.TheVariants.{Less, Equal, Greater}
use Rattle.std.specs.List.Sorted.{IsSorted, IsPartitionedBy, IsPartitionPoint, IsNonDecreasingBy, IsBinarySearchResult, IsSearchInRange}
use Rattle.std.specs.declared.result.Result.{Result}
use Rattle.std.specs.Result.{is_ok}
use Rattle.std.specs.Ordering.{nat_cmp, eq_by_cmp, ordering_then, ordering_index, is_eq, is_lt, is_ge, MatchOrdering}
use Rattle.std.specs.Cmp.{Equal-is, IsStrictWeakOrder}
use Rattle.std.proofs.lemmas.Bool.{leb-true, leb-false}
use Rattle.std.proofs.lemmas.Cmp.{ranked, tied_itself}
use Rattle.std.proofs.lemmas.List.{get_or-drop, length-drop}
use Rattle.std.proofs.lemmas.List.Sorted.{sorted_far, ranks_by, searchable_from_sorted}
use Rattle.std.proofs.lemmas.Map.Keys.{ge_from_not_lt}
use Rattle.std.proofs.lemmas.Map.Lookups.{exact_pairs, exact_unsigned}
use Rattle.std.proofs.lemmas.Option.{none-some, same_Some, slice_get_within, slice_get-get_or, get_or_from_slice_get}
use Rattle.xet_base.specs.declared.merklehash.DataHash.{DataHash}
use Rattle.xet_base.specs.Hash.{hash_cmp}
use Rattle.xet_base.proofs.HashOrder.{hash_cmp-IsTotalOrder, hash_cmp-IsAntisymmetric}
use Rattle.xet_records.specs.declared.xorb_structs.MDBXorbInfo.{MDBXorbInfo}
use Rattle.xet_shards.specs.declared.streaming_shard.file_start.FileStart.{FileStart}
use Rattle.xet_shards.specs.StreamingShard.MinimalShard.{start_cmp, has_start, chunk_of}
use Rattle.xet_shards.specs.Steps.MinimalWriting.{AreStartsFrom}
use Rattle.xet_shards.specs.Content.Shard.{xorb_hash_of}
use Rattle.xet_shards.proofs.StreamingShard.MinimalShard.{StartsNowhere, IsNextStart, start_total}

start_order : IsStrictWeakOrder (λ (s t : FileStart). is_lt (start_cmp s t))
start_order = ranks_by start_total (λ (s : FileStart). s)

-- two starts that compare as equal are the same
start_exact : (a b : FileStart) → start_cmp a b ≡ Equal → a ≡ b
start_exact a b tied =
    ap (λ (p : DataHash × ℕ). record { xorb_hash = p.0; chunk_index = p.1 })
    (exact_pairs hash_cmp nat_cmp hash_cmp-IsAntisymmetric exact_unsigned (a.xorb_hash, a.chunk_index) (b.xorb_hash, b.chunk_index) tied)

same_start : (a b : FileStart) → eq_by_cmp start_cmp a b ≡ true → a ≡ b
same_start a b is = start_exact a b ((Equal-is (start_cmp a b)).0 is)

itself : (s : FileStart) → eq_by_cmp start_cmp s s ≡ true
itself s = ap is_eq (tied_itself start_total s)

-- a start of a list has a place in it, and what has a place is one
pub place_found : (starts : List FileStart) (s : FileStart) → has_start starts s ≡ true → (j : ℕ) × (slice_get starts j ≡ Some s)
place_found [] s is = absurd (true≢false (sym is))
place_found (t ∷ starts) s is = by_first (eq_by_cmp start_cmp s t) refl is (place_found starts s)
  where
    by_first : (b : Bool) → eq_by_cmp start_cmp s t ≡ b → (b || has_start starts s) ≡ true
        → (has_start starts s ≡ true → (j : ℕ) × (slice_get starts j ≡ Some s)) → (j : ℕ) × (slice_get (t ∷ starts) j ≡ Some s)
    by_first true here is later = (0, ap Some (sym (same_start s t here)))
    by_first false here is later = let found = later is in (suc found.0, found.1)

pub found_at : (starts : List FileStart) (j : ℕ) (s : FileStart) → slice_get starts j ≡ Some s → has_start starts s ≡ true
found_at [] j s there = absurd (none-some s there)
found_at (t ∷ starts) zero s there = ap (λ b. b || has_start starts s) (ap (eq_by_cmp start_cmp s) (same_Some t s there) ∙ itself s)
found_at (t ∷ starts) (suc j) s there = either (eq_by_cmp start_cmp s t) (found_at starts j s there)
  where
    either : (b : Bool) → has_start starts s ≡ true → (b || has_start starts s) ≡ true
    either true is = refl
    either false is = is

pub not_below_means : (at j : ℕ) → (j < at → ⊥) → at ≤ j
not_below_means at j none = by_test (leb at j) refl
  where
    by_test : (b : Bool) → leb at j ≡ b → at ≤ j
    by_test true is = leb-true at j is
    by_test false is = absurd (none (leb-false at j is))

-- those before a start come first in a sorted list
pub before_first : (starts : List FileStart) (first : FileStart) → IsSorted start_cmp starts → IsPartitionedBy (λ s. is_lt (start_cmp s first)) starts
before_first starts first sorted i j d order within before = either (is_lt (start_cmp (get_or starts i d) first)) refl
  where
    either : (b : Bool) → is_lt (start_cmp (get_or starts i d) first) ≡ b → b ≡ true
    either true is = refl
    either false is =
        absurd (true≢false (sym before ∙ start_order.chain (get_or starts j d) (get_or starts i d) first (sorted_far (λ x y. is_lt (start_cmp x y)) start_order starts sorted i j d order within) is))

-- past those that are before a start, a sorted list has those from it on
pub from_place : (starts : List FileStart) (first : FileStart) (at : ℕ) → IsSorted start_cmp starts
    → IsPartitionPoint (λ s. is_lt (start_cmp s first) ≡ true) (λ s. is_lt (start_cmp s first) ≡ false) starts at → AreStartsFrom first starts (drop at starts)
from_place starts first at sorted point = record {
  sorted = λ k d low below. simp get_or-drop (sorted_far (λ x y. is_lt (start_cmp x y)) start_order starts sorted (at + k) (at + (k + 1)) d (omega arith) (omega (arith, below, length-drop at starts)));
  are = λ s. (after s, from s);
}
  where
    after : (s : FileStart) → has_start (drop at starts) s ≡ true → (has_start starts s ≡ true) × (is_lt (start_cmp s first) ≡ false)
    after s has =
        let found = place_found (drop at starts) s has in
        let j = at + found.0 in
        let within : j < length starts = omega (arith, slice_get_within (drop at starts) found.0 s found.1, length-drop at starts) in
        let there : get_or starts j s ≡ s = sym (get_or-drop at starts found.0 s) ∙ get_or_from_slice_get (drop at starts) found.0 s s found.1 in (
          found_at starts j s (slice_get-get_or starts j s within ∙ ap Some there),
          subst (λ t. is_lt (start_cmp t first) ≡ false) there (point.1 j s (omega arith) within),
        )

    from : (s : FileStart) → (has_start starts s ≡ true) × (is_lt (start_cmp s first) ≡ false) → has_start (drop at starts) s ≡ true
    from s is =
        let found = place_found starts s is.0 in
        let j = found.0 in
        let within = slice_get_within starts j s found.1 in
        let there : get_or starts j s ≡ s = get_or_from_slice_get starts j s s found.1 in
        let low : at ≤ j = not_below_means at j (λ before. true≢false (sym (subst (λ t. is_lt (start_cmp t first) ≡ true) there (point.0 j s (omega arith) before)) ∙ is.1)) in
        found_at (drop at starts) (j - at) s (slice_get-get_or (drop at starts) (j - at) s (omega (arith, within, low, length-drop at starts))
        ∙ ap Some (get_or-drop at starts (j - at) s ∙ ap (λ n. get_or starts n s) (omega (arith, low)) ∙ there))

pub searchable : (starts : List FileStart) (first : FileStart) → IsSorted start_cmp starts → IsNonDecreasingBy (λ y. ordering_index (start_cmp y first)) starts
searchable starts first sorted = searchable_from_sorted start_total (λ (s : FileStart). s) starts first sorted

-- whether such a search finds the start
pub search_finds : (starts : List FileStart) (s : FileStart) (r : Result ℕ ℕ) → IsSorted start_cmp starts → IsSearchInRange r (length starts)
    → IsBinarySearchResult (λ y. start_cmp y s) starts r → is_ok r ≡ has_start starts s
search_finds starts s (Ok at) sorted within holds =
    sym (found_at starts at s (slice_get-get_or starts at s within ∙ ap Some (start_exact (get_or starts at s) s (holds s))))
search_finds starts s (Err at) sorted within points = sym (none (has_start starts s) refl)
  where
    none : (b : Bool) → has_start starts s ≡ b → b ≡ false
    none false is = refl
    none true is =
        let found = place_found starts s is in
        let j = found.0 in
        let there : get_or starts j s ≡ s = get_or_from_slice_get starts j s s found.1 in
        let point = points (searchable starts s sorted) in
        let tied : start_cmp s s ≡ Equal = tied_itself start_total s in
        let after : at ≤ j = not_below_means at j (λ before. let less : start_cmp s s ≡ Less = subst (λ t. start_cmp t s ≡ Less) there (point.0 j s (omega arith) before) in absurd (cc)) in
        let greater : start_cmp s s ≡ Greater = subst (λ t. start_cmp t s ≡ Greater) there (point.1 j s after (slice_get_within starts j s found.1)) in
        absurd (cc)

ge-not_lt : (o : Ordering) → is_ge o ≡ true → is_lt o ≡ false
ge-not_lt Less is = absurd (true≢false (sym is))
ge-not_lt Equal is = refl
ge-not_lt Greater is = refl

module _ (x : MDBXorbInfo) where
  pub same_xorb : (i j : ℕ) → start_cmp (chunk_of x i) (chunk_of x j) ≡ nat_cmp i j
  same_xorb i j = ap (λ o. ordering_then o (nat_cmp i j)) (tied_itself hash_cmp-IsTotalOrder (xorb_hash_of x))

  pub not_before : (i j : ℕ) → j ≤ i → is_lt (start_cmp (chunk_of x i) (chunk_of x j)) ≡ false
  not_before i j after = ap is_lt (same_xorb i j) ∙ not_less (nat_cmp i j) (ranked i j _ refl)
    where
      not_less : (o : Ordering) → MatchOrdering o (i < j) (i ≡ j) (j < i) → is_lt o ≡ false
      not_less Less ranks = absurd (omega arith)
      not_less Equal ranks = refl
      not_less Greater ranks = refl

  module _ (starts rest : List FileStart) where
    -- each start of the xorb from one of its chunks on stands in the rest, from some place on
    abbrev pub AreLeft : ℕ → ℕ → Type 0
    AreLeft done at = (i : ℕ) → done ≤ i → has_start starts (chunk_of x i) ≡ true → (j : ℕ) × (at ≤ j) × (slice_get rest j ≡ Some (chunk_of x i))

    nowhere : (done to : ℕ) → ((i : ℕ) → done ≤ i → i < to → has_start starts (chunk_of x i) ≡ true → ⊥) → StartsNowhere (has_start starts) x done to
    nowhere done to none i above below = either (has_start starts (chunk_of x i)) (none i above below)
      where
        either : (b : Bool) → (b ≡ true → ⊥) → b ≡ false
        either true not = absurd (not refl)
        either false not = refl

    -- nothing is left
    pub none_left : (done at to : ℕ) → AreLeft done at → length rest ≤ at → StartsNowhere (has_start starts) x done to
    none_left done at to left end = nowhere done to (λ i above below is. let found = left i above is in omega (arith, found.1, slice_get_within rest found.0 (chunk_of x i) found.2))

    -- a start that is left is passed
    pub passed : (done at next : ℕ) (k : FileStart) → AreLeft done at → slice_get rest at ≡ Some k → done ≤ next → k.chunk_index < next → AreLeft next (at + 1)
    passed done at next k left there on before i above is =
        let found = left i (omega (arith, on, above)) is in
        let j = found.0 in
        let after : at + 1 ≤ j = not_below_means (at + 1) j (λ below.
        let same : j ≡ at = omega (arith, below, found.1) in
        let index : k.chunk_index ≡ i = ap (λ s. s.chunk_index) (same_Some k (chunk_of x i) (sym there ∙ ap (slice_get rest) (sym same) ∙ found.2)) in
        omega (arith, index, above, before)) in
        (j, after, found.2)

    module _ {first : FileStart} (first_is : first ≡ chunk_of x 0) (from : AreStartsFrom first starts rest) where
      pub all_left : AreLeft 0 0
      all_left i above is =
          let found = place_found rest (chunk_of x i) ((from.are (chunk_of x i)).1 (is, subst (λ s. is_lt (start_cmp (chunk_of x i) s) ≡ false) (sym first_is) (not_before i 0 above))) in
          (found.0, omega arith, found.1)

      module _ (done at : ℕ) (k : FileStart) (left : AreLeft done at) (there : slice_get rest at ≡ Some k) where
        none_to : (to : ℕ) → is_ge (start_cmp k (chunk_of x to)) ≡ true → StartsNowhere (has_start starts) x done to
        none_to to after = nowhere done to (λ i above below is.
            let found = left i above is in
            let j = found.0 in
            let far : is_lt (start_cmp (get_or rest j k) (get_or rest at k)) ≡ false =
            sorted_far (λ s t. is_lt (start_cmp s t)) start_order rest from.sorted at j k found.1 (slice_get_within rest j (chunk_of x i) found.2) in
            let less : is_lt (start_cmp (chunk_of x i) k) ≡ false =
            subst (λ t. is_lt (start_cmp t k) ≡ false) (get_or_from_slice_get rest j (chunk_of x i) k found.2)
            (subst (λ t. is_lt (start_cmp (get_or rest j k) t) ≡ false) (get_or_from_slice_get rest at k k there) far) in
            let risen = ge_from_not_lt i to (sym (ap is_lt (same_xorb i to)) ∙ start_order.chain (chunk_of x i) k (chunk_of x to) less (ge-not_lt (start_cmp k (chunk_of x to)) after)) in
            omega (arith, risen, below))

        module _ (to : ℕ) {end : FileStart} (end_is : end ≡ chunk_of x to) where
          -- the next that is left is past the xorb
          pub none_before_end : is_ge (start_cmp k end) ≡ true → StartsNowhere (has_start starts) x done to
          none_before_end after = none_to to (subst (λ s. is_ge (start_cmp k s) ≡ true) end_is after)

          -- it is not, so that it is one of the xorb's chunks
          module _ (before : is_ge (start_cmp k end) ≡ false) where
            tied : (hash_cmp k.xorb_hash (xorb_hash_of x) ≡ Equal) × (is_ge (nat_cmp k.chunk_index to) ≡ false)
            tied = both (hash_cmp k.xorb_hash (xorb_hash_of x)) (nat_cmp k.chunk_index 0) (nat_cmp k.chunk_index to)
                (subst (λ s. is_lt (start_cmp k s) ≡ false) first_is ((from.are k).0 (found_at rest at k there)).1) (subst (λ s. is_ge (start_cmp k s) ≡ false) end_is before)
              where
                both : (o p q : Ordering) → is_lt (ordering_then o p) ≡ false → is_ge (ordering_then o q) ≡ false → (o ≡ Equal) × (is_ge q ≡ false)
                both Less p q low high = absurd (true≢false low)
                both Equal p q low high = (refl, high)
                both Greater p q low high = absurd (true≢false high)

            is_chunk : k ≡ chunk_of x k.chunk_index
            is_chunk i = record { xorb_hash = hash_cmp-IsAntisymmetric k.xorb_hash (xorb_hash_of x) tied.0 i; chunk_index = k.chunk_index }

            pub next_start : IsNextStart (has_start starts) x done to k.chunk_index
            next_start = record {
              within = less (nat_cmp k.chunk_index to) (ranked k.chunk_index to _ refl) tied.1;
              is_start = subst (λ s. has_start starts s ≡ true) is_chunk ((from.are k).0 (found_at rest at k there)).0;
              none_before = none_to k.chunk_index (subst (λ s. is_ge (start_cmp k s) ≡ true) is_chunk (ap is_ge (tied_itself start_total k)));
            }
              where
                less : (o : Ordering) → MatchOrdering o (k.chunk_index < to) (k.chunk_index ≡ to) (to < k.chunk_index) → is_ge o ≡ false → k.chunk_index < to
                less Less ranks is = ranks
                less Equal ranks is = absurd (true≢false is)
                less Greater ranks is = absurd (true≢false is)
