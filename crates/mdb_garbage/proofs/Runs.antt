-- The segments that name one hash, in a sorted list.
use Rattle.std.proofs.Common.{◌≡◌, ◌↔◌, ◌⊎◌, inl, inr, ⊎_elim, ℕ, ◌+◌, ◌-◌, ◌<◌, ◌≤◌, Bool, true, false, not, List, length, get_or, take, drop, Contains, refl, sym, ap, ◌∙◌, subst, true≢false, arith}
use Rattle.std.specs.Cmp.{IsTotalOrder}
use Rattle.std.specs.List.Sorted.{IsSorted, IsPartitionedBy, IsPartitionPoint}
use Rattle.std.specs.Ordering.{is_lt, ordering_then, ordering_reverse}
use Rattle.std.specs.declared.cmp.Ordering.{Ordering}
use Rattle.std.specs.declared.cmp.Ordering.TheVariants.{Less, Equal, Greater}
use Rattle.std.proofs.lemmas.Bool.{cases_lt}
use Rattle.std.proofs.lemmas.Cmp.{then_total, on_total, nat_cmp_total, tied_itself}
use Rattle.std.proofs.lemmas.List.{get_or-take, get_or-drop, length-take-le, length-drop}
use Rattle.std.proofs.lemmas.List.Sorted.{sorted_far, ranks_by}
use Rattle.xet_base.specs.declared.merklehash.DataHash.{DataHash}
use Rattle.xet_base.specs.Hash.{hash_cmp}
use Rattle.xet_base.proofs.HashOrder.{hash_cmp-IsTotalOrder, hash_cmp-IsAntisymmetric}
use Rattle.mdb_garbage.specs.declared.finding.Segment.{Segment}
use Rattle.mdb_garbage.specs.Order.{segment_cmp, is_before, is_up_to}
use Rattle.mdb_garbage.proofs.Limits.{is_less}

segment_total : IsTotalOrder segment_cmp
segment_total =
    then_total (on_total (λ (s : Segment). s.xorb) hash_cmp-IsTotalOrder) (then_total (on_total (λ (s : Segment). s.file) hash_cmp-IsTotalOrder)
    (then_total (on_total (λ (s : Segment). s.index) nat_cmp_total) (then_total (on_total (λ (s : Segment). s.start) nat_cmp_total)
    (then_total (on_total (λ (s : Segment). s.end) nat_cmp_total) (on_total (λ (s : Segment). s.bytes) nat_cmp_total)))))

not_lesser : (o p : Ordering) → is_lt (ordering_then o p) ≡ false → is_lt o ≡ false
not_lesser Less p is = absurd (true≢false is)
not_lesser Equal p is = refl
not_lesser Greater p is = refl

-- a hash that is not below another is the other or above it
pub same_or_less : (k q : DataHash) → is_lt (hash_cmp q k) ≡ false → (k ≡ q) ⊎ (hash_cmp k q ≡ Less)
same_or_less k q not_less = of (hash_cmp k q) refl where
  of : (o : Ordering) → hash_cmp k q ≡ o → (k ≡ q) ⊎ (hash_cmp k q ≡ Less)
  of Less is = inr is
  of Equal is = inl (hash_cmp-IsAntisymmetric k q is)
  of Greater is = absurd (true≢false (sym (ap is_lt (hash_cmp-IsTotalOrder.antisymm q k ∙ ap ordering_reverse is)) ∙ not_less))

no_segment : Segment
no_segment =
    record {
      xorb = record { word0 = 0; word1 = 0; word2 = 0; word3 = 0 };
      file = record { word0 = 0; word1 = 0; word2 = 0; word3 = 0 };
      index = 0;
      start = 0;
      end = 0;
      bytes = 0;
    }

not_true : (b : Bool) → ¬ (b ≡ true) → not b ≡ true
not_true true none = absurd (none refl)
not_true false none = refl

false_is : (b : Bool) → not b ≡ true → ¬ (b ≡ true)
false_is true un is = true≢false (sym un)
false_is false un is = true≢false (sym is)

not_false : (b : Bool) → not b ≡ false → b ≡ true
not_false true is = refl
not_false false is = absurd (true≢false is)

module _ (segments : List Segment) (sorted : IsSorted segment_cmp segments) (hash : DataHash) where
  -- no later segment names a lesser hash
  ascends : (i j : ℕ) (d : Segment) → i ≤ j → j < length segments → is_lt (hash_cmp (get_or segments j d).xorb (get_or segments i d).xorb) ≡ false
  ascends i j d before within =
      not_lesser (hash_cmp (get_or segments j d).xorb (get_or segments i d).xorb) _ (sorted_far (λ x y. is_lt (segment_cmp x y)) (ranks_by segment_total (λ (s : Segment). s)) segments sorted i j d before within)

  pub before_first : IsPartitionedBy (is_before hash) segments
  before_first i j d before within less = of (same_or_less (get_or segments i d).xorb (get_or segments j d).xorb (ascends i j d before within)) where
    of : ((get_or segments i d).xorb ≡ (get_or segments j d).xorb) ⊎ (hash_cmp (get_or segments i d).xorb (get_or segments j d).xorb ≡ Less) → is_before hash (get_or segments i d) ≡ true
    of (inl same) = subst (λ h. is_lt (hash_cmp h hash) ≡ true) (sym same) less
    of (inr below) = ap is_lt (hash_cmp-IsTotalOrder.trans (get_or segments i d).xorb (get_or segments j d).xorb hash below (is_less (hash_cmp (get_or segments j d).xorb hash) less))

  pub up_to_first : IsPartitionedBy (is_up_to hash) segments
  up_to_first i j d before within less = of (same_or_less (get_or segments i d).xorb (get_or segments j d).xorb (ascends i j d before within)) where
    above : is_lt (hash_cmp hash (get_or segments i d).xorb) ≡ true → hash_cmp (get_or segments i d).xorb (get_or segments j d).xorb ≡ Less → is_lt (hash_cmp hash (get_or segments j d).xorb) ≡ true
    above more below = ap is_lt (hash_cmp-IsTotalOrder.trans hash (get_or segments i d).xorb (get_or segments j d).xorb (is_less (hash_cmp hash (get_or segments i d).xorb) more) below)

    of : ((get_or segments i d).xorb ≡ (get_or segments j d).xorb) ⊎ (hash_cmp (get_or segments i d).xorb (get_or segments j d).xorb ≡ Less) → is_up_to hash (get_or segments i d) ≡ true
    of (inl same) = subst (λ h. not (is_lt (hash_cmp hash h)) ≡ true) (sym same) less
    of (inr below) = not_true (is_lt (hash_cmp hash (get_or segments i d).xorb)) (λ more. false_is (is_lt (hash_cmp hash (get_or segments j d).xorb)) less (above more below))

module _ (segments : List Segment) (hash : DataHash) (start end : ℕ) (starts : IsPartitionPoint (λ s. is_before hash s ≡ true) (λ s. is_before hash s ≡ false) segments start)
    (ends : IsPartitionPoint (λ s. is_up_to hash s ≡ true) (λ s. is_up_to hash s ≡ false) segments end) (within : end ≤ length segments) where
  -- a segment that is before a hash is up to it
  up_to_too : (s : Segment) → is_before hash s ≡ true → is_up_to hash s ≡ false → ⊥
  up_to_too s less above =
      let more = is_less (hash_cmp hash s.xorb) (not_false (is_lt (hash_cmp hash s.xorb)) above) in
      let around : hash_cmp s.xorb s.xorb ≡ Less = hash_cmp-IsTotalOrder.trans s.xorb hash s.xorb (is_less (hash_cmp s.xorb hash) less) more in
      true≢false (sym (ap is_lt around) ∙ ap is_lt (tied_itself hash_cmp-IsTotalOrder s.xorb))

  pub start_first : start ≤ length segments → start ≤ end
  start_first low = ⊎_elim (λ before. of before) (λ after. after) (cases_lt end start) where
    of : end < start → start ≤ end
    of before = absurd (up_to_too (get_or segments end no_segment) (starts.0 end no_segment (omega arith) before) (ends.1 end no_segment (omega arith) (omega (arith, before, low))))

  is_same : (s : Segment) → is_before hash s ≡ false → is_up_to hash s ≡ true → s.xorb ≡ hash
  is_same s not_before up_to = of (same_or_less hash s.xorb not_before) where
    of : (hash ≡ s.xorb) ⊎ (hash_cmp hash s.xorb ≡ Less) → s.xorb ≡ hash
    of (inl same) = sym same
    of (inr less) = absurd (false_is (is_lt (hash_cmp hash s.xorb)) up_to (ap is_lt less))

  itself : is_lt (hash_cmp hash hash) ≡ false
  itself = ap is_lt (tied_itself hash_cmp-IsTotalOrder hash)

  size : start ≤ end → length (take (end - start) (drop start segments)) ≡ end - start
  size ordered = length-take-le (end - start) (drop start segments) (omega (arith, within, ordered, length-drop start segments))

  pub run_has : start ≤ end → (s : Segment) → Contains (take (end - start) (drop start segments)) s ↔ (Contains segments s × (s.xorb ≡ hash))
  run_has ordered s = (to, back) where
    to : Contains (take (end - start) (drop start segments)) s → Contains segments s × (s.xorb ≡ hash)
    to (k, low, is) =
        let below : k < end - start = omega (arith, low, size ordered) in
        let at : get_or segments (start + k) s ≡ s = sym (get_or-drop start segments k s) ∙ sym (get_or-take (end - start) (drop start segments) k s below) ∙ is in
        let not_before = subst (λ t. is_before hash t ≡ false) at (starts.1 (start + k) s (omega arith) (omega (arith, below, within))) in
        let up_to = subst (λ t. is_up_to hash t ≡ true) at (ends.0 (start + k) s (omega arith) (omega (arith, below))) in
        ((start + k, omega (arith, below, within), at), is_same s not_before up_to)

    back : Contains segments s × (s.xorb ≡ hash) → Contains (take (end - start) (drop start segments)) s
    back ((k, low, is), same) =
        let not_less : is_before hash s ≡ false = subst (λ h. is_lt (hash_cmp h hash) ≡ false) (sym same) itself in
        let not_above : is_up_to hash s ≡ true = subst (λ h. not (is_lt (hash_cmp hash h)) ≡ true) (sym same) (ap not itself) in
        let high : start ≤ k = ⊎_elim (λ before. absurd (true≢false (sym (subst (λ t. is_before hash t ≡ true) is (starts.0 k s (omega arith) before)) ∙ not_less))) (λ after. after) (cases_lt k start) in
        let below : k < end = ⊎_elim (λ before. before) (λ after. absurd (true≢false (sym not_above ∙ subst (λ t. is_up_to hash t ≡ false) is (ends.1 k s after low)))) (cases_lt k end) in
        let within_it : k - start < length (take (end - start) (drop start segments)) = omega (arith, below, high, size ordered) in
        (k - start, within_it, read k high below is)
      where
        read : (k : ℕ) → start ≤ k → k < end → get_or segments k s ≡ s → get_or (take (end - start) (drop start segments)) (k - start) s ≡ s
        read k high below is =
            let there : start + (k - start) ≡ k = omega (arith, high) in
            get_or-take (end - start) (drop start segments) (k - start) s (omega (arith, high, below)) ∙ get_or-drop start segments (k - start) s
            ∙ ap (λ i. get_or segments i s) there ∙ is
