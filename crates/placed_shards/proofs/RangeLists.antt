-- Lists of records in ranges that follow one another: each is what their whole has in its range.
use Rattle.std.proofs.Common.{◌≡◌, ◌⊎◌, inl, inr, Bool, true, false, not, ◌&&◌, List, [], ◌∷◌, ◌++◌, flat_map, Option, None, Some, refl, sym, ap, ◌∙◌, subst, cond, true≢false, arith, append-nil, append_assoc}
use Rattle.std.specs.Prelude.{All}
use Rattle.std.specs.List.{AllByRecursion, AllZip}
use Rattle.std.specs.List.Sorted.{IsStrictlySortedBy}
use Rattle.std.specs.Ordering.{is_lt}
use Rattle.std.specs.declared.cmp.Ordering.{Ordering}
use Rattle.std.specs.declared.cmp.Ordering.TheVariants.{Less, Equal, Greater}
use Rattle.std.proofs.lemmas.List.Elements.{All-nil, All-drop, All-append, All-weaker, filter-append}
use Rattle.xet_base.specs.declared.merklehash.DataHash.{DataHash}
use Rattle.xet_base.specs.Hash.{hash_cmp}
use Rattle.xet_base.proofs.HashOrder.{hash_cmp-IsAntisymmetric}
use Rattle.xet_records.specs.RecordKind.{RecordKind}
use Rattle.xet_shards.specs.Write.WithOptions.{Ascends}
use Rattle.placed_shards.specs.declared.range.HashRange.{HashRange}
use Rattle.placed_shards.specs.Ranges.{is_from, is_before, is_within, ranges_between, AreCuts, records_passing}
use Rattle.xet_core_structures.specs.Records.RecordPairs.{key_of_record, ComeBefore, ComeFrom}
use Rattle.placed_shards.proofs.HashRanges.{is_less, hash_cmp-reverse, not_true, from_through, ascends_append}

both_are : (a b : Bool) → a && b ≡ true → (a ≡ true) × (b ≡ true)
both_are true b is = (refl, is)
both_are false b is = absurd (true≢false (sym is))

first_is_not : (a b : Bool) → a ≡ false → a && b ≡ false
first_is_not a b is = ap (λ c. c && b) is

pub second_is_not : (a b : Bool) → b ≡ false → a && b ≡ false
second_is_not true b is = is
second_is_not false b is = refl

-- what is not from a bound on is not from a later one on
not_from_later : (q k : DataHash) (from : Option DataHash) → is_from from k ≡ true → is_from from q ≡ false → is_from (Some k) q ≡ false
not_from_later q k from later is_not = by_test (is_from (Some k) q) refl where
  by_test : (b : Bool) → is_from (Some k) q ≡ b → is_from (Some k) q ≡ false
  by_test false is = is
  by_test true is = absurd (true≢false (sym (from_through q k from later (not_true (is_lt (hash_cmp q k)) is)) ∙ is_not))

module _ {H R : Type 0} (K : RecordKind H R) where
  abbrev key : R → DataHash
  key r = key_of_record K r

  -- the records of a list are in a range
  abbrev pub AreIn : HashRange → List R → Type 0
  AreIn range rs = All (λ r. is_within range (key r) ≡ true) rs

  abbrev pub all_of : List (List R) → List R
  all_of founds = flat_map (λ rs. rs) founds

  those_all : (passes : DataHash → Bool) (rs : List R) → All (λ r. passes (key r) ≡ true) rs → records_passing K passes rs ≡ rs
  those_all passes [] all = refl
  those_all passes (r ∷ rs) all =
      ap (λ b. cond b (r ∷ records_passing K passes rs) (records_passing K passes rs)) (all 0 r (omega arith))
      ∙ ap (λ ss. r ∷ ss) (those_all passes rs (All-drop (λ (s : R). passes (key s) ≡ true) 1 (r ∷ rs) all))

  those_none : (passes : DataHash → Bool) (rs : List R) → All (λ r. passes (key r) ≡ false) rs → records_passing K passes rs ≡ []
  those_none passes [] all = refl
  those_none passes (r ∷ rs) all =
      ap (λ b. cond b (r ∷ records_passing K passes rs) (records_passing K passes rs)) (all 0 r (omega arith))
      ∙ those_none passes rs (All-drop (λ (s : R). passes (key s) ≡ false) 1 (r ∷ rs) all)

  -- records between some that are not in a range and others
  pub those_between : (passes : DataHash → Bool) (xs ys zs : List R) → All (λ r. passes (key r) ≡ false) xs → All (λ r. passes (key r) ≡ true) ys → All (λ r. passes (key r) ≡ false) zs
      → records_passing K passes (xs ++ (ys ++ zs)) ≡ ys
  those_between passes xs ys zs before within after =
      filter-append (λ (r : R). passes (key r)) xs (ys ++ zs)
      ∙ (λ i. those_none passes xs before i ++ (filter-append (λ (r : R). passes (key r)) ys zs ∙ (λ j. those_all passes ys within j ++ those_none passes zs after j) ∙ append-nil ys) i)

  -- the records of later ranges are from their first bound on
  later_from : (k : DataHash) (cuts : List DataHash) (founds : List (List R)) → AreCuts (Some k) cuts None → AllZip AreIn (ranges_between (Some k) cuts None) founds
      → All (λ r. is_from (Some k) (key r) ≡ true) (all_of founds)
  later_from k [] [] are_cuts are = absurd are
  later_from k [] (f ∷ g ∷ gs) are_cuts (here, rest) = absurd rest
  later_from k [] (f ∷ []) are_cuts (here, rest) =
      subst (All (λ (r : R). is_from (Some k) (key r) ≡ true)) (sym (append-nil f))
      (All-weaker (λ (r : R). is_within (record { from = Some k; to = None }) (key r) ≡ true) (λ (r : R). is_from (Some k) (key r) ≡ true) (λ r in_range. (both_are (is_from (Some k) (key r)) true in_range).0) f here)
  later_from k (j ∷ js) [] are_cuts are = absurd are
  later_from k (j ∷ js) (f ∷ fs) are_cuts (here, rest) =
      All-append (λ (r : R). is_from (Some k) (key r) ≡ true) f (all_of fs)
      (All-weaker (λ (r : R). is_within (record { from = Some k; to = Some j }) (key r) ≡ true) (λ (r : R). is_from (Some k) (key r) ≡ true) (λ r in_range. (both_are (is_from (Some k) (key r)) (is_before (Some j) (key r)) in_range).0) f here)
      (All-weaker (λ (r : R). is_from (Some j) (key r) ≡ true) (λ (r : R). is_from (Some k) (key r) ≡ true) (λ r from. from_through (key r) j (Some k) are_cuts.0 (not_true (is_lt (hash_cmp (key r) j)) from)) (all_of fs) (later_from j js fs are_cuts.2 rest))

  -- of the records of all ranges, each range has its own
  pub each_has_its_own : (before : List R) (from : Option DataHash) (cuts : List DataHash) (founds : List (List R)) → AreCuts from cuts None → All (λ r. is_from from (key r) ≡ false) before
      → AllZip AreIn (ranges_between from cuts None) founds → AllZip (λ range rs. records_passing K (is_within range) (before ++ all_of founds) ≡ rs) (ranges_between from cuts None) founds
  each_has_its_own before from [] [] are_cuts low are = absurd are
  each_has_its_own before from [] (f ∷ g ∷ gs) are_cuts low (here, rest) = absurd rest
  each_has_its_own before from [] (f ∷ []) are_cuts low (here, rest) = (
    those_between (is_within (record { from = from; to = None })) before f []
        (All-weaker (λ (r : R). is_from from (key r) ≡ false) (λ (r : R). is_within (record { from = from; to = None }) (key r) ≡ false) (λ r low. first_is_not (is_from from (key r)) true low) before low)
        here (All-nil (λ (r : R). is_within (record { from = from; to = None }) (key r) ≡ false)),
    tt,
  )
  each_has_its_own before from (k ∷ ks) [] are_cuts low are = absurd are
  each_has_its_own before from (k ∷ ks) (f ∷ fs) are_cuts low (here, rest) = (
    those_between (is_within (record { from = from; to = Some k })) before f (all_of fs)
        (All-weaker (λ (r : R). is_from from (key r) ≡ false) (λ (r : R). is_within (record { from = from; to = Some k }) (key r) ≡ false) (λ r low. first_is_not (is_from from (key r)) (is_before (Some k) (key r)) low) before low)
        here
        (All-weaker (λ (r : R). is_from (Some k) (key r) ≡ true) (λ (r : R). is_within (record { from = from; to = Some k }) (key r) ≡ false) (λ r later. second_is_not (is_from from (key r)) (is_before (Some k) (key r)) (not_true (is_lt (hash_cmp (key r) k)) later)) (all_of fs) (later_from k ks fs are_cuts.2 rest)),
    subst (λ all. AllZip (λ range rs. records_passing K (is_within range) all ≡ rs) (ranges_between (Some k) ks None) fs) (append_assoc before f (all_of fs))
        (each_has_its_own (before ++ f) (Some k) ks fs are_cuts.2
        (All-append (λ (r : R). is_from (Some k) (key r) ≡ false) before f
        (All-weaker (λ (r : R). is_from from (key r) ≡ false) (λ (r : R). is_from (Some k) (key r) ≡ false) (λ r low. not_from_later (key r) k from are_cuts.0 low) before low)
        (All-weaker (λ (r : R). is_within (record { from = from; to = Some k }) (key r) ≡ true) (λ (r : R). is_from (Some k) (key r) ≡ false) (λ r in_range. ap not ((both_are (is_from from (key r)) (is_before (Some k) (key r)) in_range).1)) f here))
        rest),
  )

  come_before : (k : DataHash) (rs : List R) → All (λ r. is_lt (hash_cmp (key r) k) ≡ true) rs → ComeBefore K k rs
  come_before k [] all = tt
  come_before k (r ∷ rs) all = (is_less (hash_cmp (key r) k) (all 0 r (omega arith)), come_before k rs (All-drop (λ (s : R). is_lt (hash_cmp (key s) k) ≡ true) 1 (r ∷ rs) all))

  come_from : (k : DataHash) (rs : List R) → All (λ r. is_from (Some k) (key r) ≡ true) rs → ComeFrom K k rs
  come_from k [] all = tt
  come_from k (r ∷ rs) all = (here (hash_cmp (key r) k) refl, come_from k rs (All-drop (λ (s : R). is_from (Some k) (key s) ≡ true) 1 (r ∷ rs) all)) where
    not_less : is_lt (hash_cmp (key r) k) ≡ false
    not_less = not_true (is_lt (hash_cmp (key r) k)) (all 0 r (omega arith))

    here : (o : Ordering) → hash_cmp (key r) k ≡ o → (hash_cmp k (key r) ≡ Less) ⊎ (key r ≡ k)
    here Less is = absurd (true≢false (sym (ap is_lt is) ∙ not_less))
    here Equal is = inr (hash_cmp-IsAntisymmetric (key r) k is)
    here Greater is = inl (hash_cmp-reverse (key r) k Greater is)

  -- they all ascend
  pub all_ascend : (from : Option DataHash) (cuts : List DataHash) (founds : List (List R)) → AreCuts from cuts None → AllZip AreIn (ranges_between from cuts None) founds
      → AllByRecursion (Ascends K) founds → Ascends K (all_of founds)
  unfolding IsStrictlySortedBy
  all_ascend from [] [] are_cuts are ascend = absurd are
  all_ascend from [] (f ∷ g ∷ gs) are_cuts (here, rest) ascend = absurd rest
  all_ascend from [] (f ∷ []) are_cuts (here, rest) ascend = subst (Ascends K) (sym (append-nil f)) ascend.0
  all_ascend from (k ∷ ks) [] are_cuts are ascend = absurd are
  all_ascend from (k ∷ ks) (f ∷ fs) are_cuts (here, rest) ascend =
      ascends_append K k f (all_of fs)
      (come_before k f (All-weaker (λ (r : R). is_within (record { from = from; to = Some k }) (key r) ≡ true) (λ (r : R). is_lt (hash_cmp (key r) k) ≡ true) (λ r in_range. (both_are (is_from from (key r)) (is_before (Some k) (key r)) in_range).1) f here))
      (come_from k (all_of fs) (later_from k ks fs are_cuts.2 rest)) ascend.0 (all_ascend (Some k) ks fs are_cuts.2 rest ascend.1)
