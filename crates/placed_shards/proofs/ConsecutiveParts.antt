-- Parts of a shard, in ranges of hashes that follow one another, have its records one after another.
use Rattle.std.proofs.Common.{◌≡◌, Bool, true, false, not, ◌&&◌, T, List, [], ◌∷◌, ◌++◌, map, Option, None, Some, refl, sym, ap, ◌∙◌, subst, cond, true≢false}
use Rattle.std.specs.Prelude.{if◌then◌else◌}
use Rattle.std.specs.List.{AllByRecursion, AllZip}
use Rattle.std.specs.Ordering.{eq_by_cmp, is_lt}
use Rattle.std.specs.declared.cmp.Ordering.TheVariants.{Less}
use Rattle.std.specs.FinMap.{FinMap, get, entries, values, find, is_sorted, from_sorted, same_map, entries_sorted, entries-from_sorted, get-from_sorted, get-entries}
use Rattle.std.specs.FinMap.Entries.{below_all}
use Rattle.std.proofs.lemmas.List.{append-nil, map-append}
use Rattle.std.proofs.lemmas.List.Elements.{recursion_from_All}
use Rattle.xet_base.specs.declared.merklehash.DataHash.{DataHash}
use Rattle.xet_base.specs.Hash.{hash_cmp}
use Rattle.xet_base.proofs.HashOrder.{hash_cmp-IsTotalOrder, hash_cmp-IsAntisymmetric}
use Rattle.xet_shards.specs.Content.Shard.{Shard}
use Rattle.xet_shards.proofs.Content.Maps.{both_left, both_right}
use Rattle.xet_shards.proofs.ShardInMemory.Sums.{all_of_map}
use Rattle.placed_shards.specs.MergedLists.{IsRestriction, IsPartOf}
use Rattle.placed_shards.specs.Parts.{HasRecordsInOrder}
use Rattle.placed_shards.specs.Ranges.{is_from, is_before, is_within, is_up_to, ranges_between, AreCuts}
use Rattle.placed_shards.proofs.FileParts.{cond-is_some}
use Rattle.placed_shards.proofs.HashRanges.{is_less, below_through, not_true, from_through}
use Rattle.placed_shards.proofs.Within.{one_part, part_of, part_of_is}

both_true : (a b : Bool) → T a → T b → T (a && b)
both_true true b first second = second
both_true false b first second = absurd first

pub up_to_before : (q k : DataHash) (to : Option DataHash) → is_up_to to k ≡ true → is_lt (hash_cmp q k) ≡ true → is_before to q ≡ true
up_to_before q k None up less = refl
up_to_before q k (Some t) up less = ap is_lt (below_through q k t (is_less (hash_cmp q k) less) (not_true (is_lt (hash_cmp t k)) up))

module _ {X : Type 0} where
  -- the first of two, if it is there
  abbrev found_first : Option X → Option X → Option X
  found_first None p = p
  found_first (Some x) p = Some x

  found_again : (o : Option X) → found_first o None ≡ o
  found_again None = refl
  found_again (Some x) = refl

  -- what is found in two lists of entries, one after the other
  find-both : (q : DataHash) (es fs : List (DataHash × X)) → find hash_cmp q (es ++ fs) ≡ found_first (find hash_cmp q es) (find hash_cmp q fs)
  find-both q [] fs = refl
  find-both q (e ∷ es) fs = by_test (eq_by_cmp hash_cmp q e.0) (find-both q es fs) where
    by_test : (b : Bool) → find hash_cmp q (es ++ fs) ≡ found_first (find hash_cmp q es) (find hash_cmp q fs)
        → cond b (Some e.1) (find hash_cmp q (es ++ fs)) ≡ found_first (cond b (Some e.1) (find hash_cmp q es)) (find hash_cmp q fs)
    by_test true rest = refl
    by_test false rest = rest

  -- what is below a hash, and what is from it on
  below_both : (x : DataHash) (es fs : List (DataHash × X)) → T (below_all hash_cmp x es) → T (below_all hash_cmp x fs) → T (below_all hash_cmp x (es ++ fs))
  below_both x [] fs one other = other
  below_both x (e ∷ es) fs one other = both_true _ _ (both_left _ _ one) (below_both x es fs (both_right _ _ one) other)

  below_from : (x k : DataHash) (fs : List (DataHash × X)) → hash_cmp x k ≡ Less → AllByRecursion (λ f. is_lt (hash_cmp f.0 k) ≡ false) fs → T (below_all hash_cmp x fs)
  below_from x k [] less all = tt
  below_from x k (f ∷ fs) less all = both_true _ _ (subst (λ o. T (is_lt o)) (sym (below_through x k f.0 less all.0)) tt) (below_from x k fs less all.1)

  sorted_both : (k : DataHash) (es fs : List (DataHash × X)) → AllByRecursion (λ e. hash_cmp e.0 k ≡ Less) es → AllByRecursion (λ f. is_lt (hash_cmp f.0 k) ≡ false) fs
      → T (is_sorted hash_cmp es) → T (is_sorted hash_cmp fs) → T (is_sorted hash_cmp (es ++ fs))
  sorted_both k [] fs low high one other = other
  sorted_both k (e ∷ es) fs low high one other =
      both_true _ _ (below_both e.0 es fs (both_left _ _ one) (below_from e.0 k fs low.0 high)) (sorted_both k es fs low.1 high (both_right _ _ one) other)

  -- what two parts have is what their whole has
  choice_in_whole : (a b l : Bool) (o : Option X) → (l ≡ true → b ≡ true) → (l ≡ false → a ≡ true)
      → found_first (if a && l then o else None) (if not l && b then o else None) ≡ (if a && b then o else None)
  choice_in_whole true true true o before from = found_again o
  choice_in_whole true true false o before from = refl
  choice_in_whole true false true o before from = absurd (true≢false (sym (before refl)))
  choice_in_whole true false false o before from = refl
  choice_in_whole false true true o before from = refl
  choice_in_whole false false true o before from = refl
  choice_in_whole false b false o before from = absurd (true≢false (sym (from refl)))

  low_part : (a l : Bool) (o : Option X) (x : X) → (if a && l then o else None) ≡ Some x → l ≡ true
  low_part a true o x is = refl
  low_part true false o x is = absurd (true≢false (sym (cond-is_some false o x is).0))
  low_part false false o x is = absurd (true≢false (sym (cond-is_some false o x is).0))

  high_part : (b l : Bool) (o : Option X) (x : X) → (if not l && b then o else None) ≡ Some x → l ≡ false
  high_part b false o x is = refl
  high_part b true o x is = absurd (true≢false (sym (cond-is_some false o x is).0))

  module _ (from : Option DataHash) (k : DataHash) (to : Option DataHash) (high : is_from from k ≡ true) (up : is_up_to to k ≡ true) (m n a b : FinMap hash_cmp X)
      (whole : IsRestriction (is_within (record { from = from; to = to })) m n) (first : IsRestriction (is_within (record { from = from; to = Some k })) m a)
      (second : IsRestriction (is_within (record { from = Some k; to = to })) m b) where
    sorted : T (is_sorted hash_cmp (entries a ++ entries b))
    sorted = sorted_both k (entries a) (entries b)
        (recursion_from_All (λ (e : DataHash × X). hash_cmp e.0 k ≡ Less) (entries a) (all_of_map hash_cmp-IsTotalOrder hash_cmp-IsAntisymmetric (λ e. hash_cmp e.0 k ≡ Less) a
        (λ q x at. is_less (hash_cmp q k) (low_part (is_from from q) (is_lt (hash_cmp q k)) (get m q) x (sym (first q) ∙ at)))))
        (recursion_from_All (λ (f : DataHash × X). is_lt (hash_cmp f.0 k) ≡ false) (entries b) (all_of_map hash_cmp-IsTotalOrder hash_cmp-IsAntisymmetric (λ f. is_lt (hash_cmp f.0 k) ≡ false) b
        (λ q x at. high_part (is_before to q) (is_lt (hash_cmp q k)) (get m q) x (sym (second q) ∙ at))))
        (entries_sorted a) (entries_sorted b)

    same_entry : (q : DataHash) → get n q ≡ get (from_sorted {R = hash_cmp} (entries a ++ entries b)) q
    same_entry q =
        whole q
        ∙ sym (choice_in_whole (is_from from q) (is_before to q) (is_lt (hash_cmp q k)) (get m q) (up_to_before q k to up) (from_through q k from high))
        ∙ (λ i. found_first ((sym (first q) ∙ get-entries a q) i) ((sym (second q) ∙ get-entries b q) i))
        ∙ sym (find-both q (entries a) (entries b))
        ∙ sym (get-from_sorted hash_cmp (entries a ++ entries b) q sorted)

    entries_are : entries n ≡ entries a ++ entries b
    entries_are = ap entries (same_map hash_cmp-IsTotalOrder hash_cmp-IsAntisymmetric n _ same_entry) ∙ entries-from_sorted hash_cmp (entries a ++ entries b) sorted

    values_are : values n ≡ values a ++ values b
    values_are = ap (map (λ (e : DataHash × X). e.1)) entries_are ∙ map-append (λ (e : DataHash × X). e.1) (entries a) (entries b)

-- parts in ranges that follow one another have the records of the whole, one part after another
pub consecutive_ranges : (from : Option DataHash) (ks : List DataHash) (to : Option DataHash) (all whole : Shard) (parts : List Shard) → AreCuts from ks to → IsPartOf (is_within (record { from = from; to = to })) all whole
    → AllZip (λ range part. IsPartOf (is_within range) all part) (ranges_between from ks to) parts → HasRecordsInOrder parts whole
consecutive_ranges from [] to all whole [] cuts is are = absurd are
consecutive_ranges from [] to all whole (t ∷ u ∷ us) cuts is are = absurd are.1
consecutive_ranges from [] to all whole (t ∷ []) cuts is are =
    let same = one_part (is_within (record { from = from; to = to })) all whole t is are.0 in
    record { files = ap (λ (s : Shard). values s.files) same ∙ sym (append-nil (values t.files)); xorbs = ap (λ (s : Shard). values s.xorbs) same ∙ sym (append-nil (values t.xorbs)) }
consecutive_ranges from (k ∷ ks) to all whole [] cuts is are = absurd are
consecutive_ranges from (k ∷ ks) to all whole (t ∷ ts) cuts is are =
    let left = part_of (is_within (record { from = Some k; to = to })) all in
    let left_is = part_of_is (is_within (record { from = Some k; to = to })) all in
    let rest = consecutive_ranges (Some k) ks to all left ts cuts.2 left_is are.1 in
    record {
      files = values_are from k to cuts.0 cuts.1 all.files whole.files t.files left.files is.files are.0.files left_is.files ∙ ap (λ l. values t.files ++ l) rest.files;
      xorbs = values_are from k to cuts.0 cuts.1 all.xorbs whole.xorbs t.xorbs left.xorbs is.xorbs are.0.xorbs left_is.xorbs ∙ ap (λ l. values t.xorbs ++ l) rest.xorbs;
    }
