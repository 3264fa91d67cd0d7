-- What is made of two shards, by ranges, and a shard that is taken apart into ranges.
use Rattle.std.proofs.Common.{◌≡◌, Bool, true, false, not, ◌&&◌, List, [], ◌∷◌, ◌++◌, flat_map, map, Option, None, Some, refl, sym, ap, ◌∙◌, subst, cond, true≢false, arith, append-nil}
use Rattle.std.specs.Prelude.{if◌then◌else◌}
use Rattle.std.specs.List.{AllByRecursion}
use Rattle.std.specs.List.Sorted.{IsStrictlySortedBy}
use Rattle.std.specs.Ordering.{is_lt}
use Rattle.std.specs.declared.cmp.Ordering.TheVariants.{Less}
use Rattle.std.proofs.lemmas.List.Elements.{All-filter}
use Rattle.xet_base.specs.declared.merklehash.DataHash.{DataHash}
use Rattle.xet_base.specs.Hash.{hash_cmp}
use Rattle.xet_records.specs.declared.file_structs.MDBFileInfo.{MDBFileInfo}
use Rattle.xet_records.specs.declared.xorb_structs.MDBXorbInfo.{MDBXorbInfo}
use Rattle.xet_records.specs.FileRecord.{file_records}
use Rattle.xet_records.specs.RecordKind.{RecordKind}
use Rattle.xet_records.specs.XorbRecord.{xorb_records}
use Rattle.xet_shards.specs.Write.WithOptions.{Ascends}
use Rattle.xet_core_structures.specs.Records.RecordPairs.{key_of_record, with_hash}
use Rattle.placed_shards.specs.declared.range.HashRange.{HashRange}
use Rattle.placed_shards.specs.Content.{Content, content_within}
use Rattle.placed_shards.specs.Ranges.{is_from, is_before, is_up_to, is_within, ranges_between, records_passing, AreCuts}
use Rattle.placed_shards.specs.Sets.{CombinesToSection}
use Rattle.placed_shards.specs.Unions.{Unites}
use Rattle.placed_shards.proofs.HashRanges.{below_through, hash_cmp-reverse, is_less, not_below_through, not_true}
use Rattle.placed_shards.proofs.Within.{rows_passing, those_ascend, with_hash-those}

-- what is made of the records that pass a test are those that pass it of what is made of all
module _ {H R : Type 0} (K : RecordKind H R) (passes : DataHash → Bool) (IsEither : Option R → Option R → Option R → Type 0) (nothing : IsEither None None None) where
  either_passing : (b : Bool) (o p r : Option R) → IsEither o p r → IsEither (if b then o else None) (if b then p else None) (if b then r else None)
  either_passing true o p r is = is
  either_passing false o p r is = nothing

  combines_passing : (xs ys zs : List R) → CombinesToSection K IsEither xs ys zs → CombinesToSection K IsEither (records_passing K passes xs) (records_passing K passes ys) (records_passing K passes zs)
  combines_passing xs ys zs made = record {
    combined = record {
      ascends = those_ascend K passes zs made.combined.ascends;
      each = λ q. subst (λ p. p)
          (λ i. IsEither (sym (with_hash-those K passes xs q) i) (sym (with_hash-those K passes ys q) i) (sym (with_hash-those K passes zs q) i))
          (either_passing (passes q) (with_hash K xs q) (with_hash K ys q) (with_hash K zs q) (made.combined.each q));
      stored = All-filter (λ r. passes (key_of_record K r)) K.IsStored zs made.combined.stored;
    };
    rows = omega (arith, made.rows, rows_passing K passes zs);
  }

pub unites_within : (F : Option MDBFileInfo → Option MDBFileInfo → Option MDBFileInfo → Type 0) (X : Option MDBXorbInfo → Option MDBXorbInfo → Option MDBXorbInfo → Type 0)
    → F None None None → X None None None → (range : HashRange) (c d made : Content) → Unites F X c d made → Unites F X (content_within range c) (content_within range d) (content_within range made)
unites_within F X no_file no_xorb range c d made unites = record {
  same_key = unites.same_key;
  files = combines_passing file_records (is_within range) F no_file c.files d.files made.files unites.files;
  xorbs = combines_passing xorb_records (is_within range) X no_xorb c.xorbs d.xorbs made.xorbs unites.xorbs;
  options_are = unites.options_are;
}

-- a list of records whose hashes ascend, cut at a hash
module _ {H R : Type 0} (K : RecordKind H R) where
  abbrev key : R → DataHash
  key r = key_of_record K r

  abbrev in_range : Option DataHash → Option DataHash → List R → List R
  in_range from to rs = records_passing K (is_within (record { from = from; to = to })) rs

  module _ (from to : Option DataHash) (k : DataHash) (from_k : is_from from k ≡ true) (to_k : is_up_to to k ≡ true) where
    -- what is below the cut is before the end
    before_end : (o : Option DataHash) (q : DataHash) → is_up_to o k ≡ true → is_before (Some k) q ≡ true → is_before o q ≡ true
    before_end None q up below = refl
    before_end (Some t) q up below = ap is_lt (below_through q k t (is_less (hash_cmp q k) below) (not_true (is_lt (hash_cmp t k)) up))

    -- what is not below it is from the start on
    from_start : (o : Option DataHash) (q : DataHash) → is_from o k ≡ true → is_before (Some k) q ≡ false → is_from o q ≡ true
    from_start None q start above = refl
    from_start (Some f) q start above = ap not (not_below_through q k f above (not_true (is_lt (hash_cmp k f)) start))

    none_below : (j : DataHash) (rs : List R) → is_before (Some k) j ≡ false → AllByRecursion (λ q. hash_cmp j q ≡ Less) (map key rs) → in_range from (Some k) rs ≡ []
    none_below j [] above all = refl
    none_below j (r ∷ rs) above all =
        let behind : is_before (Some k) (key r) ≡ false = not_below_through (key r) j k (ap is_lt (hash_cmp-reverse j (key r) Less all.0)) above in
        by_test (is_from from (key r)) (is_before (Some k) (key r)) behind (none_below j rs above all.1)
      where
        by_test : (f b : Bool) → b ≡ false → in_range from (Some k) rs ≡ [] → cond (f && b) (r ∷ in_range from (Some k) rs) (in_range from (Some k) rs) ≡ []
        by_test f true is rest = absurd (true≢false is)
        by_test true false is rest = rest
        by_test false false is rest = rest

    -- one record more, below the cut or not
    more_below : (r : R) (whole firsts seconds : List R) (f t b : Bool) → t ≡ true → b ≡ true → whole ≡ firsts ++ seconds
        → cond (f && t) (r ∷ whole) whole ≡ cond (f && b) (r ∷ firsts) firsts ++ cond (not b && t) (r ∷ seconds) seconds
    more_below r whole firsts seconds f t false ends below rest = absurd (true≢false (sym below))
    more_below r whole firsts seconds f false true ends below rest = absurd (true≢false (sym ends))
    more_below r whole firsts seconds true true true ends below rest = ap (λ l. r ∷ l) rest
    more_below r whole firsts seconds false true true ends below rest = rest

    more_above : (r : R) (whole firsts seconds : List R) (f t b : Bool) → f ≡ true → b ≡ false → firsts ≡ [] → whole ≡ firsts ++ seconds
        → cond (f && t) (r ∷ whole) whole ≡ cond (f && b) (r ∷ firsts) firsts ++ cond (not b && t) (r ∷ seconds) seconds
    more_above r whole firsts seconds f t true starts above none rest = absurd (true≢false above)
    more_above r whole firsts seconds false t false starts above none rest = absurd (true≢false (sym starts))
    more_above r whole firsts seconds true true false starts above none rest = ap (λ l. r ∷ l) rest ∙ ap (λ l. r ∷ (l ++ seconds)) none ∙ ap (λ l. l ++ (r ∷ seconds)) (sym none)
    more_above r whole firsts seconds true false false starts above none rest = rest

    cut_in_two : (rs : List R) → Ascends K rs → in_range from to rs ≡ in_range from (Some k) rs ++ in_range (Some k) to rs
    unfolding IsStrictlySortedBy
    cut_in_two [] ascends = refl
    cut_in_two (r ∷ rs) ascends = by_test (cut_in_two rs ascends.1) (is_before (Some k) (key r)) refl where
      by_test : in_range from to rs ≡ in_range from (Some k) rs ++ in_range (Some k) to rs → (b : Bool) → is_before (Some k) (key r) ≡ b
          → in_range from to (r ∷ rs) ≡ in_range from (Some k) (r ∷ rs) ++ in_range (Some k) to (r ∷ rs)
      by_test rest true below =
          more_below r (in_range from to rs) (in_range from (Some k) rs) (in_range (Some k) to rs) (is_from from (key r)) (is_before to (key r)) (is_before (Some k) (key r))
          (before_end to (key r) to_k below) below rest
      by_test rest false above =
          more_above r (in_range from to rs) (in_range from (Some k) rs) (in_range (Some k) to rs) (is_from from (key r)) (is_before to (key r)) (is_before (Some k) (key r))
          (from_start from (key r) from_k above) above (none_below (key r) rs above ascends.0) rest

  -- the ranges one after another
  pub consecutive_parts : (from : Option DataHash) (cuts : List DataHash) (to : Option DataHash) (rs : List R) → AreCuts from cuts to → Ascends K rs
      → flat_map (λ range. records_passing K (is_within range) rs) (ranges_between from cuts to) ≡ in_range from to rs
  consecutive_parts from [] to rs are ascends = append-nil (in_range from to rs)
  consecutive_parts from (k ∷ ks) to rs are ascends =
      ap (λ l. in_range from (Some k) rs ++ l) (consecutive_parts (Some k) ks to rs are.2 ascends) ∙ sym (cut_in_two from to k are.0 are.1 rs ascends)

  all_in_range : (rs : List R) → in_range None None rs ≡ rs
  all_in_range [] = refl
  all_in_range (r ∷ rs) = ap (λ l. r ∷ l) (all_in_range rs)

  pub whole_of_consecutive : (cuts : List DataHash) (rs : List R) → AreCuts None cuts None → Ascends K rs → flat_map (λ range. records_passing K (is_within range) rs) (ranges_between None cuts None) ≡ rs
  whole_of_consecutive cuts rs are ascends = consecutive_parts None cuts None rs are ascends ∙ all_in_range rs
