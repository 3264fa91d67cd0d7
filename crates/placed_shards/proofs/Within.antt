-- The records of a list, and of a shard, whose hashes pass a test.
use Rattle.std.proofs.Common.{◌≡◌, ℕ, ◌≤◌, Bool, true, false, not, List, [], ◌∷◌, map, Option, None, Some, refl, sym, ap, ◌∙◌, subst, cond, true≢false, arith}
use Rattle.std.specs.Prelude.{All, sum_by, if◌then◌else◌}
use Rattle.std.specs.List.{AllByRecursion, AllZip, filter}
use Rattle.std.specs.List.Sorted.{IsStrictlySortedBy}
use Rattle.std.specs.Ordering.{eq_by_cmp}
use Rattle.std.specs.declared.cmp.Ordering.TheVariants.{Less}
use Rattle.std.proofs.lemmas.List.Filters.{sum_by-filter_both}
use Rattle.std.specs.FinMap.{FinMap, get, entries, values, retain_keys, get-retain_keys}
use Rattle.xet_base.specs.declared.merklehash.DataHash.{DataHash}
use Rattle.xet_base.specs.Hash.{hash_cmp}
use Rattle.xet_base.proofs.HashOrder.{hash_cmp-IsTotalOrder, hash_cmp-IsAntisymmetric, same_key}
use Rattle.xet_records.specs.RecordKind.{RecordKind}
use Rattle.xet_records.specs.FileRecord.{file_records, IsWellFormed}
use Rattle.xet_records.specs.XorbRecord.{xorb_records, IsXorb}
use Rattle.xet_shards.specs.Write.Section.{total_rows}
use Rattle.xet_shards.specs.Write.Tables.{hash_in}
use Rattle.xet_shards.specs.Write.WithOptions.{Ascends}
use Rattle.xet_shards.specs.Content.Shard.{Shard, IsShard, file_hash_of, xorb_hash_of}
use Rattle.xet_shards.proofs.Content.Unions.{same_shard}
use Rattle.xet_shards.proofs.ShardInMemory.FileUnions.{holds_in_map}
use Rattle.xet_shards.proofs.ShardInMemory.Sums.{all_of_map, sub-sum}
use Rattle.xet_core_structures.specs.Records.RecordPairs.{key_of_record, with_hash}
use Rattle.placed_shards.specs.MergedLists.{IsRestriction, IsPartOf}
use Rattle.placed_shards.specs.Ranges.{records_passing}
use Rattle.xet_core_structures.specs.Steps.ByteResultsSteps.{Records}
use Rattle.xet_core_structures.proofs.Records.ListMaps.{list_map, get-list_map, shard_of}
use Rattle.placed_shards.proofs.FileParts.{cond-is_some}

module _ {H R : Type 0} (K : RecordKind H R) (passes : DataHash → Bool) where
  abbrev those : List R → List R
  those rs = records_passing K passes rs

  -- they ascend if all do
  below_those : (k : DataHash) (rs : List R) → AllByRecursion (λ q. hash_cmp k q ≡ Less) (map (key_of_record K) rs) → AllByRecursion (λ q. hash_cmp k q ≡ Less) (map (key_of_record K) (those rs))
  below_those k [] all = tt
  below_those k (r ∷ rs) all = by_test (passes (key_of_record K r)) (below_those k rs all.1) where
    by_test : (b : Bool) → AllByRecursion (λ q. hash_cmp k q ≡ Less) (map (key_of_record K) (those rs)) → AllByRecursion (λ q. hash_cmp k q ≡ Less) (map (key_of_record K) (cond b (r ∷ those rs) (those rs)))
    by_test true rest = (all.0, rest)
    by_test false rest = rest

  pub those_ascend : (rs : List R) → Ascends K rs → Ascends K (those rs)
  unfolding IsStrictlySortedBy
  those_ascend [] ascends = tt
  those_ascend (r ∷ rs) ascends = by_test (passes (key_of_record K r)) (those_ascend rs ascends.1) where
    by_test : (b : Bool) → Ascends K (those rs) → Ascends K (cond b (r ∷ those rs) (those rs))
    by_test true rest = (below_those (key_of_record K r) rs ascends.0, rest)
    by_test false rest = rest

  -- they have no more rows
  pub rows_passing : (rs : List R) → total_rows K (those rs) ≤ total_rows K rs
  rows_passing rs = omega (arith, sum_by-filter_both (λ r. passes (hash_in K r)) (λ r. not (passes (hash_in K r))) (λ r. refl) K.row_count rs)

  -- they have the same records under the hashes that pass
  by_hash_and_test : (b c d : Bool) (r : R) (of_rest of_those : Option R) → (b ≡ true → c ≡ d) → of_those ≡ (if d then of_rest else None)
      → cond c (cond b (Some r) of_those) of_those ≡ (if d then cond b (Some r) of_rest else None)
  by_hash_and_test true true true r of_rest of_those same rest = refl
  by_hash_and_test true true false r of_rest of_those same rest = absurd (true≢false (same refl))
  by_hash_and_test true false true r of_rest of_those same rest = absurd (true≢false (sym (same refl)))
  by_hash_and_test true false false r of_rest of_those same rest = rest
  by_hash_and_test false true d r of_rest of_those same rest = rest
  by_hash_and_test false false d r of_rest of_those same rest = rest

  first_of : (c : Bool) (r : R) (rs : List R) (q : DataHash) → with_hash K (cond c (r ∷ rs) rs) q ≡ cond c (cond (eq_by_cmp hash_cmp q (key_of_record K r)) (Some r) (with_hash K rs q)) (with_hash K rs q)
  first_of true r rs q = refl
  first_of false r rs q = refl

  pub with_hash-those : (rs : List R) (q : DataHash) → with_hash K (those rs) q ≡ (if passes q then with_hash K rs q else None)
  with_hash-those [] q = nothing (passes q) where
    nothing : (d : Bool) → ◌≡◌ {A = Option R} None (if d then None else None)
    nothing true = refl
    nothing false = refl
  with_hash-those (r ∷ rs) q =
      first_of (passes (key_of_record K r)) r (those rs) q
      ∙ by_hash_and_test (eq_by_cmp hash_cmp q (key_of_record K r)) (passes (key_of_record K r)) (passes q) r (with_hash K rs q) (with_hash K (those rs) q)
      (λ equal. ap passes (sym ((same_key q (key_of_record K r)).0 equal))) (with_hash-those rs q)

  -- the map of these is a part of the map of all
  pub list_map-those : (rs : List R) → Ascends K rs → IsRestriction passes (list_map K rs) (list_map K (those rs))
  list_map-those rs ascends q = get-list_map K (those rs) (those_ascend rs ascends) q ∙ with_hash-those rs q ∙ ap (λ o. if passes q then o else None) (sym (get-list_map K rs ascends q))

  -- if they are placed, those are
  pub zipped_those : {P : Type 0} (Is : P → R → Type 0) (key_at : P → DataHash) → ((p : P) (r : R) → Is p r → key_at p ≡ key_of_record K r) → (ps : List P) (rs : List R) → AllZip Is ps rs
      → AllZip Is (filter (λ p. passes (key_at p)) ps) (those rs)
  zipped_those Is key_at same [] [] all = tt
  zipped_those Is key_at same [] (r ∷ rs) all = absurd all
  zipped_those Is key_at same (p ∷ ps) [] all = absurd all
  zipped_those {P = P} Is key_at same (p ∷ ps) (r ∷ rs) (here, rest) =
      let left : List P = filter (λ p. passes (key_at p)) ps in
      subst (λ c. AllZip Is (cond c (p ∷ left) left) (those (r ∷ rs))) (ap passes (sym (same p r here))) (by_test left (zipped_those Is key_at same ps rs rest) (passes (key_of_record K r))) where
        by_test : (left : List P) → AllZip Is left (those rs) → (b : Bool) → AllZip Is (cond b (p ∷ left) left) (cond b (r ∷ those rs) (those rs))
        by_test left kept true = (here, kept)
        by_test left kept false = kept

module _ (passes : DataHash → Bool) where
  -- what a part has, its whole has
  pub in_whole : {X : Type 0} (m n : FinMap hash_cmp X) → IsRestriction passes m n → (q : DataHash) (x : X) → get n q ≡ Some x → get m q ≡ Some x
  in_whole m n keeps q x at = (cond-is_some (passes q) (get m q) x (sym (keeps q) ∙ at)).1

  pub all_of_part : {X : Type 0} (P : DataHash × X → Type 0) (m n : FinMap hash_cmp X) → IsRestriction passes m n → All P (entries m) → All P (entries n)
  all_of_part P m n keeps all = all_of_map hash_cmp-IsTotalOrder hash_cmp-IsAntisymmetric P n (λ q x at. holds_in_map P m q x all (in_whole m n keeps q x at))

  pub sum_of_part : {X : Type 0} (f : X → ℕ) (m n : FinMap hash_cmp X) → IsRestriction passes m n → sum_by f (values n) ≤ sum_by f (values m)
  sum_of_part f m n keeps = sub-sum hash_cmp-IsTotalOrder hash_cmp-IsAntisymmetric f n m (in_whole m n keeps)

  -- a part of a shard is one
  pub part_is_shard : (s t : Shard) → IsPartOf passes s t → IsShard s → IsShard t
  part_is_shard s t part shard = record {
    files = record {
      keyed = all_of_part (λ e. e.0 ≡ file_hash_of e.1) s.files t.files part.files shard.files.keyed;
      well_formed = all_of_part (λ e. IsWellFormed e.1) s.files t.files part.files shard.files.well_formed;
    };
    file_rows = omega (arith, shard.file_rows, sum_of_part file_records.row_count s.files t.files part.files);
    xorbs = record {
      keyed = all_of_part (λ e. e.0 ≡ xorb_hash_of e.1) s.xorbs t.xorbs part.xorbs shard.xorbs.keyed;
      well_formed = all_of_part (λ e. IsXorb e.1) s.xorbs t.xorbs part.xorbs shard.xorbs.well_formed;
    };
    xorb_rows = omega (arith, shard.xorb_rows, sum_of_part xorb_records.row_count s.xorbs t.xorbs part.xorbs);
  }

  -- a shard has one such part
  pub one_part : (s t u : Shard) → IsPartOf passes s t → IsPartOf passes s u → t ≡ u
  one_part s t u one other = same_shard t u (λ q. one.files q ∙ sym (other.files q)) (λ q. one.xorbs q ∙ sym (other.xorbs q))

  abbrev pub part_of : Shard → Shard
  part_of s = record { files = retain_keys s.files passes; xorbs = retain_keys s.xorbs passes }

  is_restriction : {X : Type 0} (m : FinMap hash_cmp X) → IsRestriction passes m (retain_keys m passes)
  is_restriction m q = get-retain_keys m passes q (λ x equal. ap passes (sym (hash_cmp-IsAntisymmetric q x equal)))

  pub part_of_is : (s : Shard) → IsPartOf passes s (part_of s)
  part_of_is s = record { files = is_restriction s.files; xorbs = is_restriction s.xorbs }

  -- the shard of those records of both lists is a part of that of all
  pub part_of_lists : (records : Records) → Ascends file_records records.files → Ascends xorb_records records.xorbs
      → IsPartOf passes (shard_of records) (shard_of (record { files = records_passing file_records passes records.files; xorbs = records_passing xorb_records passes records.xorbs }))
  part_of_lists records files xorbs = record {
    files = list_map-those file_records passes records.files files;
    xorbs = list_map-those xorb_records passes records.xorbs xorbs;
  }

  pub zipped_parts_of : (ss : List Shard) → AllZip (IsPartOf passes) ss (map part_of ss)
  zipped_parts_of [] = tt
  zipped_parts_of (s ∷ ss) = (part_of_is s, zipped_parts_of ss)
