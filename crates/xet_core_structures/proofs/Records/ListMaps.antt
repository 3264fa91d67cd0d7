-- Lists of records whose hashes strictly ascend, as maps.
use Rattle.std.proofs.Common.{◌≡◌, ℕ, zero, suc, ◌<◌, Bool, true, false, ◌&&◌, T, List, [], ◌∷◌, length, map, get_or, Option, Some, refl, sym, ap, ◌∙◌, subst, cond, arith}
use Rattle.std.specs.Prelude.{All, Contains}
use Rattle.std.specs.List.{AllByRecursion}
use Rattle.std.specs.List.Sorted.{IsStrictlySortedBy}
use Rattle.std.specs.Ordering.{eq_by_cmp, is_lt}
use Rattle.std.specs.declared.cmp.Ordering.TheVariants.{Less}
use Rattle.std.specs.FinMap.{FinMap, get, entries, values, from_sorted, is_sorted, entries-from_sorted, get-from_sorted}
use Rattle.std.specs.FinMap.Entries.{below_all}
use Rattle.std.proofs.lemmas.List.Elements.{All-cons, All-nil}
use Rattle.xet_base.specs.declared.merklehash.DataHash.{DataHash}
use Rattle.xet_base.specs.Hash.{hash_cmp}
use Rattle.xet_base.proofs.HashOrder.{same_key}
use Rattle.xet_records.specs.RecordKind.{RecordKind}
use Rattle.xet_records.specs.FileRecord.{file_records}
use Rattle.xet_records.specs.XorbRecord.{xorb_records}
use Rattle.xet_shards.specs.declared.shard_format.ends.info.MDBShardInfo.{MDBShardInfo}
use Rattle.xet_shards.specs.Write.WithOptions.{Ascends}
use Rattle.xet_shards.specs.Read.SectionReading.{files_of, IsSection}
use Rattle.xet_shards.specs.Content.Shard.{Shard}
use Rattle.xet_core_structures.specs.Steps.ByteResultsSteps.{Records}
use Rattle.xet_core_structures.specs.Records.RecordPairs.{key_of_record, by_hash, with_hash, Combines}
use Rattle.xet_core_structures.specs.Records.ShardContents.{IsSectionOf, files_at, xorbs_at, Holds}
use Rattle.xet_core_structures.specs.Steps.ShardContentsSteps.{IsListOf, HoldsLists}
use Rattle.xet_core_structures.proofs.Records.RecordPairs.{less-not_equal}

both_true : (a b : Bool) → T a → T b → T (a && b)
both_true true b first second = second
both_true false b first second = absurd first

module _ {H R : Type 0} (K : RecordKind H R) where
  -- the map of the records of a list, by their hashes
  abbrev pub list_map : List R → FinMap hash_cmp R
  list_map rs = from_sorted (by_hash K rs)

  below_is : (k : DataHash) (rs : List R) → AllByRecursion (λ q. hash_cmp k q ≡ Less) (map (key_of_record K) rs) → T (below_all hash_cmp k (by_hash K rs))
  below_is k [] all = tt
  below_is k (r ∷ rs) all = both_true _ _ (subst (λ o. T (is_lt o)) (sym all.0) tt) (below_is k rs all.1)

  sorted_is : (rs : List R) → Ascends K rs → T (is_sorted hash_cmp (by_hash K rs))
  unfolding IsStrictlySortedBy
  sorted_is [] ascends = tt
  sorted_is (r ∷ rs) ascends = both_true _ _ (below_is (key_of_record K r) rs ascends.0) (sorted_is rs ascends.1)

  values_by_hash : (rs : List R) → map (λ e. e.1) (by_hash K rs) ≡ rs
  values_by_hash [] = refl
  values_by_hash (r ∷ rs) = ap (λ ss. r ∷ ss) (values_by_hash rs)

  keyed_by_hash : (rs : List R) → All (λ e. e.0 ≡ key_of_record K e.1) (by_hash K rs)
  keyed_by_hash [] = All-nil (λ (e : DataHash × R). e.0 ≡ key_of_record K e.1)
  keyed_by_hash (r ∷ rs) = All-cons (λ (e : DataHash × R). e.0 ≡ key_of_record K e.1) (key_of_record K r, r) (by_hash K rs) refl (keyed_by_hash rs)

  -- such a list has each of its records under its hash
  comes_after : (k : DataHash) (rs : List R) (i : ℕ) (r : R) → AllByRecursion (λ q. hash_cmp k q ≡ Less) (map (key_of_record K) rs) → i < length rs → get_or rs i r ≡ r
      → hash_cmp k (key_of_record K r) ≡ Less
  comes_after k [] i r all low at = absurd (omega (arith, low))
  comes_after k (x ∷ rs) zero r all low at = subst (λ s. hash_cmp k (key_of_record K s) ≡ Less) at all.0
  comes_after k (x ∷ rs) (suc i) r all low at = comes_after k rs i r all.1 (omega (arith, low)) at

  with_hash_at : (rs : List R) (i : ℕ) (r : R) → Ascends K rs → i < length rs → get_or rs i r ≡ r → with_hash K rs (key_of_record K r) ≡ Some r
  unfolding IsStrictlySortedBy
  with_hash_at [] i r ascends low at = absurd (omega (arith, low))
  with_hash_at (x ∷ rs) zero r ascends low at =
      ap (λ b. cond b (Some x) (with_hash K rs (key_of_record K r))) ((same_key (key_of_record K r) (key_of_record K x)).1 (ap (key_of_record K) (sym at))) ∙ ap Some at
  with_hash_at (x ∷ rs) (suc i) r ascends low at =
      ap (λ b. cond b (Some x) (with_hash K rs (key_of_record K r)))
      (less-not_equal K (key_of_record K r) (key_of_record K x) (comes_after (key_of_record K x) rs i r ascends.0 (omega (arith, low)) at) (eq_by_cmp hash_cmp (key_of_record K r) (key_of_record K x)) refl)
      ∙ with_hash_at rs i r ascends.1 (omega (arith, low)) at

  pub with_hash_of : (rs : List R) (r : R) → Ascends K rs → Contains rs r → with_hash K rs (key_of_record K r) ≡ Some r
  with_hash_of rs r ascends has = with_hash_at rs has.0 r ascends has.1 has.2

  module _ (rs : List R) (ascends : Ascends K rs) where
    entries-list_map : entries (list_map rs) ≡ by_hash K rs
    entries-list_map = entries-from_sorted hash_cmp (by_hash K rs) (sorted_is rs ascends)

    pub values-list_map : values (list_map rs) ≡ rs
    values-list_map = ap (map (λ e. e.1)) entries-list_map ∙ values_by_hash rs

    pub get-list_map : (q : DataHash) → get (list_map rs) q ≡ with_hash K rs q
    get-list_map q = get-from_sorted hash_cmp (by_hash K rs) q (sorted_is rs ascends)

    -- a section that is read as the list is one of its map
    pub section_of_list : (bytes : List ℕ) (stored : List R) → IsSection K bytes stored → map K.as_read stored ≡ rs → IsSectionOf K bytes (list_map rs)
    section_of_list bytes stored section returned = record {
      stored = stored;
      section = section;
      returned = returned ∙ sym values-list_map;
      keyed = subst (All (λ e. e.0 ≡ key_of_record K e.1)) (sym entries-list_map) (keyed_by_hash rs);
    }

  -- the map of the combined list is what is made of both maps
  pub combined_maps : (IsEither : Option R → Option R → Option R → Type 0) (xs ys zs : List R) → Ascends K xs → Ascends K ys → Combines K IsEither xs ys zs
      → (q : DataHash) → IsEither (get (list_map xs) q) (get (list_map ys) q) (get (list_map zs) q)
  combined_maps IsEither xs ys zs x_ascends y_ascends combines q =
      subst (λ p. p) (λ i. IsEither (sym (get-list_map xs x_ascends q) i) (sym (get-list_map ys y_ascends q) i) (sym (get-list_map zs combines.ascends q) i)) (combines.each q)

-- the shard of the records of both sections, and bytes that have these hold it
abbrev pub shard_of : Records → Shard
shard_of records = record { files = list_map file_records records.files; xorbs = list_map xorb_records records.xorbs }

section_of : {H R : Type 0} (K : RecordKind H R) (bytes : List ℕ) (rs : List R) → IsListOf K bytes rs → IsSectionOf K bytes (list_map K rs)
section_of K bytes rs is = section_of_list K rs is.writable.ascends bytes is.stored is.section is.returned

pub lists_hold : (bytes : List ℕ) (info : MDBShardInfo) (records : Records) → HoldsLists bytes info records.files records.xorbs → Holds bytes info (shard_of records)
lists_hold bytes info records lists = record {
  files = section_of (files_of info) (files_at bytes info) records.files lists.files;
  xorbs = section_of xorb_records (xorbs_at bytes info) records.xorbs lists.xorbs;
}
