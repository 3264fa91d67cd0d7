-- The shard that has the records of shards in their order.
use Rattle.std.proofs.Common.{◌≡◌, ℕ, ◌≤◌, Bool, false, ◌&&◌, ◌||◌, T, List, [], ◌∷◌, ◌++◌, map, flat_map, refl, sym, ap, ◌∙◌, subst, arith}
use Rattle.std.specs.Prelude.{All}
use Rattle.std.specs.List.{AllByRecursion, list_any}
use Rattle.std.proofs.lemmas.List.Folds.{list_any-append}
use Rattle.std.specs.List.Sorted.{IsStrictlySortedBy}
use Rattle.std.specs.Ordering.{is_lt}
use Rattle.std.specs.declared.cmp.Ordering.TheVariants.{Less}
use Rattle.std.specs.FinMap.{FinMap, is_sorted, from_sorted, entries, values, entries-from_sorted}
use Rattle.std.specs.FinMap.Entries.{below_all}
use Rattle.std.proofs.lemmas.List.{map-append}
use Rattle.std.proofs.lemmas.List.Elements.{All-nil, All-cons, All-append, All-drop}
use Rattle.xet_base.specs.declared.merklehash.DataHash.{DataHash}
use Rattle.xet_base.specs.Hash.{hash_cmp}
use Rattle.xet_records.specs.declared.file_structs.MDBFileInfo.{MDBFileInfo}
use Rattle.xet_records.specs.declared.xorb_structs.MDBXorbInfo.{MDBXorbInfo}
use Rattle.xet_records.specs.declared.record_reader.FormatVersion.{FormatVersion}
use Rattle.xet_records.specs.declared.record_reader.FormatVersion.TheVariants.{V2, V3}
use Rattle.xet_records.specs.FileRecord.{file_records, has_aux_ext, IsWellFormed}
use Rattle.xet_records.specs.XorbRecord.{xorb_records, IsXorb}
use Rattle.xet_records.specs.Limits.{MAX_ROWS}
use Rattle.xet_shards.specs.Content.Shard.{Shard, IsShard, AreFiles, AreXorbs, file_hash_of, xorb_hash_of}
use Rattle.shard_concatenation.specs.Concatenation.{AscendBoth, AreBytesOf, later, latest_of}
use Rattle.placed_shards.specs.Parts.{HasRecordsInOrder}
use Rattle.xet_shards.specs.Write.WrittenShard.{HasFilesIn}
use Rattle.xet_shards.specs.Write.Section.{total_rows}

both_true : (a b : Bool) → T a → T b → T (a && b)
both_true a b one other = grind (arith, one, other)

module _ {X : Type 0} where
  below_keys : (k : DataHash) (es : List (DataHash × X)) → AllByRecursion (λ q. hash_cmp k q ≡ Less) (map (λ e. e.0) es) → T (below_all hash_cmp k es)
  below_keys k [] all = tt
  below_keys k (e ∷ es) all = both_true _ _ (subst (λ o. T (is_lt o)) (sym all.0) tt) (below_keys k es all.1)

  sorted_keys : (es : List (DataHash × X)) → IsStrictlySortedBy hash_cmp (map (λ e. e.0) es) → T (is_sorted hash_cmp es)
  unfolding IsStrictlySortedBy
  sorted_keys [] rises = tt
  sorted_keys (e ∷ es) rises = both_true _ _ (below_keys e.0 es rises.0) (sorted_keys es rises.1)

  module _ (hash : X → DataHash) (part : Shard → FinMap hash_cmp X) where
    abbrev entries_in : List Shard → List (DataHash × X)
    entries_in shards = flat_map (λ s. entries (part s)) shards

    values_in : (shards : List Shard) → map (λ (e : DataHash × X). e.1) (entries_in shards) ≡ flat_map (λ s. values (part s)) shards
    values_in [] = refl
    values_in (s ∷ shards) = map-append (λ (e : DataHash × X). e.1) (entries (part s)) (entries_in shards) ∙ ap (λ vs. values (part s) ++ vs) (values_in shards)

    all_entries : (P : DataHash × X → Type 0) (shards : List Shard) → All (λ s. All P (entries (part s))) shards → All P (entries_in shards)
    all_entries P [] all = All-nil P
    all_entries P (s ∷ shards) all =
        All-append P (entries (part s)) (entries_in shards) (all 0 s (omega arith)) (all_entries P shards (All-drop (λ s. All P (entries (part s))) 1 (s ∷ shards) all))

    keys_are : (es : List (DataHash × X)) → All (λ e. e.0 ≡ hash e.1) es → map (λ (e : DataHash × X). e.0) es ≡ map hash (map (λ (e : DataHash × X). e.1) es)
    keys_are [] all = refl
    keys_are (e ∷ es) all = λ i. all 0 e (omega arith) i ∷ keys_are es (All-drop (λ (e : DataHash × X). e.0 ≡ hash e.1) 1 (e ∷ es) all) i

    module _ (shards : List Shard) (keyed : All (λ s. All (λ e. e.0 ≡ hash e.1) (entries (part s))) shards) (ascend : IsStrictlySortedBy hash_cmp (map hash (flat_map (λ s. values (part s)) shards))) where
      all_keyed : All (λ e. e.0 ≡ hash e.1) (entries_in shards)
      all_keyed = all_entries (λ (e : DataHash × X). e.0 ≡ hash e.1) shards keyed

      entries_are : entries (from_sorted {R = hash_cmp} (entries_in shards)) ≡ entries_in shards
      entries_are =
          entries-from_sorted hash_cmp (entries_in shards)
          (sorted_keys (entries_in shards) (subst (IsStrictlySortedBy hash_cmp) (ap (map hash) (sym (values_in shards)) ∙ sym (keys_are (entries_in shards) all_keyed)) ascend))

      values_are : values (from_sorted {R = hash_cmp} (entries_in shards)) ≡ flat_map (λ s. values (part s)) shards
      values_are = ap (map (λ (e : DataHash × X). e.1)) entries_are ∙ values_in shards

-- byte strings of shards are made of well-formed shards
are_shards : (shards : List Shard) (bytes : List (List ℕ)) → AreBytesOf shards bytes → All IsShard shards
are_shards [] bytes is = All-nil IsShard
are_shards (s ∷ shards) [] is = absurd is
are_shards (s ∷ shards) (b ∷ bytes) (is, others) = All-cons IsShard s shards is.shard (are_shards shards bytes others)

abbrev files_of : List Shard → List MDBFileInfo
files_of shards = flat_map (λ s. values s.files) shards

abbrev xorbs_of : List Shard → List MDBXorbInfo
xorbs_of shards = flat_map (λ s. values s.xorbs) shards

-- a version has some files: version 2 has none with auxiliary rows
abbrev HasFiles : FormatVersion → List MDBFileInfo → Type 0
HasFiles V2 files = list_any (λ r. has_aux_ext r.metadata.file_flags) files ≡ false
HasFiles V3 files = Unit {0}

-- bytes of shards that are all in version 2 have no auxiliary rows
old_files : (shards : List Shard) (bytes : List (List ℕ)) (is : AreBytesOf shards bytes) → HasFiles (latest_of shards bytes is) (files_of shards)
old_files [] [] is = refl
old_files [] (b ∷ bytes) is = absurd is
old_files (s ∷ shards) [] is = absurd is
old_files (s ∷ shards) (b ∷ bytes) (is, others) = by_version is.version is.files (latest_of shards bytes others) (old_files shards bytes others) where
  by_version : (version : FormatVersion) → HasFilesIn version s → (rest : FormatVersion) → HasFiles rest (files_of shards) → HasFiles (later version rest) (values s.files ++ files_of shards)
  by_version V3 has rest others = tt
  by_version V2 has V3 others = tt
  by_version V2 has V2 others = list_any-append (λ (r : MDBFileInfo). has_aux_ext r.metadata.file_flags) (values s.files) (files_of shards) ∙ (λ i. has i || others i)

has_files : (version : FormatVersion) (s : Shard) (files : List MDBFileInfo) → files ≡ values s.files → HasFiles version files → HasFilesIn version s
has_files V2 s files are none = subst (λ fs. list_any (λ r. has_aux_ext r.metadata.file_flags) fs ≡ false) are none
has_files V3 s files are none = tt

-- a shard that has the records of others in their order, and whose files a version has
pub record IsRowOf (version : FormatVersion) (shards : List Shard) : Type 0 where
  pub all : Shard
  pub is_shard : IsShard all
  pub row : HasRecordsInOrder shards all
  pub files : HasFilesIn version all

-- shards whose records ascend, and are few enough, are those of one shard
pub row_of : (shards : List Shard) (bytes : List (List ℕ)) (is : AreBytesOf shards bytes) → AscendBoth (files_of shards) (xorbs_of shards) → total_rows file_records (files_of shards) ≤ MAX_ROWS
    → total_rows xorb_records (xorbs_of shards) ≤ MAX_ROWS → IsRowOf (latest_of shards bytes is) shards
row_of shards bytes is ascend file_rows xorb_rows =
    let each = are_shards shards bytes is in
    let files_keyed : All (λ s. All (λ e. e.0 ≡ file_hash_of e.1) (entries s.files)) shards = λ k s below. (each k s below).files.keyed in
    let xorbs_keyed : All (λ s. All (λ e. e.0 ≡ xorb_hash_of e.1) (entries s.xorbs)) shards = λ k s below. (each k s below).xorbs.keyed in
    let file_entries = entries_are file_hash_of (λ (s : Shard). s.files) shards files_keyed ascend.files_ascend in
    let xorb_entries = entries_are xorb_hash_of (λ (s : Shard). s.xorbs) shards xorbs_keyed ascend.xorbs_ascend in
    let file_values = values_are file_hash_of (λ (s : Shard). s.files) shards files_keyed ascend.files_ascend in
    let xorb_values = values_are xorb_hash_of (λ (s : Shard). s.xorbs) shards xorbs_keyed ascend.xorbs_ascend in
    record {
      all = record { files = from_sorted (flat_map (λ s. entries s.files) shards); xorbs = from_sorted (flat_map (λ s. entries s.xorbs) shards) };
      is_shard = record {
        files = subst AreFiles (sym file_entries) (record {
          keyed = all_keyed file_hash_of (λ (s : Shard). s.files) shards files_keyed ascend.files_ascend;
          well_formed = all_entries file_hash_of (λ (s : Shard). s.files) (λ e. IsWellFormed e.1) shards (λ k s below. (each k s below).files.well_formed);
        });
        file_rows = subst (λ fs. total_rows file_records fs ≤ MAX_ROWS) (sym file_values) file_rows;
        xorbs = subst AreXorbs (sym xorb_entries) (record {
          keyed = all_keyed xorb_hash_of (λ (s : Shard). s.xorbs) shards xorbs_keyed ascend.xorbs_ascend;
          well_formed = all_entries xorb_hash_of (λ (s : Shard). s.xorbs) (λ e. IsXorb e.1) shards (λ k s below. (each k s below).xorbs.well_formed);
        });
        xorb_rows = subst (λ xs. total_rows xorb_records xs ≤ MAX_ROWS) (sym xorb_values) xorb_rows;
      };
      row = record { files = file_values; xorbs = xorb_values };
      files = has_files (latest_of shards bytes is) (record { files = from_sorted (flat_map (λ s. entries s.files) shards); xorbs = from_sorted (flat_map (λ s. entries s.xorbs) shards) }) (files_of shards) (sym file_values) (old_files shards bytes is);
    }
