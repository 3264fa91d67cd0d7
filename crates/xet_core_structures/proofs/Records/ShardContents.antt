-- Bytes hold at most one shard, and those of a written shard hold it.
use Rattle.std.proofs.Common.{◌≡◌, inl, inr, ℕ, List, [], ◌∷◌, ◌++◌, map, refl, sym, ap, ◌∙◌, subst, arith}
use Rattle.std.specs.Prelude.{All}
use Rattle.std.specs.List.{AllByRecursion}
use Rattle.std.specs.List.Sorted.{IsStrictlySortedBy}
use Rattle.std.specs.Map.{keys_of}
use Rattle.std.specs.FinMap.{FinMap, entries, values, entries_sorted}
use Rattle.std.specs.declared.cmp.Ordering.{Ordering}
use Rattle.std.proofs.lemmas.List.Elements.{All-drop}
use Rattle.std.proofs.lemmas.List.Sums.{sum_by-cons}
use Rattle.xet_base.specs.declared.merklehash.DataHash.{DataHash}
use Rattle.xet_base.specs.Hash.{hash_cmp}
use Rattle.xet_records.specs.RecordKind.{RecordKind}
use Rattle.xet_records.specs.FileRecord.{file_records_in}
use Rattle.xet_records.specs.Version.{version_of}
use Rattle.xet_records.specs.XorbRecord.{xorb_records}
use Rattle.xet_records.proofs.RecordKinds.{KindLaws, xorb_laws, version_known}
use Rattle.xet_shards.specs.declared.shard_format.ends.info.MDBShardInfo.{MDBShardInfo}
use Rattle.xet_shards.specs.Write.WithOptions.{FitsSection, Ascends}
use Rattle.xet_shards.specs.declared.shard_format.ends.options.LayoutOptions.{LayoutOptions}
use Rattle.xet_shards.specs.Write.Layout.{layout_of, info_of}
use Rattle.xet_shards.specs.Write.Section.{total_rows}
use Rattle.xet_shards.specs.Read.SectionReading.{files_of}
use Rattle.xet_shards.specs.Content.Shard.{Shard, IsShard}
use Rattle.xet_shards.proofs.Ends.EndsUnique.{only_info}
use Rattle.xet_shards.proofs.ShardInMemory.Files.{well_formed_values}
use Rattle.xet_shards.proofs.Content.Maps.{rising_keys}
use Rattle.xet_shards.proofs.Read.Readback.{all_as_read, file_section_in, xorb_section_in}
use Rattle.xet_shards.proofs.Write.SameBytes.{same_values}
use Rattle.xet_shards.proofs.Write.Sections.{xorbs_fit, files_laws}
use Rattle.xet_shards.proofs.Read.SectionUnique.{only_list, first_of_section, section_or_passes, section_or_cut}
use Rattle.xet_core_structures.specs.Records.ShardContents.{IsTruncatedInOrder, IsMalformedSection, IsSectionOf, files_at, xorbs_at, Holds, HasShard, IsTruncated, IsMalformed}

-- the first of strictly ascending keys strictly ascend
all_front : {X : Type 0} (P : X → Type 0) (xs ys : List X) → AllByRecursion P (xs ++ ys) → AllByRecursion P xs
all_front P [] ys all = tt
all_front P (x ∷ xs) ys all = (all.0, all_front P xs ys all.1)

pub sorted_front : {X : Type 0} (R : X → X → Ordering) (xs ys : List X) → IsStrictlySortedBy R (xs ++ ys) → IsStrictlySortedBy R xs
unfolding IsStrictlySortedBy
sorted_front R [] ys sorted = tt
sorted_front R (x ∷ xs) ys sorted = (all_front _ xs ys sorted.0, sorted_front R xs ys sorted.1)

module _ {H R : Type 0} (K : RecordKind H R) (laws : KindLaws K) where
  abbrev hash_of_record : R → DataHash
  hash_of_record r = K.hash_of (K.header_of r)

  pub hashes_handed : (rs : List R) → map hash_of_record (map K.as_read rs) ≡ map hash_of_record rs
  hashes_handed [] = refl
  hashes_handed (r ∷ rs) = λ i. K.hash_of (laws.same_header r i) ∷ hashes_handed rs i

  pub rows_handed : (rs : List R) → total_rows K (map K.as_read rs) ≡ total_rows K rs
  rows_handed [] = refl
  rows_handed (r ∷ rs) = omega (arith, sum_by-cons K.row_count (K.as_read r) (map K.as_read rs), sum_by-cons K.row_count r rs, laws.same_rows r, rows_handed rs)

  -- records as they are stored ascend if those that were returned do
  pub stored_ascend : (stored found : List R) → map K.as_read stored ≡ found → Ascends K found → Ascends K stored
  stored_ascend stored found returned ascends = subst (IsStrictlySortedBy hash_cmp) (sym (ap (map hash_of_record) returned) ∙ hashes_handed stored) ascends

  keys_are : (es : List (DataHash × R)) → All (λ e. e.0 ≡ hash_of_record e.1) es → map hash_of_record (map (λ e. e.1) es) ≡ keys_of es
  keys_are [] keyed = refl
  keys_are (e ∷ es) keyed =
      let here : e.0 ≡ hash_of_record e.1 = keyed 0 e (omega arith) in
      λ i. sym here i ∷ keys_are es (All-drop (λ (d : DataHash × R). d.0 ≡ hash_of_record d.1) 1 (e ∷ es) keyed) i

  hashes_append : (xs ys : List R) → map hash_of_record (xs ++ ys) ≡ map hash_of_record xs ++ map hash_of_record ys
  hashes_append [] ys = refl
  hashes_append (x ∷ xs) ys = ap (λ qs. hash_of_record x ∷ qs) (hashes_append xs ys)

  module _ (bytes : List ℕ) (m : FinMap hash_cmp R) (is : IsSectionOf K bytes m) where
    -- the records of such a section strictly ascend
    pub section_ascends : Ascends K is.stored
    section_ascends =
        subst (IsStrictlySortedBy hash_cmp)
        (sym (keys_are (entries m) is.keyed) ∙ ap (map hash_of_record) (sym is.returned) ∙ hashes_handed is.stored)
        (rising_keys hash_cmp (entries m) (entries_sorted m))

    -- it has no other map, does not end early, and has neither too many rows nor hashes that do not ascend
    pub one_map : (n : FinMap hash_cmp R) → IsSectionOf K bytes n → n ≡ m
    one_map n other =
        same_values hash_of_record n m other.keyed is.keyed
        (sym other.returned ∙ ap (map K.as_read) (only_list K laws bytes other.stored is.stored other.section is.section) ∙ is.returned)

    pub not_cut : ¬ IsTruncatedInOrder K bytes
    not_cut (xs, rest, front, ends) = section_or_cut K laws bytes is.stored is.section (xs, rest, front.records, ends)

    not_bad : ¬ IsMalformedSection K bytes
    not_bad (inl (xs, rest, front, passes)) = section_or_passes K laws bytes is.stored is.section (xs, rest, front.records, passes)
    not_bad (inr front) =
        let xs = front.stored ++ front.last ∷ [] in
        let whole = first_of_section K laws bytes xs is.stored front.rest front.records is.section in
        front.falls (sorted_front hash_cmp (map hash_of_record xs) (map hash_of_record whole.0)
        (subst (IsStrictlySortedBy hash_cmp) (ap (map hash_of_record) whole.1 ∙ hashes_append xs whole.0) section_ascends))

-- the same of both sections
module _ (bytes : List ℕ) (info : MDBShardInfo) (s : Shard) (holds : Holds bytes info s) where
  pub held_once : (t : Shard) → Holds bytes info t → t ≡ s
  held_once t other =
      let files = one_map (files_of info) (files_laws (version_of info.header.version)) (files_at bytes info) s.files holds.files t.files other.files in
      let xorbs = one_map xorb_records xorb_laws (xorbs_at bytes info) s.xorbs holds.xorbs t.xorbs other.xorbs in
      λ i. record { files = files i; xorbs = xorbs i }

  pub held_whole : ¬ IsTruncated bytes info
  held_whole (inl files) = not_cut (files_of info) (files_laws (version_of info.header.version)) (files_at bytes info) s.files holds.files files
  held_whole (inr (whole, xorbs)) = not_cut xorb_records xorb_laws (xorbs_at bytes info) s.xorbs holds.xorbs xorbs

  pub held_well : ¬ IsMalformed bytes info
  held_well (inl files) = not_bad (files_of info) (files_laws (version_of info.header.version)) (files_at bytes info) s.files holds.files files
  held_well (inr (whole, xorbs)) = not_bad xorb_records xorb_laws (xorbs_at bytes info) s.xorbs holds.xorbs xorbs

-- bytes hold one shard, with the header and the footer that they have
pub only_shard : (bytes : List ℕ) (s t : Shard) → HasShard s bytes → HasShard t bytes → t ≡ s
only_shard bytes s t one other =
    held_once bytes one.info s one.holds t (subst (λ info. Holds bytes info t) (only_info bytes other.info one.info other.ends one.ends) other.holds)

-- the bytes of a shard hold it
same_xorbs : {X : Type 0} (xs : List X) → map (λ x. x) xs ≡ xs
same_xorbs [] = refl
same_xorbs (x ∷ xs) = ap (λ ys. x ∷ ys) (same_xorbs xs)

module _ (s : Shard) (options : LayoutOptions) (shard : IsShard s) (fits : FitsSection (file_records_in options.version) (values s.files)) where
  pub holds_with_options : Holds (layout_of (values s.files) (values s.xorbs) options) (info_of (values s.files) (values s.xorbs) options) s
  holds_with_options = record {
    files = subst (λ v. IsSectionOf (file_records_in v) (files_at (layout_of (values s.files) (values s.xorbs) options) (info_of (values s.files) (values s.xorbs) options)) s.files) (sym (version_known options.version)) (record {
      stored = values s.files;
      section = file_section_in (values s.files) (values s.xorbs) options fits;
      returned = all_as_read (values s.files) (well_formed_values (entries s.files) shard.files);
      keyed = shard.files.keyed;
    });
    xorbs = record {
      stored = values s.xorbs;
      section = xorb_section_in (values s.files) (values s.xorbs) options (xorbs_fit s shard);
      returned = same_xorbs (values s.xorbs);
      keyed = shard.xorbs.keyed;
    };
  }
