-- Bytes are to a reader one thing only: a section, truncated or with a header that is refused; and of an input one thing
-- only is met first.
use Rattle.std.proofs.Common.{◌≡◌, true≢false, inl, inr, ℕ, ◌-◌, ◌≤◌, List, [], ◌∷◌, ◌++◌, map, flat_map, append_assoc, refl, sym, ap, ◌∙◌, subst, arith}
use Rattle.std.specs.Prelude.{All, sum_by}
use Rattle.std.specs.List.Sorted.{IsStrictlySortedBy}
use Rattle.std.proofs.lemmas.List.{map-append}
use Rattle.std.proofs.lemmas.List.Elements.{All-drop}
use Rattle.std.proofs.lemmas.List.Sums.{sum_by-cons}
use Rattle.xet_base.specs.Hash.{hash_cmp}
use Rattle.xet_records.specs.declared.file_structs.MDBFileInfo.{MDBFileInfo}
use Rattle.xet_records.specs.RecordKind.{RecordKind}
use Rattle.xet_records.specs.Reading.IsRefused.{not_allowed, too_many_rows}
use Rattle.xet_records.specs.Version.{version_of}
use Rattle.xet_records.specs.FileRecord.{file_records}
use Rattle.xet_records.specs.XorbRecord.{xorb_records}
use Rattle.xet_records.proofs.RecordKinds.{KindLaws, StopsAt, same_front, header_within, no_record, xorb_laws}
use Rattle.xet_shards.specs.declared.shard_format.ends.info.MDBShardInfo.{MDBShardInfo}
use Rattle.xet_shards.specs.Write.WithOptions.{Ascends}
use Rattle.xet_shards.specs.Read.SectionReading.{files_of, HoldsRecords, IsSection, IsRefusedSection, IsTruncatedSection, BeginsRefused, EndsEarly, rows_left}
use Rattle.xet_shards.specs.Write.Tables.{hash_in}
use Rattle.xet_shards.proofs.Write.Sections.{files_laws}
use Rattle.xet_shards.proofs.Read.SectionUnique.{same_reading, only_list, first_of_section, section_or_passes, section_or_cut}
use Rattle.xet_core_structures.specs.Records.ShardContents.{IsReadInOneWay, IsTruncatedInOrder, IsMalformedSection, files_at, xorbs_at, IsTruncated, IsMalformed}
use Rattle.xet_core_structures.proofs.Records.ShardContents.{sorted_front}

module _ {H R : Type 0} (K : RecordKind H R) (laws : KindLaws K) where
  passes_or_ends : (left : ℕ) (bytes : List ℕ) → BeginsRefused K left bytes → ¬ EndsEarly K left bytes
  passes_or_ends left bytes (h, rest, begins, past) (inl short) = omega (arith, short, header_within K laws bytes h rest begins.bytes_are)
  passes_or_ends left bytes (h, rest, begins, not_allowed refused) (inr (g, after, has, taken, short)) =
      let same = same_front K laws bytes h g rest after begins.widths begins.bytes_are has in
      true≢false (sym refused ∙ ap (λ (k : H). K.refuses k) (sym same.0) ∙ taken.allowed)
  passes_or_ends left bytes (h, rest, begins, too_many_rows past) (inr (g, after, has, taken, short)) =
      let same = same_front K laws bytes h g rest after begins.widths begins.bytes_are has in
      omega (arith, past, taken.rows, ap (λ (k : H). K.rows_after k) same.0)

  -- records at the front of bytes that have no more than some others are the first of these
  first_of : (left : ℕ) (xs ys : List R) (a b : List ℕ) → All K.IsStored xs → All K.IsStored ys → sum_by K.row_count xs ≤ left → sum_by K.row_count ys ≤ left
      → StopsAt K (left - sum_by K.row_count xs) a → flat_map K.record_bytes xs ++ a ≡ flat_map K.record_bytes ys ++ b → (zs : List R) × (xs ≡ ys ++ zs)
  first_of left xs [] a b x_stored y_stored x_few y_few stop same = (xs, refl)
  first_of left [] (y ∷ ys) a b x_stored y_stored x_few y_few stop same =
      let none : left - sum_by K.row_count [] ≡ left = omega arith in
      absurd (no_record K laws left a y (flat_map K.record_bytes ys ++ b) (y_stored 0 y (omega arith)) (omega (arith, sum_by-cons K.row_count y ys, y_few))
      (same ∙ append_assoc (K.record_bytes y) (flat_map K.record_bytes ys) b) (subst (λ n. StopsAt K n a) none stop))
  first_of left (x ∷ xs) (y ∷ ys) a b x_stored y_stored x_few y_few stop same =
      let first = laws.front x y (flat_map K.record_bytes xs ++ a) (flat_map K.record_bytes ys ++ b) (x_stored 0 x (omega arith)) (y_stored 0 y (omega arith))
      (sym (append_assoc (K.record_bytes x) (flat_map K.record_bytes xs) a) ∙ same ∙ append_assoc (K.record_bytes y) (flat_map K.record_bytes ys) b) in
      let rows : K.row_count x ≡ K.row_count y = ap (λ (r : R). K.row_count r) first.0 in
      let x_rest : left - sum_by K.row_count (x ∷ xs) ≡ (left - K.row_count x) - sum_by K.row_count xs = omega (arith, sum_by-cons K.row_count x xs, x_few) in
      let rest = first_of (left - K.row_count x) xs ys a b (All-drop K.IsStored 1 (x ∷ xs) x_stored) (All-drop K.IsStored 1 (y ∷ ys) y_stored)
      (omega (arith, sum_by-cons K.row_count x xs, x_few)) (omega (arith, sum_by-cons K.row_count y ys, y_few, rows)) (subst (λ n. StopsAt K n a) x_rest stop) first.1 in
      (rest.0, λ i. first.0 i ∷ rest.1 i)

  front_of : (bytes : List ℕ) (xs ys : List R) (a b : List ℕ) → HoldsRecords K bytes xs a → HoldsRecords K bytes ys b → StopsAt K (rows_left K xs) a → (zs : List R) × (xs ≡ ys ++ zs)
  front_of bytes xs ys a b x y stop = first_of 4294967295 xs ys a b x.are_stored y.are_stored x.rows y.rows stop (sym x.bytes_are ∙ y.bytes_are)

  cut_or_passes : (bytes : List ℕ) → IsTruncatedSection K bytes → ¬ IsRefusedSection K bytes
  cut_or_passes bytes (xs, a, x, ends) (ys, b, y, passes) =
      let same = same_reading K laws bytes xs ys a b x y (inr (inr ends)) (inr (inl passes)) in
      passes_or_ends (rows_left K ys) b passes (subst (λ p. p) (λ i. EndsEarly K (rows_left K (same.0 i)) (same.1 i)) ends)

  pub one_way : (bytes : List ℕ) → IsReadInOneWay K bytes
  one_way bytes = record {
    list = only_list K laws bytes;
    cut = section_or_cut K laws bytes;
    passes = section_or_passes K laws bytes;
    either = cut_or_passes bytes;
  }

  cut_or_bad : (bytes : List ℕ) → IsTruncatedInOrder K bytes → ¬ IsMalformedSection K bytes
  cut_or_bad bytes (xs, a, x, ends) (inl (ys, b, y, passes)) = cut_or_passes bytes (xs, a, x.records, ends) (ys, b, y.records, passes)
  cut_or_bad bytes (xs, a, x, ends) (inr falls) =
      let ys = falls.stored ++ falls.last ∷ [] in
      let whole = front_of bytes xs ys a falls.rest x.records falls.records (inr (inr ends)) in
      falls.falls (sorted_front hash_cmp (map (hash_in K) ys) (map (hash_in K) whole.0)
      (subst (IsStrictlySortedBy hash_cmp) (ap (map (hash_in K)) whole.1 ∙ map-append (hash_in K) ys whole.0) x.ascends))

pub one_cause : (bytes : List ℕ) (info : MDBShardInfo) → IsTruncated bytes info → ¬ IsMalformed bytes info
one_cause bytes info (inl cut) (inl bad) = cut_or_bad (files_of info) (files_laws (version_of info.header.version)) (files_at bytes info) cut bad
one_cause bytes info (inl (xs, a, x, ends)) (inr ((files, section, ascends), bad)) = section_or_cut (files_of info) (files_laws (version_of info.header.version)) (files_at bytes info) files section (xs, a, x.records, ends)
one_cause bytes info (inr ((files, section, ascends), cut)) (inl bad) = whole_or_bad files section ascends bad where
  whole_or_bad : (files : List MDBFileInfo) → IsSection (files_of info) (files_at bytes info) files → Ascends file_records files → ¬ IsMalformedSection (files_of info) (files_at bytes info)
  whole_or_bad files section ascends (inl (ys, b, y, passes)) = section_or_passes (files_of info) (files_laws (version_of info.header.version)) (files_at bytes info) files section (ys, b, y.records, passes)
  whole_or_bad files section ascends (inr falls) =
      let ys = falls.stored ++ falls.last ∷ [] in
      let whole = first_of_section (files_of info) (files_laws (version_of info.header.version)) (files_at bytes info) ys files falls.rest falls.records section in
      falls.falls (sorted_front hash_cmp (map (hash_in file_records) ys) (map (hash_in file_records) whole.0)
      (subst (IsStrictlySortedBy hash_cmp) (ap (map (hash_in file_records)) whole.1 ∙ map-append (hash_in file_records) ys whole.0) ascends))
one_cause bytes info (inr (files, cut)) (inr (also, bad)) = cut_or_bad xorb_records xorb_laws (xorbs_at bytes info) cut bad
