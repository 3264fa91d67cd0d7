-- Bytes are a section in one way at most: the three cases of its reading exclude each other, and at most one
-- list of records fits.
use Rattle.std.proofs.Common.{◌≡◌, inl, inr, ℕ, ◌-◌, ◌≤◌, List, [], ◌∷◌, ◌++◌, flat_map, refl, sym, ap, ◌∙◌, subst, arith}
use Rattle.std.specs.Prelude.{All, sum_by}
use Rattle.std.proofs.lemmas.List.{append_assoc}
use Rattle.std.proofs.lemmas.List.Elements.{All-drop}
use Rattle.std.proofs.lemmas.List.Sums.{sum_by-cons}
use Rattle.xet_records.specs.RecordKind.{RecordKind}
use Rattle.xet_records.specs.Reading.{BeginsWithBookend}
use Rattle.xet_records.proofs.RecordKinds.{KindLaws, StopsAt, stored_begins, bookend_or_header, bookend_or_passes, bookend_or_ends, no_record}
use Rattle.xet_shards.specs.Read.SectionReading.{HoldsRecords, IsSection, IsRefusedSection, IsTruncatedSection, rows_left}

module _ {H R : Type 0} (K : RecordKind H R) (laws : KindLaws K) where
  none : (left : ℕ) → left - sum_by K.row_count [] ≡ left
  none left = omega arith

  -- two readings of the same bytes have the same records
  same_records : (left : ℕ) (xs ys : List R) (a b : List ℕ) → All K.IsStored xs → All K.IsStored ys → sum_by K.row_count xs ≤ left → sum_by K.row_count ys ≤ left
      → StopsAt K (left - sum_by K.row_count xs) a → StopsAt K (left - sum_by K.row_count ys) b → flat_map K.record_bytes xs ++ a ≡ flat_map K.record_bytes ys ++ b → (xs ≡ ys) × (a ≡ b)
  same_records left [] [] a b x_stored y_stored x_few y_few x_stop y_stop same = (refl, same)
  same_records left [] (y ∷ ys) a b x_stored y_stored x_few y_few x_stop y_stop same =
      absurd (no_record K laws left a y (flat_map K.record_bytes ys ++ b) (y_stored 0 y (omega arith)) (omega (arith, sum_by-cons K.row_count y ys, y_few))
      (same ∙ append_assoc (K.record_bytes y) (flat_map K.record_bytes ys) b) (subst (λ n. StopsAt K n a) (none left) x_stop))
  same_records left (x ∷ xs) [] a b x_stored y_stored x_few y_few x_stop y_stop same =
      absurd (no_record K laws left b x (flat_map K.record_bytes xs ++ a) (x_stored 0 x (omega arith)) (omega (arith, sum_by-cons K.row_count x xs, x_few))
      (sym same ∙ append_assoc (K.record_bytes x) (flat_map K.record_bytes xs) a) (subst (λ n. StopsAt K n b) (none left) y_stop))
  same_records left (x ∷ xs) (y ∷ ys) a b x_stored y_stored x_few y_few x_stop y_stop same =
      let first = laws.front x y (flat_map K.record_bytes xs ++ a) (flat_map K.record_bytes ys ++ b) (x_stored 0 x (omega arith)) (y_stored 0 y (omega arith))
      (sym (append_assoc (K.record_bytes x) (flat_map K.record_bytes xs) a) ∙ same ∙ append_assoc (K.record_bytes y) (flat_map K.record_bytes ys) b) in
      let rows : K.row_count x ≡ K.row_count y = ap (λ (r : R). K.row_count r) first.0 in
      let x_rest : left - sum_by K.row_count (x ∷ xs) ≡ (left - K.row_count x) - sum_by K.row_count xs = omega (arith, sum_by-cons K.row_count x xs, x_few) in
      let y_rest : left - sum_by K.row_count (y ∷ ys) ≡ (left - K.row_count x) - sum_by K.row_count ys = omega (arith, sum_by-cons K.row_count y ys, y_few, rows) in
      let rest = same_records (left - K.row_count x) xs ys a b (All-drop K.IsStored 1 (x ∷ xs) x_stored) (All-drop K.IsStored 1 (y ∷ ys) y_stored)
      (omega (arith, sum_by-cons K.row_count x xs, x_few)) (omega (arith, sum_by-cons K.row_count y ys, y_few, rows))
      (subst (λ n. StopsAt K n a) x_rest x_stop) (subst (λ n. StopsAt K n b) y_rest y_stop) first.1 in
      ((λ i. first.0 i ∷ rest.0 i), rest.1)

  pub same_reading : (bytes : List ℕ) (xs ys : List R) (a b : List ℕ) → HoldsRecords K bytes xs a → HoldsRecords K bytes ys b → StopsAt K (rows_left K xs) a → StopsAt K (rows_left K ys) b
      → (xs ≡ ys) × (a ≡ b)
  same_reading bytes xs ys a b x y x_stop y_stop =
      same_records 4294967295 xs ys a b x.are_stored y.are_stored x.rows y.rows x_stop y_stop (sym x.bytes_are ∙ y.bytes_are)

  -- at most one list fits
  pub only_list : (bytes : List ℕ) (xs ys : List R) → IsSection K bytes xs → IsSection K bytes ys → xs ≡ ys
  only_list bytes xs ys x y = (same_reading bytes xs ys x.rest y.rest x.records y.records (inl x.bookend) (inl y.bookend)).0

  -- records at the front of the bytes of others, which a bookend follows, are the first of these
  first_records : (xs ys : List R) (a b : List ℕ) → All K.IsStored xs → All K.IsStored ys → BeginsWithBookend K b → flat_map K.record_bytes xs ++ a ≡ flat_map K.record_bytes ys ++ b
      → (zs : List R) × (ys ≡ xs ++ zs)
  first_records [] ys a b x_stored y_stored bookend same = (ys, refl)
  first_records (x ∷ xs) [] a b x_stored y_stored bookend same =
      let rest = flat_map K.record_bytes xs ++ a in
      absurd (bookend_or_header K laws b (K.header_of x) (K.bytes_after x ++ rest) bookend
      (stored_begins K laws b x rest (x_stored 0 x (omega arith)) (sym same ∙ append_assoc (K.record_bytes x) (flat_map K.record_bytes xs) a)))
  first_records (x ∷ xs) (y ∷ ys) a b x_stored y_stored bookend same =
      let first = laws.front x y (flat_map K.record_bytes xs ++ a) (flat_map K.record_bytes ys ++ b) (x_stored 0 x (omega arith)) (y_stored 0 y (omega arith))
      (sym (append_assoc (K.record_bytes x) (flat_map K.record_bytes xs) a) ∙ same ∙ append_assoc (K.record_bytes y) (flat_map K.record_bytes ys) b) in
      let rest = first_records xs ys a b (All-drop K.IsStored 1 (x ∷ xs) x_stored) (All-drop K.IsStored 1 (y ∷ ys) y_stored) bookend first.1 in
      (rest.0, (λ i. sym first.0 i ∷ rest.1 i))

  pub first_of_section : (bytes : List ℕ) (xs ys : List R) (rest : List ℕ) → HoldsRecords K bytes xs rest → IsSection K bytes ys → (zs : List R) × (ys ≡ xs ++ zs)
  first_of_section bytes xs ys rest x y =
      first_records xs ys rest y.rest x.are_stored y.records.are_stored y.bookend (sym x.bytes_are ∙ y.records.bytes_are)

  pub section_or_passes : (bytes : List ℕ) (xs : List R) → IsSection K bytes xs → ¬ IsRefusedSection K bytes
  section_or_passes bytes xs x (ys, b, y, passes) =
      bookend_or_passes K laws (rows_left K ys) b (subst (BeginsWithBookend K) (same_reading bytes xs ys x.rest b x.records y (inl x.bookend) (inr (inl passes))).1 x.bookend) passes

  pub section_or_cut : (bytes : List ℕ) (xs : List R) → IsSection K bytes xs → ¬ IsTruncatedSection K bytes
  section_or_cut bytes xs x (ys, b, y, ends) =
      bookend_or_ends K laws (rows_left K ys) b (subst (BeginsWithBookend K) (same_reading bytes xs ys x.rest b x.records y (inl x.bookend) (inr (inr ends))).1 x.bookend) ends
