-- Rows that are made of their reports.
use Rattle.std.proofs.Common.{◌≡◌, ℕ, ◌+◌, ◌<◌, List, [], ◌∷◌, ◌++◌, None, Some, Option, length, take, get_or, map, ap, refl, sym, subst, ◌∙◌}
use Rattle.std.specs.Prelude.{option_map, option_to_list, sum_by, ⊤}
use Rattle.std.proofs.lemmas.List.{take_more, map-append, length-map}
use Rattle.std.proofs.lemmas.List.Folds.{fold-map}
use Rattle.xet_records.specs.FileRecord.{FitsItsHeader, size_of_file}
use Rattle.xet_records.specs.Part.{part_rows, rows_of}
use Rattle.xet_records.specs.declared.file_structs.MDBFileInfo.{MDBFileInfo}
use Rattle.xet_records.specs.declared.file_structs.part.OptionalPart.{OptionalPart}
use Rattle.xet_records.specs.declared.file_structs.part.OptionalPart.TheVariants.{Verification, MetadataExt, AuxExt}
use Rattle.mdb_records.specs.RecordReports.{ReportsRows, segment_report}
use Rattle.mdb_records.specs.declared.records.FileRows.{FileRows}
use Rattle.mdb_records.specs.declared.records.SegmentReport.{SegmentReport}

-- one more row, of the next report
pub one_more_row : {T R : Type 0} (report : T → R) (made more : List T) (reports : List R) (i : ℕ) (d : R) (row : T)
    → i < length reports → map report made ≡ take i reports → more ≡ made ++ row ∷ [] → report row ≡ get_or reports i d
    → map report more ≡ take (i + 1) reports
one_more_row report made more reports i d row below before is said =
    ap (map report) is ∙ map-append report made (row ∷ []) ∙ ap (λ l. l ++ report row ∷ []) before
    ∙ ap (λ r. take i reports ++ r ∷ []) said ∙ sym (take_more reports i d below)

abbrev IsThere : {X : Type 0} → Option X → Type 0
IsThere None = ⊥
IsThere (Some x) = ⊤

pub not_none : {X : Type 0} (o : Option X) (x : X) → o ≡ Some x → o ≡ None → ⊥
not_none o x some none = subst IsThere none (subst IsThere (sym some) tt)

same_length : {X Y : Type 0} (report : X → Y) (xs ys : List X) (reports : List Y) → reports ≡ map report xs
    → reports ≡ map report ys → length ys ≡ length xs
same_length report xs ys reports of_xs of_ys =
    sym (length-map ys report) ∙ ap length (sym of_ys ∙ of_xs) ∙ length-map xs report

kept_length : {X Y : Type 0} (report : X → Y) (o : Option X)
    → length (option_to_list (option_map report o)) ≡ length (option_to_list o)
kept_length report None = refl
kept_length report (Some x) = refl

same_option : {X Y : Type 0} (report : X → Y) (a b : Option X) (reported : Option Y) → reported ≡ option_map report a
    → reported ≡ option_map report b → length (option_to_list b) ≡ length (option_to_list a)
same_option report a b reported of_a of_b =
    sym (kept_length report b) ∙ ap (λ o. length (option_to_list o)) (sym of_b ∙ of_a) ∙ kept_length report a

reported_size : (file : MDBFileInfo) (rows : FileRows) → ReportsRows file rows
    → sum_by (λ (s : SegmentReport). s.bytes) rows.segments.items ≡ size_of_file file
reported_size file rows reports =
    ap (sum_by (λ (s : SegmentReport). s.bytes)) reports.segments
    ∙ fold-map (λ a (s : SegmentReport). a + s.bytes) segment_report 0 file.segments

module _ (made other : MDBFileInfo) (rows : FileRows) (of_made : ReportsRows made rows)
    (of_other : ReportsRows other rows) where
  -- files with the same rows in their reports have the same size
  pub same_size : size_of_file made ≡ size_of_file other
  same_size = sym (reported_size made rows of_made) ∙ reported_size other rows of_other

  same_part : (part : OptionalPart) → length (rows_of part made) ≡ length (rows_of part other)
  same_part Verification =
      same_length (λ row. record { 0 = row.hash }) other.verification made.verification rows.verification.items
      of_other.verification of_made.verification
  same_part MetadataExt =
      same_option (λ row. record { 0 = row.hash }) other.metadata_ext made.metadata_ext rows.sha256 of_other.sha256 of_made.sha256
  same_part AuxExt =
      same_option (λ row. record { 0 = row.hash }) other.aux_ext made.aux_ext rows.aux of_other.aux of_made.aux

  -- and if they have the same flags and counts, each fits its header if the other does
  pub fits_too : other.metadata.file_flags ≡ made.metadata.file_flags
      → other.metadata.num_entries ≡ made.metadata.num_entries → FitsItsHeader other → FitsItsHeader made
  fits_too flags count fits = record {
    segments = same_length segment_report other.segments made.segments rows.segments.items of_other.segments of_made.segments
        ∙ fits.segments ∙ count;
    parts = λ part. same_part part ∙ fits.parts part
        ∙ ap (λ n. part_rows part (record other.metadata { num_entries = n })) count
        ∙ ap (λ f. part_rows part (record other.metadata { num_entries = made.metadata.num_entries; file_flags = f })) flags;
  }
