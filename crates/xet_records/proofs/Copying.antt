-- Rows copied one after another, and failures after rows that were copied.
use Rattle.std.proofs.Common.{◌≡◌, ℕ, ◌+◌, ◌≤◌, List, [], ◌∷◌, ◌++◌, length, flat_map, sum_by, Option, sym, ap, ◌∙◌, subst, arith, append-nil}
use Rattle.std.specs.Io.KnownBytes.{Appends}
use Rattle.std.proofs.KnownBytes.{Appends-nil, Appends-trans}
use Rattle.std.proofs.lemmas.Grind.{flat_map-append}
use Rattle.std.proofs.lemmas.List.Sums.{sum_by-append, sum_by-cons}
use Rattle.xet_base.specs.declared.error.CoreError.{CoreError}
use Rattle.xet_records.specs.declared.file_structs.header.FileDataSequenceHeader.{FileDataSequenceHeader}
use Rattle.xet_records.specs.declared.file_structs.rows.FileDataSequenceEntry.{FileDataSequenceEntry}
use Rattle.xet_records.specs.declared.file_structs.part.OptionalPart.{OptionalPart}
use Rattle.xet_records.specs.declared.file_structs.rows.HashRow.{HashRow}
use Rattle.xet_records.specs.declared.row_copier.CopyFailure.{CopyFailure}
use Rattle.xet_records.specs.declared.row_copier.CopyFailure.TheVariants.{Input, Output}
use Rattle.xet_records.specs.Copying.{CopiesRow, CopiesRows, CopiesFile, CopyFails, IsOutputFailure}
use Rattle.xet_records.specs.Part.{part_rows, optional_rows_after, optional_rows, with_parts, part_of}
use Rattle.xet_records.specs.FileRecord.{file_rows_bytes}
use Rattle.xet_records.specs.FileRow.{segment_row, hash_row, FitsSegment, FitsHashRow, clear}
use Rattle.xet_records.specs.Rows.{ReadsRows}
use Rattle.xet_records.proofs.Parts.{PartHolds, length-part_of, parts-of-rows, holds_announced, rows_of-with_parts, optional_rows-with_parts}
use Rattle.xet_records.proofs.Reading.{no_rows, more_rows, length-read}
use Rattle.xet_records.proofs.RecordKinds.{parts_after}

module _ {T : Type 0} (row_bytes : T → List ℕ) (Fits : T → Type 0) (returned : T → T) where
  pub none_copied : (Took : List ℕ → Type 0) (old : Option (List ℕ)) → Took [] → CopiesRows row_bytes Fits returned Took old old 0 []
  none_copied Took old nothing = record { read = no_rows row_bytes Fits returned Took nothing; written = Appends-nil old }

  -- after rows that were copied, and a row that was copied after them
  pub more_copied : (First Next Both : List ℕ → Type 0) (start now new : Option (List ℕ)) (n : ℕ) (rows : List T) (row : T)
      → ((xs ys : List ℕ) → First xs → Next ys → Both (xs ++ ys)) → CopiesRows row_bytes Fits returned First start now n rows
      → CopiesRow row_bytes Fits returned Next now new row → CopiesRows row_bytes Fits returned Both start new (n + 1) (rows ++ row ∷ [])
  more_copied First Next Both start now new n rows row joins before last = record {
    read = more_rows row_bytes Fits returned First Next Both n rows row joins before.read last.read;
    written = subst (Appends start new)
        (ap (λ bs. flat_map row_bytes rows ++ bs) (sym (append-nil (row_bytes row))) ∙ sym (flat_map-append row_bytes rows (row ∷ [])))
        (Appends-trans start now new (flat_map row_bytes rows) (row_bytes row) before.written last.written);
  }

-- the sum of the segments that were copied
pub one_more_segment : (rows : List FileDataSequenceEntry) (row : FileDataSequenceEntry) (bytes : ℕ) → bytes ≡ sum_by (λ s. s.unpacked_segment_bytes) rows
    → bytes + row.unpacked_segment_bytes ≡ sum_by (λ s. s.unpacked_segment_bytes) (rows ++ row ∷ [])
one_more_segment rows row bytes is = omega (
  arith,
  is,
  sum_by-append (λ (s : FileDataSequenceEntry). s.unpacked_segment_bytes) rows (row ∷ []),
  sum_by-cons (λ (s : FileDataSequenceEntry). s.unpacked_segment_bytes) row [],
)

-- the rows of a file after its header, copied one after another
module _ (First Next Whole : List ℕ → Type 0) (joins : (xs ys : List ℕ) → First xs → Next ys → Whole (xs ++ ys)) where
  pub file_copied : (h : FileDataSequenceHeader) (start one new : Option (List ℕ)) (size : ℕ) (ss : List FileDataSequenceEntry) (rows : List HashRow)
      → CopiesRows segment_row FitsSegment (λ s. s) First start one h.num_entries ss → size ≡ sum_by (λ s. s.unpacked_segment_bytes) ss
      → CopiesRows hash_row FitsHashRow clear Next one new (optional_rows_after h) rows → CopiesFile Whole start new h size
  unfolding file_rows_bytes
  file_copied h start one new size ss rows s is e =
      let of_part : OptionalPart → List HashRow = λ part. part_of part h rows in
      let total = length-read hash_row FitsHashRow clear Next (optional_rows_after h) rows e.read in
      let len : (part : OptionalPart) → length (of_part part) ≡ part_rows part h = λ part. length-part_of h rows total part in
      let holds : (part : OptionalPart) → PartHolds part (of_part part) = λ part. holds_announced h part (of_part part) (len part) in
      let found = with_parts h ss of_part in
      let all : optional_rows found ≡ rows = optional_rows-with_parts h ss of_part holds ∙ parts-of-rows h rows total in
      record {
        found = found;
        read = parts_after First Next Whole joins found (λ part. ap length (rows_of-with_parts h ss of_part holds part) ∙ len part) s.read
            (subst (ReadsRows hash_row FitsHashRow clear Next (optional_rows_after h)) (sym all) e.read);
        written = subst (λ (xs : List HashRow). Appends start new (flat_map segment_row ss ++ flat_map hash_row xs)) (sym all) (Appends-trans start one new _ _ s.written e.written);
        size_is = is;
      }

module _ {I : Type 0} (reads : I → I → List ℕ → Type 0) (fails : I → I → ℕ → CoreError → Type 0) where
  -- copying failed after rows that were read
  pub copy_fails_later : ((a b c : I) (xs ys : List ℕ) → reads a b xs → reads b c ys → reads a c (xs ++ ys))
      → ((a b c : I) (xs : List ℕ) (n most : ℕ) (e : CoreError) → reads a b xs → fails b c n e → length xs + n ≤ most → fails a c most e)
      → (a b c : I) (xs : List ℕ) (n most : ℕ) (failure : CopyFailure) → reads a b xs → CopyFails reads fails b c n failure → length xs + n ≤ most
      → CopyFails reads fails a c most failure
  copy_fails_later joins later a b c xs n most (Input e) took failed within = later a b c xs n most e took failed within
  copy_fails_later joins later a b c xs n most (Output e) took (is, ys, more) within = (is, xs ++ ys, joins a b c xs ys took more)

  -- the output failed after them
  pub output_fails : (a b : I) (xs : List ℕ) (n : ℕ) (failure : CopyFailure) → reads a b xs → IsOutputFailure failure → CopyFails reads fails a b n failure
  output_fails a b xs n (Input e) took none = absurd none
  output_fails a b xs n (Output e) took is = (is, xs, took)
