-- A mix of two records of one file: it may be stored, and is written part by part.
use Rattle.std.proofs.Common.{◌≡◌, ◌≢◌, ℕ, zero, suc, ◌+◌, ◌*◌, Bool, true, false, ◌||◌, List, [], ◌∷◌, length, flat_map, Option, refl, sym, ap, ◌∙◌, subst, if◌then◌else◌, arith}
use Rattle.std.specs.Prelude.{◌==◌}
use Rattle.std.specs.Io.KnownBytes.{Appends}
use Rattle.std.proofs.Math.Dec.{eqb-suc-zero}
use Rattle.xet_base.specs.InputLaws.{ReadsBytes-nil}
use Rattle.xet_base.specs.Source.{Source, ReadsBytes, ReadFails}
use Rattle.xet_records.specs.declared.file_structs.header.FileDataSequenceHeader.{FileDataSequenceHeader}
use Rattle.xet_records.specs.declared.file_structs.MDBFileInfo.{MDBFileInfo}
use Rattle.xet_records.specs.declared.row_copier.CopyFailure.{CopyFailure}
use Rattle.xet_records.specs.declared.row_copier.CopyFailure.TheVariants.{Input, Output}
use Rattle.xet_records.specs.Copying.{CopiesRows, CopyFails}
use Rattle.xet_records.specs.Rows.{ReadsRows}
use Rattle.xet_records.proofs.Reading.{no_rows}
use Rattle.xet_records.proofs.RecordKinds.{file_laws}
use Rattle.xet_records.specs.declared.file_structs.part.OptionalPart.{OptionalPart}
use Rattle.xet_records.specs.declared.file_structs.rows.HashRow.{HashRow}
use Rattle.xet_records.specs.FileRow.{FitsHashRow}
use Rattle.xet_records.specs.Part.{rows_of}
use Rattle.xet_records.specs.FileRecord.{row_count, rows_after, IsStored}
use Rattle.xet_records.specs.Merging.{has_part, joined_file, mixed_header}
use Rattle.xet_records.proofs.Merging.{joined_whole, flags_fit, All-joined_file}
use Rattle.xet_records.proofs.Parts.{for_parts}
use Rattle.xet_core_structures.specs.Records.ByteUnion.{mixed_file}
use Rattle.xet_core_structures.specs.Steps.MixedFiles.{WritesEither, EitherFails}
use Rattle.xet_core_structures.specs.Steps.MixedFiles.EitherFails.{output_fails, first_fails, second_fails}
use Rattle.xet_core_structures.specs.TwoShards.Streams.{streams}
use Rattle.xet_core_structures.specs.Steps.StreamsSteps.{sources}
use Rattle.xet_core_structures.proofs.TwoShards.OneSection.{serves_same, taken_serves}

-- a mix has the parts of a join
pub rows_of-mixed_file : (a b : MDBFileInfo) (part : OptionalPart) → rows_of part (mixed_file a b) ≡ rows_of part (joined_file a b)
rows_of-mixed_file a b part = for_parts (λ p. rows_of p (mixed_file a b) ≡ rows_of p (joined_file a b)) refl refl refl part

pub mixed_stored : (a b : MDBFileInfo) → IsStored a → IsStored b → a.metadata.file_hash ≡ b.metadata.file_hash → a.metadata.num_entries ≡ b.metadata.num_entries → IsStored (mixed_file a b)
mixed_stored a b one other hash counts =
    let whole = joined_whole a b one.whole other.whole (record { file_hash = hash; num_entries = counts }) in
    record {
      is_file = one.is_file;
      whole = record { segments = whole.segments; parts = λ part. ap length (rows_of-mixed_file a b part) ∙ whole.parts part };
      widths = record {
        metadata = record {
          file_hash = one.widths.metadata.file_hash;
          file_flags = flags_fit (λ part. has_part a part || has_part b part);
          num_entries = one.widths.metadata.num_entries;
          unused = omega arith;
        };
        segments = one.widths.segments;
        parts = All-joined_file FitsHashRow a b one.widths.parts other.widths.parts;
      };
    }

-- the rows of a mix
module _ (g h : FileDataSequenceHeader) (a b : MDBFileInfo) (a_is : a.metadata ≡ g) (b_is : b.metadata ≡ h) (one : IsStored a) (other : IsStored b) (hash : g.file_hash ≡ h.file_hash) (count : g.num_entries ≡ h.num_entries) where
  same_hash : a.metadata.file_hash ≡ b.metadata.file_hash
  same_hash = ap (λ (k : FileDataSequenceHeader). k.file_hash) a_is ∙ hash ∙ sym (ap (λ (k : FileDataSequenceHeader). k.file_hash) b_is)

  same_count : a.metadata.num_entries ≡ b.metadata.num_entries
  same_count = ap (λ (k : FileDataSequenceHeader). k.num_entries) a_is ∙ count ∙ sym (ap (λ (k : FileDataSequenceHeader). k.num_entries) b_is)

  pub is_stored : IsStored (mixed_file a b)
  is_stored = mixed_stored a b one other same_hash same_count

  header_is : (mixed_file a b).metadata ≡ mixed_header g h
  header_is = λ i. mixed_header (a_is i) (b_is i)

  pub rows_of_mix : row_count (mixed_file a b) ≡ 1 + rows_after (mixed_header g h)
  rows_of_mix = file_laws.rows (mixed_file a b) is_stored ∙ ap (λ k. 1 + rows_after k) header_is

not_zero : (n : ℕ) → n ≢ 0 → (n == 0) ≡ false
not_zero zero some = absurd (some refl)
not_zero (suc n) some = eqb-suc-zero n

-- the rows of either
module _ {T : Type 0} (row_bytes : T → List ℕ) (Fits : T → Type 0) (returned : T → T) where
  pub second_copied : (one old_2 new_2 : Source) (count_1 count_2 : ℕ) (old new : Option (List ℕ)) (rows : List T) → count_1 ≡ 0
      → CopiesRows row_bytes Fits returned (ReadsBytes old_2 new_2) old new count_2 rows → WritesEither row_bytes Fits returned (streams one old_2 old) (streams one new_2 new) count_1 count_2
  second_copied one old_2 new_2 count_1 count_2 old new rows none copied =
      subst (λ n. WritesEither row_bytes Fits returned (streams one old_2 old) (streams one new_2 new) n count_2) (sym none) (record {
        firsts = [];
        seconds = rows;
        first = no_rows row_bytes Fits returned (ReadsBytes one one) (ReadsBytes-nil one);
        second = copied.read;
        bytes = copied.written;
      })

  pub first_copied : (old_1 new_1 old_2 new_2 : Source) (count_1 count_2 : ℕ) (old new : Option (List ℕ)) (firsts seconds : List T) → count_1 ≢ 0
      → CopiesRows row_bytes Fits returned (ReadsBytes old_1 new_1) old new count_1 firsts → ReadsRows row_bytes Fits returned (ReadsBytes old_2 new_2) count_2 seconds
      → WritesEither row_bytes Fits returned (streams old_1 old_2 old) (streams new_1 new_2 new) count_1 count_2
  first_copied old_1 new_1 old_2 new_2 count_1 count_2 old new firsts seconds some copied skipped = record {
    firsts = firsts;
    seconds = seconds;
    first = copied.read;
    second = skipped;
    bytes = subst (λ b. Appends old new (flat_map row_bytes (if b then seconds else firsts))) (sym (not_zero count_1 some)) copied.written;
  }

-- why neither was copied
pub second_not_copied : {S : Type 0} (meaning : S → Source) (s t : S) (one : Source) (count_1 count_2 : ℕ) (failure : CopyFailure)
    → CopyFails (λ a b xs. ReadsBytes (meaning a) (meaning b) xs) (λ a b n e. ReadFails (meaning a) (meaning b) n e) s t (48 * count_2) failure
    → EitherFails (sources one (meaning s)) (sources one (meaning t)) count_1 count_2 failure
second_not_copied meaning s t one count_1 count_2 (Input e) fails = second_fails e refl fails (serves_same one one refl)
second_not_copied meaning s t one count_1 count_2 (Output e) (is, taken, read) = output_fails e refl is refl (taken_serves (meaning s) (meaning t) taken read).bytes

pub first_not_copied : {S : Type 0} (meaning : S → Source) (s t : S) (two : Source) (count_1 count_2 : ℕ) (failure : CopyFailure)
    → CopyFails (λ a b xs. ReadsBytes (meaning a) (meaning b) xs) (λ a b n e. ReadFails (meaning a) (meaning b) n e) s t (48 * count_1) failure
    → EitherFails (sources (meaning s) two) (sources (meaning t) two) count_1 count_2 failure
first_not_copied meaning s t two count_1 count_2 (Input e) fails = first_fails e refl fails (serves_same two two refl)
first_not_copied meaning s t two count_1 count_2 (Output e) (is, taken, read) = output_fails e refl is (taken_serves (meaning s) (meaning t) taken read).bytes refl

-- the parts that are written are those of a mix
no_row : {T : Type 0} (xs ys : List T) → length xs ≡ 0 → length ys ≡ 0 → xs ≡ ys
no_row [] [] one other = refl
no_row [] (y ∷ ys) one other = absurd (omega (arith, other))
no_row (x ∷ xs) ys one other = absurd (omega (arith, one))

pub rows_chosen : (v w : Bool) (n count_1 count_2 : ℕ) (firsts seconds : List HashRow) → count_1 ≡ (if v then n else 0) → count_2 ≡ (if w then n else 0)
    → length firsts ≡ count_1 → length seconds ≡ count_2 → (if v then firsts else seconds) ≡ (if count_1 == 0 then seconds else firsts)
rows_chosen false w n count_1 count_2 firsts seconds one other len_1 len_2 = ap (λ k. if k == 0 then seconds else firsts) (sym one)
rows_chosen true w n count_1 count_2 firsts seconds one other len_1 len_2 = sym (ap (λ k. if k == 0 then seconds else firsts) one ∙ at n refl) where
  at : (k : ℕ) → n ≡ k → (if k == 0 then seconds else firsts) ≡ firsts
  at zero none = no_row seconds firsts (len_2 ∙ other ∙ no_rows_of w) (len_1 ∙ one ∙ none) where
    no_rows_of : (w : Bool) → (if w then n else 0) ≡ 0
    no_rows_of true = none
    no_rows_of false = refl
  at (suc k) some = ap (λ b. if b then seconds else firsts) (eqb-suc-zero k)
