-- A mix of two records of one file, written while both are read.
use Rattle.std.specs.Prelude.{◌≡◌, ℕ, ◌+◌, ◌*◌, ◌<◌, ◌≤◌, ◌==◌, List, [], ◌∷◌, ◌++◌, flat_map, Option, Some, MatchResult, if◌then◌else◌}
use Rattle.std.specs.declared.result.Result.{Result}
use Rattle.std.specs.Io.KnownBytes.{Appends}
use Rattle.xet_base.specs.declared.error.CoreError.{CoreError}
use Rattle.xet_base.specs.Errors.{IsWriteError}
use Rattle.xet_base.specs.Source.{ReadsBytes, ReadFails, NoFailure}
use Rattle.xet_records.specs.declared.file_structs.header.FileDataSequenceHeader.{FileDataSequenceHeader}
use Rattle.xet_records.specs.declared.file_structs.MDBFileInfo.{MDBFileInfo}
use Rattle.xet_records.specs.declared.row_copier.CopyFailure.{CopyFailure}
use Rattle.xet_records.specs.declared.row_copier.CopyFailure.TheVariants.{Input, Output}
use Rattle.xet_records.specs.FileRecord.{file_records, file_record_bytes, file_rows_bytes, row_count, size_of_file}
use Rattle.xet_records.specs.Reading.{ReadsRowsAfter}
use Rattle.xet_records.specs.Rows.{ReadsRows}
use Rattle.xet_core_structures.specs.Records.ByteUnion.{mixed_file}
use Rattle.xet_core_structures.specs.Steps.MergeJoin.{PairFails}
use Rattle.xet_core_structures.specs.TwoShards.Streams.{Streams}
use Rattle.xet_core_structures.specs.Steps.StreamsSteps.{Sources, inputs_of}
use Rattle.xet_records.specs.Limits.{MAX_ROWS}

-- both records were read, and a mix of them was written and gathered, with rows that fit a section
-- beside those before it
pub record WritesMix (first second : FileDataSequenceHeader) (old new : Streams) (rows : ℕ)
    (Before After : List MDBFileInfo → Type 0) : Type 0 where
  -- the record of the first header
  pub one : MDBFileInfo
  -- the record of the second header
  pub other : MDBFileInfo
  pub reads_first : ReadsRowsAfter file_records first (ReadsBytes old.first new.first) one
  pub reads_second : ReadsRowsAfter file_records second (ReadsBytes old.second new.second) other
  -- the rows before, and those of the mix, fit a section
  pub few : rows + row_count (mixed_file one other) ≤ MAX_ROWS
  pub bytes : Appends old.out new.out (file_record_bytes (mixed_file one other))
  -- the mix was gathered after the records before it
  pub written : (front : List MDBFileInfo) → Before front → After (front ++ mixed_file one other ∷ [])

-- both records were read, and the rows of a mix of them were written, if they have as many
-- segments; this is the size of the file in bytes
pub record WritesMixRows (first second : FileDataSequenceHeader) (old new : Streams) (bytes : ℕ)
    : Type 0 where
  pub one : MDBFileInfo
  pub other : MDBFileInfo
  pub reads_first : ReadsRowsAfter file_records first (ReadsBytes old.first new.first) one
  pub reads_second : ReadsRowsAfter file_records second (ReadsBytes old.second new.second) other
  pub rows : first.num_entries ≡ second.num_entries
      → Appends old.out new.out (file_rows_bytes (mixed_file one other))
  pub size : size_of_file (mixed_file one other) ≡ bytes

-- the outcome for the rows of a mix: they were written, or the output failed or an input
abbrev pub MixesRows : FileDataSequenceHeader → FileDataSequenceHeader → Streams → Streams
    → Result ℕ CopyFailure → Type 0
MixesRows first second old new result =
    MatchResult result (WritesMixRows first second old new)
    (PairFails file_records (Some first) (Some second) (inputs_of old) (inputs_of new) (λ _ _. ⊥))

-- the mix has too many rows beside those before it
abbrev pub MixHasTooManyRows : ℕ → Option MDBFileInfo → Option MDBFileInfo → Type 0
MixHasTooManyRows rows one other =
    (r s : MDBFileInfo) → one ≡ Some r → other ≡ Some s → MAX_ROWS < rows + row_count (mixed_file r s)

-- the outcome of a mix: it was written and gathered, or the output failed or an input, or it has
-- too many rows
abbrev pub MixesFiles : {U : Type 0} → FileDataSequenceHeader → FileDataSequenceHeader → Streams
    → Streams → ℕ → (List MDBFileInfo → Type 0) → (List MDBFileInfo → Type 0)
    → Result U CopyFailure → Type 0
MixesFiles first second old new rows Before After result =
    MatchResult result (λ _. WritesMix first second old new rows Before After)
    (PairFails file_records (Some first) (Some second) (inputs_of old) (inputs_of new)
    (MixHasTooManyRows rows))

-- rows of both were read, and those of the first written, or if it has none, those of the second
pub record WritesEither {T : Type 0} (row_bytes : T → List ℕ) (Fits : T → Type 0)
    (as_read : T → T) (old new : Streams) (count_1 count_2 : ℕ) : Type 0 where
  pub firsts : List T
  pub seconds : List T
  pub first : ReadsRows row_bytes Fits as_read (ReadsBytes old.first new.first) count_1 firsts
  pub second : ReadsRows row_bytes Fits as_read (ReadsBytes old.second new.second) count_2 seconds
  pub bytes : Appends old.out new.out (flat_map row_bytes (if count_1 == 0 then seconds else firsts))

-- why rows of either were not read and written: the output failed, or an input
pub data EitherFails (old new : Sources) (count_1 count_2 : ℕ) (failure : CopyFailure)
    : Type 0 where
  output_fails : (e : CoreError) → failure ≡ Output e → IsWriteError e
      → new.first.bytes ≡ old.first.bytes → new.second.bytes ≡ old.second.bytes
      → EitherFails old new count_1 count_2 failure
  first_fails : (e : CoreError) → failure ≡ Input e → ReadFails old.first new.first (48 * count_1) e
      → NoFailure old.second new.second → EitherFails old new count_1 count_2 failure
  second_fails : (e : CoreError) → failure ≡ Input e
      → ReadFails old.second new.second (48 * count_2) e → NoFailure old.first new.first
      → EitherFails old new count_1 count_2 failure

-- the outcome for the rows of either: they were written, or the output failed or an input
abbrev pub CopiesEither : {T U : Type 0} → (T → List ℕ) → (T → Type 0) → (T → T) → Streams
    → Streams → ℕ → ℕ → Result U CopyFailure → Type 0
CopiesEither row_bytes Fits as_read old new count_1 count_2 result =
    MatchResult result (λ _. WritesEither row_bytes Fits as_read old new count_1 count_2)
    (EitherFails (inputs_of old) (inputs_of new) count_1 count_2)
