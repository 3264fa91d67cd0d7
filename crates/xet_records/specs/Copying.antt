-- What copying rows from an input to a writer does, and why it fails.
use Rattle.std.specs.Prelude.{◌≡◌, ℕ, List, Option, flat_map}
use Rattle.std.specs.Io.KnownBytes.{Appends}
use Rattle.xet_base.specs.declared.error.CoreError.{CoreError}
use Rattle.xet_base.specs.Errors.{IsWriteError}
use Rattle.xet_records.specs.declared.file_structs.header.FileDataSequenceHeader.{FileDataSequenceHeader}
use Rattle.xet_records.specs.declared.file_structs.MDBFileInfo.{MDBFileInfo}
use Rattle.xet_records.specs.declared.row_copier.CopyFailure.{CopyFailure}
use Rattle.xet_records.specs.declared.row_copier.CopyFailure.TheVariants.{Input, Output}
use Rattle.xet_records.specs.FileRecord.{file_records, file_rows_bytes, size_of_file}
use Rattle.xet_records.specs.Reading.{ReadsRowsAfter}
use Rattle.xet_records.specs.Rows.{ReadsRow, ReadsRows}

-- a row was read, and written as it is returned
pub record CopiesRow {T : Type 0} (row_bytes : T → List ℕ) (Fits : T → Type 0) (as_read : T → T)
    (Took : List ℕ → Type 0) (old new : Option (List ℕ)) (row : T) : Type 0 where
  pub read : ReadsRow row_bytes Fits as_read Took row
  pub written : Appends old new (row_bytes row)

-- `count` rows were read, and written as they are returned
pub record CopiesRows {T : Type 0} (row_bytes : T → List ℕ) (Fits : T → Type 0)
    (as_read : T → T) (Took : List ℕ → Type 0) (old new : Option (List ℕ)) (count : ℕ)
    (rows : List T) : Type 0 where
  pub read : ReadsRows row_bytes Fits as_read Took count rows
  pub written : Appends old new (flat_map row_bytes rows)

-- copying failed: reading up to n bytes did, or the output did, after reads that did not fail
abbrev pub CopyFails : {I : Type 0} → (I → I → List ℕ → Type 0) → (I → I → ℕ → CoreError → Type 0)
    → I → I → ℕ → CopyFailure → Type 0
CopyFails reads fails old new n (Input e) = fails old new n e
CopyFails reads fails old new n (Output e) = IsWriteError e × (taken : List ℕ) × reads old new taken

-- the failure is that of the output's device, or of an allocation
abbrev pub IsOutputFailure : CopyFailure → Type 0
IsOutputFailure (Input e) = ⊥
IsOutputFailure (Output e) = IsWriteError e

-- the rows after a file's header were read, and written as they are returned; the file has so many
-- bytes
pub record CopiesFile (Took : List ℕ → Type 0) (old new : Option (List ℕ))
    (header : FileDataSequenceHeader) (size : ℕ) : Type 0 where
  pub found : MDBFileInfo
  pub read : ReadsRowsAfter file_records header Took found
  pub written : Appends old new (file_rows_bytes found)
  pub size_is : size ≡ size_of_file found
