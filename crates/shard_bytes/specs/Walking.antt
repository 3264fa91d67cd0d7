-- The record at a row of a section, and walks from row to row.
use Rattle.std.specs.Prelude.{◌≡◌, ◌⊎◌, ℕ, ◌+◌, ◌^◌, ◌<◌, ◌≤◌, List, [], ◌∷◌, map, drop, Option, None, Some}
use Rattle.xet_core_structures.specs.declared.error.CoreError.{CoreError}
use Rattle.xet_core_structures.specs.declared.file_structs.MDBFileInfo.{MDBFileInfo}
use Rattle.xet_core_structures.specs.declared.xorb_structs.MDBXorbInfo.{MDBXorbInfo}
use Rattle.xet_core_structures.specs.declared.shard_format.MDBShardInfo.{MDBShardInfo}
use Rattle.xet_core_structures.specs.TwoShards.ByteResults.{LoadRefusal}
use Rattle.xet_core_structures.specs.Ends.{HasHeaderAndFooter}
use Rattle.xet_core_structures.specs.Lookup.{RecordAt, row_at}
use Rattle.xet_core_structures.specs.FileRecord.{row_count}
use Rattle.xet_core_structures.specs.SectionReading.{IsSection, files_of}
use Rattle.xet_core_structures.specs.SectionReading.{SectionCase, BeginsWithBookend, BeginsRefused, EndsEarly}
use Rattle.xet_core_structures.specs.Errors.{IsBareInvalidShard}
use Rattle.xet_core_structures.specs.XorbRecord.{xorb_records, xorb_row_count}
use Rattle.xet_records.specs.RecordKind.{RecordKind}

module _ {H R : Type 0} (K : RecordKind H R) (bytes : List ℕ) (offset row : ℕ) where
  -- at a row of the section at an offset is this record, or the bookend
  abbrev pub IsAtRow : Option R → Type 0
  IsAtRow None = BeginsWithBookend K (drop (row_at offset row) bytes)
  IsAtRow (Some r) = RecordAt K bytes (row_at offset row) r

  -- why neither a record nor the bookend is read: the row's offset does not fit 64 bits, an
  -- allocation failed, the record has more rows than fit 32 bits or the version does not have it,
  -- or the bytes are too few
  abbrev pub NotAtRow : CoreError → Type 0
  NotAtRow e =
      (IsBareInvalidShard e × (2 ^ 64 ≤ row_at offset row))
      ⊎ SectionCase (BeginsRefused K 4294967296) (EndsEarly K 4294967296)
      (drop (row_at offset row) bytes) e

-- what is said with the header and the footer of the bytes
abbrev pub WithEnds : List ℕ → (MDBShardInfo → Type 0) → Type 0
WithEnds bytes Says = (info : MDBShardInfo) × HasHeaderAndFooter bytes info × Says info

-- the bytes have a header and a footer, and at a row of the file section is this record, or the
-- bookend if there is none
abbrev pub HasFileAt : List ℕ → ℕ → Option MDBFileInfo → Type 0
HasFileAt bytes row found =
    WithEnds bytes (λ info. IsAtRow (files_of info) bytes info.metadata.file_info_offset row found)

-- the bytes have a header and a footer, and at a row of the xorb section is this record, or the
-- bookend if there is none
abbrev pub HasXorbAt : List ℕ → ℕ → Option MDBXorbInfo → Type 0
HasXorbAt bytes row found =
    WithEnds bytes (λ info. IsAtRow xorb_records bytes info.metadata.xorb_info_offset row found)

-- why no file is read at a row: header and footer are not read, or neither a record nor the bookend
-- is
abbrev pub RefusesFileAt : List ℕ → ℕ → CoreError → Type 0
RefusesFileAt bytes row e =
    LoadRefusal bytes e
    ⊎ WithEnds bytes (λ info. NotAtRow (files_of info) bytes info.metadata.file_info_offset row e)

-- why no xorb is read at a row: header and footer are not read, or neither a record nor the bookend
-- is
abbrev pub RefusesXorbAt : List ℕ → ℕ → CoreError → Type 0
RefusesXorbAt bytes row e =
    LoadRefusal bytes e
    ⊎ WithEnds bytes (λ info. NotAtRow xorb_records bytes info.metadata.xorb_info_offset row e)

-- a walk from a row on, which fits 32 bits: there is no record, and the walk ends; or there is one,
-- and the walk goes on as many rows later as the record has
abbrev pub Walks : {R : Type 0} → (ℕ → Option R → Type 0) → (R → ℕ) → ℕ → List R → Type 0
Walks IsAt rows row [] = (row < 2 ^ 32) × IsAt row None
Walks IsAt rows row (r ∷ rs) = (row < 2 ^ 32) × IsAt row (Some r) × Walks IsAt rows (row + rows r) rs

-- the records that `file_at` has at row 0 of the bytes and, one after another, at each next row
abbrev pub WalksFiles : List ℕ → List MDBFileInfo → Type 0
WalksFiles bytes found = Walks (HasFileAt bytes) row_count 0 found

-- the records that `xorb_at` has at row 0 of the bytes and, one after another, at each next row
abbrev pub WalksXorbs : List ℕ → List MDBXorbInfo → Type 0
WalksXorbs bytes found = Walks (HasXorbAt bytes) xorb_row_count 0 found

-- the bytes are a section, and these are its records as reading returns them
abbrev pub IsSectionReadAs : {H R : Type 0} → RecordKind H R → List ℕ → List R → Type 0
IsSectionReadAs {R = R} K bytes found =
    (stored : List R) × IsSection K bytes stored × (map K.as_read stored ≡ found)
