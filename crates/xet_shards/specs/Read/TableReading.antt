-- Reading a lookup table whole: so many rows of one width, in the bytes from an offset on.
use Rattle.std.specs.Prelude.{◌≡◌, ◌⊎◌, ℕ, ◌+◌, ◌*◌, ◌^◌, ◌<◌, ◌≤◌, List, ◌++◌, length, flat_map, drop, All}
use Rattle.xet_base.specs.declared.error.CoreError.{CoreError}
use Rattle.xet_base.specs.Bytes.{u32_bytes, u64_bytes}
use Rattle.xet_base.specs.Source.{Source, FailedBy, ReadCase}
use Rattle.xet_base.specs.Errors.{IsBareInvalidShard}
use Rattle.xet_shards.specs.Write.Tables.{ChunkTableRow}
use Rattle.xet_records.specs.Limits.{MAX_ROWS}

-- the widths of the numbers of a row of the file table or the xorb table: a word and a row number
pub record FitsStart (row : ℕ × ℕ) : Type 0 where
  pub word : row.0 < 2 ^ 64
  pub row_number : row.1 < 2 ^ 32

-- a row of the chunk table as a tuple of its numbers: the word, the row at which the xorb starts
-- and the index in the xorb
abbrev pub triple_of : ChunkTableRow → ℕ × (ℕ × ℕ)
triple_of row = (row.word, (row.row, row.index))

-- the bytes of a row of the chunk table as a tuple: eight of the word, and four of each other
-- number
abbrev pub triple_row : ℕ × (ℕ × ℕ) → List ℕ
triple_row row = (u64_bytes row.0 ++ u32_bytes row.1.0) ++ u32_bytes row.1.1

-- the widths of the numbers of a row of the chunk table
pub record FitsTriple (row : ℕ × (ℕ × ℕ)) : Type 0 where
  pub word : row.0 < 2 ^ 64
  pub row_number : row.1.0 < 2 ^ 32
  pub index : row.1.1 < 2 ^ 32

-- the rows of a table at an offset were read, by one seek and no byte past the table
pub record ReadsTable {T : Type 0} (row_bytes : T → List ℕ) (Fits : T → Type 0) (size : ℕ)
    (old new : Source) (at count : ℕ) (found : List T) : Type 0 where
  -- their number fits `u32`
  pub few : count ≤ MAX_ROWS
  pub number : length found ≡ count
  pub widths : All Fits found
  -- the rows are in the bytes from the offset on
  pub bytes_are : (rest : List ℕ) × (drop at old.bytes ≡ flat_map row_bytes found ++ rest)
  pub bytes : new.bytes ≡ old.bytes
  pub seeks : new.seeks ≡ old.seeks + 1
  -- no byte past the table was read
  pub read : new.read ≡ old.read + size * count
  -- the device did not fail
  pub failures : new.failures ≡ old.failures

-- why a table of so many bytes was not read from an offset on: the device failed, an allocation
-- failed, or the bytes end before the table does
abbrev pub RowsFailure : Source → Source → ℕ → ℕ → CoreError → Type 0
RowsFailure old new at size e = FailedBy (ReadCase (length (drop at old.bytes) < size)) old new e

-- the rows were not read: they are more than 4294967295, which is found before the seek, or a seek
-- and reads did not give them; the source may be at any offset
pub record TableFails (size : ℕ) (old new : Source) (at count : ℕ) (e : CoreError) : Type 0 where
  pub bytes : new.bytes ≡ old.bytes
  pub seeks : new.seeks ≤ old.seeks + 1
  pub read : new.read ≤ old.read + size * count
  pub cause : (IsBareInvalidShard e × (MAX_ROWS < count) × (new ≡ old))
      ⊎ ((count ≤ MAX_ROWS) × RowsFailure old new at (size * count) e)

-- the numbers of a row of the chunk table are within their widths
abbrev pub FitsTableRow : ChunkTableRow → Type 0
FitsTableRow row = FitsTriple (triple_of row)
