-- The rows of a record that stays where it is, by which its tables are collected.
use Rattle.std.specs.Prelude.{◌≡◌, ℕ, List, ◌++◌, length, flat_map, All}
use Rattle.xet_records.specs.declared.file_structs.rows.FileDataSequenceEntry.{FileDataSequenceEntry}
use Rattle.xet_records.specs.declared.xorb_structs.XorbChunkSequenceEntry.{XorbChunkSequenceEntry}
use Rattle.xet_records.specs.FileRow.{FitsSegment, segment_row}
use Rattle.xet_records.specs.XorbRow.{FitsChunk, chunk_row}

-- bytes begin with so many rows
pub record BeginsWithRows {T : Type 0} (row_bytes : T → List ℕ) (Fits : T → Type 0) (bytes : List ℕ)
    (count : ℕ) (rows : List T) : Type 0 where
  pub rest : List ℕ
  pub fit : All Fits rows
  pub count_is : length rows ≡ count
  pub bytes_are : bytes ≡ flat_map row_bytes rows ++ rest

-- the rows are segments
abbrev pub BeginsWithSegments : List ℕ → ℕ → List FileDataSequenceEntry → Type 0
BeginsWithSegments = BeginsWithRows segment_row FitsSegment

-- the rows are chunks
abbrev pub BeginsWithChunks : List ℕ → ℕ → List XorbChunkSequenceEntry → Type 0
BeginsWithChunks = BeginsWithRows chunk_row FitsChunk
