-- Lookups in parts of a shard, and the rows of a chunk table, as they are shown.
use Rattle.std.specs.Prelude.{◌≡◌, ◌⊎◌, ℕ, ◌<◌, ◌≤◌, ◌%◌, List, length, map, AllPairs, All, Option, Some, IfOk, MatchResult, min}
use Rattle.std.specs.FinMap.{values}
use Rattle.xet_core_structures.specs.declared.error.CoreError.{CoreError}
use Rattle.xet_core_structures.specs.declared.error.CoreError.TheVariants.{OutOfMemory}
use Rattle.xet_core_structures.specs.declared.file_structs.MDBFileInfo.{MDBFileInfo}
use Rattle.xet_core_structures.specs.declared.shard_format.MDBShardInfo.{MDBShardInfo}
use Rattle.xet_core_structures.specs.declared.xorb_structs.MDBXorbInfo.{MDBXorbInfo}
use Rattle.xet_core_structures.specs.Ends.{HasHeaderAndFooter}
use Rattle.xet_core_structures.specs.Errors.{CoreResult}
use Rattle.xet_core_structures.specs.FileRecord.{file_record_bytes, file_records}
use Rattle.xet_core_structures.specs.Lookup.{AreHits, HasAt, IsRowAndIndex, row_at}
use Rattle.xet_core_structures.specs.Shard.{Shard}
use Rattle.xet_core_structures.specs.WrittenShard.{IsBytesOf, IsBytesWithInfo}
use Rattle.xet_core_structures.specs.Table.{Hit, IsHit, OtherRow, IsSorted, hits}
use Rattle.xet_core_structures.specs.XorbRecord.{xorb_record_bytes, xorb_records}
use Rattle.shard_bytes.specs.Section.{StartsAt}
use Rattle.shard_bytes.specs.ChunkRows.{HasChunkRows, RefusesChunkRows, ListsChunks}
use Rattle.shard_bytes.specs.PartLookups.{table_of, ArePlacesAmong, HasFileIn, RefusesFileIn, HasXorbIn, RefusesXorbIn}
use Rattle.shard_bytes.specs.Walking.{HasFileAt, HasXorbAt}
use Rattle.xet_c.specs.declared.chunk_rows.XetChunkRow.{XetChunkRow}
use Rattle.xet_c.specs.declared.part_lookups.XetChunkPlace.{XetChunkPlace}

-- the starts of records, fewer than eight, that a table has under a word: those of different rows of
-- the table, and, where it is sorted, of all rows with the word
pub record AreRowsWith (table : List ℕ) (word : ℕ) (rows : List ℕ) : Type 0 where
  pub whole : length table % 12 ≡ 0
  pub found : List (Hit ℕ)
  pub few : length found < 8
  pub are_hits : AreHits (table_of table 4) word found
  pub shown : rows ≡ map (λ hit. hit.value) found

-- a place of a chunk
abbrev pub c_chunk_place : ℕ × ℕ → XetChunkPlace
c_chunk_place place = record { row = place.0; index = place.1 }

-- the places that a chunk table has under a word: those of different rows of the table, and, where
-- it is sorted, of all rows with the word, or of eight if there are more
pub record ArePlacesWith (table : List ℕ) (word : ℕ) (places : List XetChunkPlace) : Type 0 where
  pub whole : length table % 16 ≡ 0
  pub found : List (Hit (ℕ × ℕ))
  pub each : All (IsHit (table_of table 8) word IsRowAndIndex) found
  pub distinct : AllPairs OtherRow found
  pub all : IsSorted (table_of table 8) → length found ≡ min (hits (table_of table 8) word) 8
  pub shown : places ≡ map c_chunk_place (map (λ hit. hit.value) found)

-- the places of chunks whose hashes have this first word, as they are shown
abbrev pub AreChunksWith : List MDBXorbInfo → ℕ → List XetChunkPlace → Type 0
AreChunksWith xorbs word places =
    (found : List (ℕ × ℕ)) × ArePlacesAmong xorbs word found × (places ≡ map c_chunk_place found)

-- a row of a chunk table
abbrev pub c_chunk_row : ℕ × (ℕ × ℕ) → XetChunkRow
c_chunk_row row = record { word = row.0; row = row.1.0; index = row.1.1 }

-- the rows of the chunk table, or those that it would have
abbrev pub AreChunkRows : List ℕ → List XetChunkRow → Type 0
AreChunkRows bytes rows =
    (found : List (ℕ × (ℕ × ℕ))) × HasChunkRows bytes found × ListsChunks bytes found
    × (rows ≡ map c_chunk_row found)

-- why there are no rows: an allocation failed, or another cause, which the bytes of a shard never
-- have
abbrev pub RefusesRowsOf : List ℕ → CoreError → Type 0
RefusesRowsOf bytes e =
    (e ≡ OutOfMemory)
    ⊎ (RefusesChunkRows bytes e × ((s : Shard) → IsBytesOf s bytes → e ≡ OutOfMemory))

-- what was read at the front of bytes as a file: what they have there, or why it was not
pub record IsFileIn (version : ℕ) (bytes : List ℕ) (found : CoreResult (Option MDBFileInfo))
    : Type 0 where
  pub any_bytes : MatchResult found (HasFileIn version bytes) (RefusesFileIn version bytes)
  -- of bytes that a shard has from a row on, it is the file at this row
  pub in_shard : (shard : List ℕ) → (info : MDBShardInfo) → (row : ℕ)
      → HasHeaderAndFooter shard info → info.header.version ≡ version
      → HasAt shard (row_at info.metadata.file_info_offset row) bytes
      → IfOk found (HasFileAt shard row)
  -- a shard's file is read where it starts, if the bytes reach as far as its record
  pub written : (s : Shard) → (shard : List ℕ) → (info : MDBShardInfo) → (row : ℕ)
      → (file : MDBFileInfo) → IsBytesWithInfo s shard info → info.header.version ≡ version
      → StartsAt file_records (values s.files) row file
      → HasAt shard (row_at info.metadata.file_info_offset row) bytes
      → length (file_record_bytes file) ≤ length bytes
      → MatchResult found (λ read. read ≡ Some file) (λ e. e ≡ OutOfMemory)

-- what was read at the front of bytes as a xorb: what they have there, or why it was not
pub record IsXorbIn (bytes : List ℕ) (found : CoreResult (Option MDBXorbInfo)) : Type 0 where
  pub any_bytes : MatchResult found (HasXorbIn bytes) (RefusesXorbIn bytes)
  -- of bytes that a shard has from a row on, it is the xorb at this row
  pub in_shard : (shard : List ℕ) → (info : MDBShardInfo) → (row : ℕ)
      → HasHeaderAndFooter shard info → HasAt shard (row_at info.metadata.xorb_info_offset row) bytes
      → IfOk found (HasXorbAt shard row)
  -- a shard's xorb is read where it starts, if the bytes reach as far as its record
  pub written : (s : Shard) → (shard : List ℕ) → (info : MDBShardInfo) → (row : ℕ)
      → (xorb : MDBXorbInfo) → IsBytesWithInfo s shard info
      → StartsAt xorb_records (values s.xorbs) row xorb
      → HasAt shard (row_at info.metadata.xorb_info_offset row) bytes
      → length (xorb_record_bytes xorb) ≤ length bytes
      → MatchResult found (λ read. read ≡ Some xorb) (λ e. e ≡ OutOfMemory)
