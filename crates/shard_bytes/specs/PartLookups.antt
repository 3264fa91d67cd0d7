-- Lookups in parts of a shard: in the bytes of a table, and of a record at the front of some bytes.
use Rattle.std.specs.Prelude.{◌≡◌, ◌≢◌, ◌⊎◌, ℕ, ◌+◌, ◌/◌, ◌%◌, ◌<◌, ◌≤◌, List, ◌++◌, length, map, take, drop, min, All, AllPairs, Contains, Option}
use Rattle.xet_core_structures.specs.declared.error.CoreError.{CoreError}
use Rattle.xet_core_structures.specs.declared.error.CoreError.TheVariants.{InvalidArguments, TruncatedHashCollision}
use Rattle.xet_core_structures.specs.declared.file_structs.MDBFileInfo.{MDBFileInfo}
use Rattle.xet_core_structures.specs.declared.xorb_structs.MDBXorbInfo.{MDBXorbInfo}
use Rattle.xet_core_structures.specs.Ends.{last_bytes}
use Rattle.xet_core_structures.specs.FileRecord.{file_records_in}
use Rattle.xet_core_structures.specs.Lookup.{AreStarts, Collides, IndexFinds, IsRowAndIndex, with_first_word}
use Rattle.xet_core_structures.specs.Table.{Table, Finds, IsSorted, hits}
use Rattle.xet_core_structures.specs.Version.{IsVersion, number_of}
use Rattle.xet_core_structures.specs.XorbRecord.{xorb_records}
use Rattle.xet_records.specs.declared.record_reader.FormatVersion.{FormatVersion}
use Rattle.xet_records.specs.RecordKind.{RecordKind}
use Rattle.xet_shards.specs.Lookup.WrittenChunks.{OtherTableRow, rows_with_word}
use Rattle.xet_shards.specs.declared.shard_format.write.xorb_writer.ChunkTableRow.{ChunkTableRow}
use Rattle.xet_shards.specs.Write.Tables.{chunk_table}
use Rattle.shard_bytes.specs.Walking.{IsAtRow, NotAtRow}

-- the two ends of a shard: its first 48 and its last 200 bytes
abbrev pub ends_of : List ℕ → List ℕ
ends_of bytes = take 48 bytes ++ last_bytes bytes

-- part of a shard: this many bytes from an offset on
pub record IsCut (shard : List ℕ) (start count : ℕ) (part : List ℕ) : Type 0 where
  pub rest : List ℕ
  pub there : drop start shard ≡ part ++ rest
  pub size : length part ≡ count

-- the table whose rows are these bytes; each row has a first word, and a value of `width` bytes
abbrev pub table_of : List ℕ → ℕ → Table
table_of bytes width =
    record { bytes = bytes; start = 0; rows = length bytes / (8 + width); width = width }

-- the bytes are the whole rows of a table of starts, and the row numbers behind the word, fewer
-- than eight, were put in front
pub record FindsRowsIn (bytes : List ℕ) (word : ℕ) (old new : List ℕ) (count : ℕ) : Type 0 where
  pub whole : length bytes % 12 ≡ 0
  pub finds : IndexFinds (table_of bytes 4) word old new count

-- why no rows of a file table or a xorb table are returned: its size is no multiple of 12 bytes, or
-- eight or more of its rows have the word
abbrev pub RefusesTableRows : List ℕ → ℕ → CoreError → Type 0
RefusesTableRows bytes word e =
    ((e ≡ InvalidArguments) × (length bytes % 12 ≢ 0))
    ⊎ ((e ≡ TruncatedHashCollision word) × Collides (table_of bytes 4) word)

-- why the starts of records with a word are not returned: eight or more have it
abbrev pub CollidesAmong : {H R : Type 0} → RecordKind H R → List R → ℕ → CoreError → Type 0
CollidesAmong K records word e =
    (e ≡ TruncatedHashCollision word) × (8 ≤ length (with_first_word K word records))

-- the bytes are the whole rows of a chunk table, and the places of different rows with the word
-- were put in front: of all such rows, or of eight if they are more, where the table is sorted
pub record FindsPlaces (bytes : List ℕ) (word : ℕ) (old new : List (ℕ × ℕ)) (count : ℕ)
    : Type 0 where
  pub whole : length bytes % 16 ≡ 0
  pub found : Finds (table_of bytes 8) word IsRowAndIndex old new count
  pub all : IsSorted (table_of bytes 8) → count ≡ min (hits (table_of bytes 8) word) 8

-- why no rows of a chunk table are returned: its size is no multiple of 16 bytes
abbrev pub RefusesPlaces : List ℕ → CoreError → Type 0
RefusesPlaces bytes e = (e ≡ InvalidArguments) × (length bytes % 16 ≢ 0)

-- the rows at which the records with this first word of a hash start, fewer than eight
pub record AreStartsWith {H R : Type 0} (K : RecordKind H R) (records : List R) (word : ℕ) (rows : List ℕ)
    : Type 0 where
  pub few : length rows < 8
  pub number : length rows ≡ length (with_first_word K word records)
  pub are_starts : AreStarts K records word rows

-- the places of different chunks of xorbs with this first word of a hash: of all such chunks, or of
-- eight if there are more
pub record ArePlacesAmong (xorbs : List MDBXorbInfo) (word : ℕ) (places : List (ℕ × ℕ)) : Type 0 where
  pub found : List ChunkTableRow
  pub all : length found ≡ min (length (rows_with_word word xorbs)) 8
  pub each : All (λ p. Contains (chunk_table xorbs) p × (p.word ≡ word)) found
  pub distinct : AllPairs OtherTableRow found
  pub places_are : places ≡ map (λ p. (p.row, p.index)) found

-- the bytes begin with this file, in the version with this number, or with a bookend
abbrev pub HasFileIn : ℕ → List ℕ → Option MDBFileInfo → Type 0
HasFileIn number bytes found =
    (version : FormatVersion) × (number ≡ number_of version)
    × IsAtRow (file_records_in version) bytes 0 0 found

-- why no file is read at the front of bytes: the number is that of no version, or neither a record
-- nor a bookend is read
abbrev pub RefusesFileIn : ℕ → List ℕ → CoreError → Type 0
RefusesFileIn number bytes e =
    ((e ≡ InvalidArguments) × (¬ IsVersion number))
    ⊎ ((version : FormatVersion) × (number ≡ number_of version)
    × NotAtRow (file_records_in version) bytes 0 0 e)

-- the bytes begin with this xorb, or with a bookend
abbrev pub HasXorbIn : List ℕ → Option MDBXorbInfo → Type 0
HasXorbIn bytes found = IsAtRow xorb_records bytes 0 0 found

-- why no xorb is read at the front of bytes: neither a record nor the bookend is
abbrev pub RefusesXorbIn : List ℕ → CoreError → Type 0
RefusesXorbIn bytes e = NotAtRow xorb_records bytes 0 0 e
