-- Lookups in a shard of which only parts are read: rows of a table, and the records at these rows.
use Rattle.std.specs.Prelude.{◌≡◌, ◌≢◌, ◌⊎◌, ℕ, ◌+◌, ◌-◌, ◌/◌, ◌%◌, ◌<◌, ◌≤◌, List, ◌∷◌, length, take, All, Contains, Option, Some, None}
use Rattle.xet_core_structures.specs.declared.file_structs.MDBFileInfo.{MDBFileInfo}
use Rattle.xet_core_structures.specs.declared.merklehash.DataHash.{DataHash}
use Rattle.xet_core_structures.specs.declared.shard_format.MDBShardFileFooter.{MDBShardFileFooter}
use Rattle.xet_core_structures.specs.declared.xorb_structs.MDBXorbInfo.{MDBXorbInfo}
use Rattle.xet_core_structures.specs.ChunkQuery.{Run}
use Rattle.xet_core_structures.specs.Lookup.{HasAt}
use Rattle.xet_core_structures.specs.RunReading.{keyed_word}
use Rattle.xet_core_structures.specs.Shard.{file_hash_of, xorb_hash_of}
use Rattle.xet_core_structures.specs.Table.{Table, key_at, row_offset}
use Rattle.shard_bytes.specs.PartLookups.{table_of, FindsPlaces, FindsRowsIn}
use Rattle.shard_bytes.specs.Query.{AnswersQueryAt}
use Rattle.shard_bytes.specs.Walking.{HasFileAt, HasXorbAt}

-- the file table of a shard with this footer
abbrev pub file_table_in : MDBShardFileFooter → List ℕ → Table
file_table_in footer shard =
    record { bytes = shard; start = footer.file_lookup_offset; rows = footer.file_lookup_num_entry; width = 4 }

-- the xorb table of a shard with this footer
abbrev pub xorb_table_in : MDBShardFileFooter → List ℕ → Table
xorb_table_in footer shard =
    record { bytes = shard; start = footer.xorb_lookup_offset; rows = footer.xorb_lookup_num_entry; width = 4 }

-- the chunk table of a shard with this footer
abbrev pub chunk_table_in : MDBShardFileFooter → List ℕ → Table
chunk_table_in footer shard =
    record { bytes = shard; start = footer.chunk_lookup_offset; rows = footer.chunk_lookup_num_entry; width = 8 }

module _ (t : Table) (part : List ℕ) where
  -- the number of rows in a part of a table
  abbrev pub rows_in : ℕ
  rows_in = length part / (8 + t.width)

  -- the part is whole rows of the table that follow one another, after so many others
  pub record IsPart (before : ℕ) : Type 0 where
    -- the table ends in the bytes
    pub ends : row_offset t t.rows ≤ length t.bytes
    pub there : HasAt t.bytes (row_offset t before) part
    pub whole : length part % (8 + t.width) ≡ 0
    pub within : before + rows_in ≤ t.rows

  module _ (word : ℕ) where
    -- the part has all rows of the table with the word
    pub record HasRowsWith : Type 0 where
      pub before : ℕ
      pub is_part : IsPart before
      pub others : (i : ℕ) → i < t.rows → (i < before) ⊎ (before + rows_in ≤ i) → key_at t i ≢ word

    -- the part begins with the table, or with a row that has a smaller word; and it ends with the
    -- table, or with a row that has a greater one
    pub record IsAround : Type 0 where
      pub before : ℕ
      pub is_part : IsPart before
      pub low : (before ≡ 0) ⊎ ((0 < rows_in) × (key_at (table_of part t.width) 0 < word))
      pub high : (before + rows_in ≡ t.rows)
          ⊎ ((0 < rows_in) × (word < key_at (table_of part t.width) (rows_in - 1)))

-- the record with the hash at one of the rows; or none, where each of them has another record
abbrev pub AnswersAtRows : {R : Type 0} → (ℕ → Option R → Type 0) → (R → DataHash) → DataHash → List ℕ
    → Option R → Type 0
AnswersAtRows {R = R} IsAt hash_of hash rows (Some found) =
    (hash_of found ≡ hash) × (row : ℕ) × Contains rows row × IsAt row (Some found)
AnswersAtRows {R = R} IsAt hash_of hash rows None =
    All (λ row. (found : R) × IsAt row (Some found) × (hash_of found ≢ hash)) rows

-- a record is looked up in parts: by the rows with the first word of its hash in a part of the
-- table, and by the records at these rows
pub record FindsInParts {R : Type 0} (t : Table) (IsAt : ℕ → Option R → Type 0) (hash_of : R → DataHash)
    (hash : DataHash) (answer : Option R) : Type 0 where
  pub table : List ℕ
  pub has_rows : HasRowsWith t table hash.word0
  pub old : List ℕ
  pub rows : List ℕ
  pub count : ℕ
  pub found : FindsRowsIn table hash.word0 old rows count
  pub answers : AnswersAtRows IsAt hash_of hash (take count rows) answer

-- a file is looked up by `find_rows` in a part of the file table, and by `file_in` at these rows
abbrev pub FindsFileInParts : MDBShardFileFooter → List ℕ → DataHash → Option MDBFileInfo → Type 0
FindsFileInParts footer shard =
    FindsInParts (file_table_in footer shard) (HasFileAt shard) file_hash_of

-- a xorb is looked up by `find_rows` in a part of the xorb table, and by `xorb_in` at these rows
abbrev pub FindsXorbInParts : MDBShardFileFooter → List ℕ → DataHash → Option MDBXorbInfo → Type 0
FindsXorbInParts footer shard =
    FindsInParts (xorb_table_in footer shard) (HasXorbAt shard) xorb_hash_of

-- the run at one of the places; or none, where there is none at any of them
abbrev pub AnswersAtPlaces : (ℕ × ℕ → Option Run → Type 0) → List (ℕ × ℕ) → Option Run → Type 0
AnswersAtPlaces IsAt places (Some run) =
    (place : ℕ × ℕ) × Contains places place × IsAt place (Some run)
AnswersAtPlaces IsAt places None = All (λ place. IsAt place None) places

-- a run is looked for by `find_places` in a part of the chunk table, by the first word of the first
-- hash under the shard's key, and by `query_at` at these places
pub record QueriesInParts (footer : MDBShardFileFooter) (shard : List ℕ) (q : DataHash)
    (qs : List DataHash) (answer : Option Run) : Type 0 where
  pub table : List ℕ
  pub has_rows : HasRowsWith (chunk_table_in footer shard) table (keyed_word footer q)
  pub old : List (ℕ × ℕ)
  pub places : List (ℕ × ℕ)
  pub room : length places ≡ 8
  pub count : ℕ
  pub found : FindsPlaces table (keyed_word footer q) old places count
  pub answers : AnswersAtPlaces (λ place run. AnswersQueryAt shard (q ∷ qs) place.0 place.1 run)
      (take count places) answer
