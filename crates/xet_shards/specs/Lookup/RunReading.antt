-- A run in the bytes of a xorb: what reading it from a source returns, why it fails, and what a
-- chunk query makes of it.
use Rattle.std.specs.Prelude.{◌≡◌, ◌≢◌, ◌⊎◌, ℕ, ◌+◌, ◌-◌, ◌^◌, ◌<◌, ◌≤◌, min, List, [], ◌∷◌, ◌++◌, length, take, drop, map, flat_map, All, AllPairs, Contains, Option, None, Some, MatchResult}
use Rattle.xet_base.specs.declared.error.CoreError.{CoreError}
use Rattle.xet_base.specs.declared.merklehash.DataHash.{DataHash}
use Rattle.xet_base.specs.Errors.{CoreResult, IsEndOfInput, IsBareInvalidShard}
use Rattle.xet_base.specs.KeyedHash.{under_key}
use Rattle.xet_base.specs.Source.{Source, DeviceFailure, NoFailure}
use Rattle.xet_base.specs.Search.Table.{Hit, IsHit, OtherRow, IsSorted, hits, FitsTable, SearchIsBounded, SearchRefused}
use Rattle.xet_records.specs.declared.xorb_structs.XorbChunkSequenceEntry.{XorbChunkSequenceEntry}
use Rattle.xet_records.specs.declared.xorb_structs.XorbChunkSequenceHeader.{XorbChunkSequenceHeader}
use Rattle.xet_records.specs.Reading.{BeginsWithHeader}
use Rattle.xet_records.specs.XorbRow.{chunk_row, FitsChunk}
use Rattle.xet_records.specs.XorbRecord.{xorb_records, total_bytes, default_segment, segment_of}
use Rattle.xet_shards.specs.declared.shard_format.ends.footer.MDBShardFileFooter.{MDBShardFileFooter}
use Rattle.xet_shards.specs.ShardInMemory.ChunkQuery.{Run, run_length}
use Rattle.xet_shards.specs.Lookup.Lookup.{row_at, chunk_lookup_table, IsRowAndIndex, VisitsSome}
use Rattle.xet_shards.specs.Read.SectionReading.{BeginsWithBookend}

-- chunks in front of some bytes, no more than are left of their xorb
pub record HasChunks (left : ℕ) (bytes : List ℕ) (chunks : List XorbChunkSequenceEntry)
    (rest : List ℕ) : Type 0 where
  pub fit : All FitsChunk chunks
  pub few : length chunks ≤ left
  pub bytes_are : bytes ≡ flat_map chunk_row chunks ++ rest

-- they decide how long the run is: it ends before they do, or they are as many as the hashes, or
-- all that are left
abbrev pub DetermineRun : DataHash → List DataHash → ℕ → List XorbChunkSequenceEntry → Type 0
DetermineRun key qs left chunks =
    (run_length key qs chunks < length chunks) ⊎ (length chunks ≡ length qs)
    ⊎ (length chunks ≡ left)

-- a query at a location: for the run of these hashes, under a key, that begins at the chunk with an
-- index in the xorb at a row of the section at an offset
pub record QueryAt : Type 0 where
  pub key : DataHash
  pub hashes : List DataHash
  pub section : ℕ
  pub row : ℕ
  pub index : ℕ

-- the query at a row and an index by a footer
abbrev pub query_at : MDBShardFileFooter → List DataHash → ℕ × ℕ → QueryAt
query_at footer hashes location = record {
  key = footer.chunk_hash_hmac_key;
  hashes = hashes;
  section = footer.xorb_info_offset;
  row = location.0;
  index = location.1;
}

-- the offset of the xorb of a query
abbrev pub xorb_offset : QueryAt → ℕ
xorb_offset q = row_at q.section q.row

-- the offset of the row of the chunk of a query
abbrev pub chunk_offset : QueryAt → ℕ
chunk_offset q = row_at q.section (q.row + 1 + q.index)

-- the bytes from the xorb of a query on
abbrev pub xorb_at : QueryAt → List ℕ → List ℕ
xorb_at q bytes = drop (xorb_offset q) bytes

-- the bytes from the row of the chunk of a query on
abbrev pub chunks_at : QueryAt → List ℕ → List ℕ
chunks_at q bytes = drop (chunk_offset q) bytes

-- how many chunks of a xorb with this header are left from the chunk on
abbrev pub chunks_left : QueryAt → XorbChunkSequenceHeader → ℕ
chunks_left q header = header.num_entries - q.index

-- the run in a xorb with this header
pub record IsRun (q : QueryAt) (header : XorbChunkSequenceHeader) (bytes : List ℕ)
    (run : Run) : Type 0 where
  -- the xorb has a chunk at the index
  pub within : q.index < header.num_entries
  -- the chunks from the index on that decide the run
  pub chunks : List XorbChunkSequenceEntry
  -- the bytes after them
  pub rest : List ℕ
  pub there : HasChunks (chunks_left q header) (chunks_at q bytes) chunks rest
  pub decide : DetermineRun q.key q.hashes (chunks_left q header) chunks
  -- the number of chunks of the run
  pub count : run.0 ≡ run_length q.key q.hashes chunks
  -- their segment
  pub segment : run.1 ≡ segment_of header (take run.0 chunks) q.index (q.index + run.0)

-- the run if it has a chunk, none if it has not
abbrev pub FoundRun : QueryAt → XorbChunkSequenceHeader → List ℕ → Option Run → Type 0
FoundRun q header bytes (Some run) = (0 < run.0) × IsRun q header bytes run
FoundRun q header bytes None = IsRun q header bytes (0, default_segment)

-- chunks that have the hashes, one by one, and more bytes than fit `u32`
abbrev pub RunExceeds : DataHash → List DataHash → ℕ → List ℕ → Type 0
RunExceeds key qs left bytes =
    (chunks : List XorbChunkSequenceEntry) × (rest : List ℕ) × HasChunks left bytes chunks rest
    × (run_length key qs chunks ≡ length chunks) × (2 ^ 32 ≤ total_bytes chunks)

-- chunks that have the hashes, one by one, whose bytes fit `u32`, after which there are more hashes
-- and should be more chunks, but not the bytes of one
abbrev pub RunIsTruncated : DataHash → List DataHash → ℕ → List ℕ → Type 0
RunIsTruncated key qs left bytes =
    (chunks : List XorbChunkSequenceEntry) × (rest : List ℕ) × HasChunks left bytes chunks rest
    × (run_length key qs chunks ≡ length chunks) × (total_bytes chunks < 2 ^ 32)
    × (length chunks < length qs) × (length chunks < left) × (length rest < 48)

-- a xorb's header is at the row, and it announces a chunk at the index
pub record AnnouncesChunk (q : QueryAt) (bytes : List ℕ) (header : XorbChunkSequenceHeader)
    : Type 0 where
  pub rest : List ℕ
  pub begins : BeginsWithHeader xorb_records (xorb_at q bytes) header rest
  pub within : q.index < header.num_entries

-- there is a bookend at the row, or a xorb's header that announces no chunk at the index
abbrev pub AnnouncesNoChunk : QueryAt → List ℕ → Type 0
AnnouncesNoChunk q bytes =
    BeginsWithBookend xorb_records (xorb_at q bytes)
    ⊎ ((header : XorbChunkSequenceHeader) × (rest : List ℕ)
    × BeginsWithHeader xorb_records (xorb_at q bytes) header rest
    × (header.num_entries ≤ q.index))

-- the offset of the xorb or of the chunk passes 64 bits, or the bytes of the run pass 32
abbrev pub ExceedsAt : QueryAt → List ℕ → Type 0
ExceedsAt q bytes =
    (2 ^ 64 ≤ xorb_offset q)
    ⊎ ((header : XorbChunkSequenceHeader) × AnnouncesChunk q bytes header
    × ((2 ^ 64 ≤ chunk_offset q)
    ⊎ RunExceeds q.key q.hashes (chunks_left q header) (chunks_at q bytes)))

-- the offset of the xorb or of the chunk fits 64 bits, and the bytes end before the header does, or
-- before a chunk that has to be read
abbrev pub IsTruncatedAt : QueryAt → List ℕ → Type 0
IsTruncatedAt q bytes =
    ((xorb_offset q < 2 ^ 64) × (length (xorb_at q bytes) < 48))
    ⊎ ((header : XorbChunkSequenceHeader) × AnnouncesChunk q bytes header
    × (chunk_offset q < 2 ^ 64)
    × RunIsTruncated q.key q.hashes (chunks_left q header) (chunks_at q bytes))

-- the answer: none without hashes, else the run there
abbrev pub AnswerAt : QueryAt → List ℕ → Option Run → Type 0
AnswerAt q bytes answer =
    ((q.hashes ≡ []) × (answer ≡ None))
    ⊎ ((q.hashes ≢ []) × (header : XorbChunkSequenceHeader) × AnnouncesChunk q bytes header
    × FoundRun q header bytes answer)

-- why there is none: the device failed, a number is out of range, there is no such chunk, for which
-- the error is `Absent`, or the bytes end
abbrev pub RefusalAt : (CoreError → Type 0) → QueryAt → Source → Source → CoreError → Type 0
RefusalAt Absent q old new e =
    DeviceFailure old new e
    ⊎ ((new.failures ≡ old.failures) × IsBareInvalidShard e × ExceedsAt q old.bytes)
    ⊎ ((new.failures ≡ old.failures) × Absent e × AnnouncesNoChunk q old.bytes)
    ⊎ ((new.failures ≡ old.failures) × IsEndOfInput e × IsTruncatedAt q old.bytes)

-- there is none: there are hashes, and one of these causes
abbrev pub RefusedAt : (CoreError → Type 0) → QueryAt → Source → Source → CoreError → Type 0
RefusedAt Absent q old new e = (q.hashes ≢ []) × RefusalAt Absent q old new e

-- the first word of a hash under a footer's key, by which the chunk table is searched
abbrev pub keyed_word : MDBShardFileFooter → DataHash → ℕ
keyed_word footer hash = (under_key footer.chunk_hash_hmac_key hash).word0

-- a search for a hash in the chunk table: the table fits 64 bits, rows with the word are found,
-- eight at most, and the first few of their locations were tried
pub record Queries (footer : MDBShardFileFooter) (hash : DataHash) (old new : Source)
    (Answer : List (ℕ × ℕ) → Type 0) : Type 0 where
  pub fits : FitsTable (chunk_lookup_table footer old)
  -- rows of the chunk table with the word, and their locations
  pub found : List (Hit (ℕ × ℕ))
  pub few : length found ≤ 8
  pub each : All (IsHit (chunk_lookup_table footer old) (keyed_word footer hash) IsRowAndIndex) found
  pub distinct : AllPairs OtherRow found
  -- they are all such rows, or eight if they are more, where the table is sorted
  pub all : IsSorted (chunk_lookup_table footer old)
      → length found ≡ min (hits (chunk_lookup_table footer old) (keyed_word footer hash)) 8
  -- the source after the search
  pub searched : Source
  -- the device did not fail in the search
  pub no_failure : NoFailure old searched
  -- seeks and bytes of the search are bounded where the table is sorted
  pub bounded : IsSorted (chunk_lookup_table footer old)
      → SearchIsBounded (chunk_lookup_table footer old) (keyed_word footer hash) old searched
  -- calls went to the xorbs of the first few locations, by two seeks each at most, and read at most
  -- the records there
  pub visits : VisitsSome xorb_records 2 footer.xorb_info_offset
      (map (λ hit. hit.value.0) found) searched new
  -- what the query says of the locations found
  pub answer : Answer (map (λ hit. hit.value) found)

-- queries at some locations: the answer at one of them, or none at any
abbrev pub TriedAnswer : MDBShardFileFooter → List DataHash → List ℕ
    → Option Run → List (ℕ × ℕ) → Type 0
TriedAnswer footer hashes bytes (Some run) locations =
    (location : ℕ × ℕ) × Contains locations location
    × AnswerAt (query_at footer hashes location) bytes (Some run)
TriedAnswer footer hashes bytes None locations =
    All (λ location. AnswerAt (query_at footer hashes location) bytes None) locations

-- queries at some locations: why there is no answer at one of them
abbrev pub TriedRefused : MDBShardFileFooter → List DataHash → Source → Source → CoreError
    → List (ℕ × ℕ) → Type 0
TriedRefused footer hashes old new e locations =
    (location : ℕ × ℕ) × Contains locations location
    × RefusedAt IsBareInvalidShard (query_at footer hashes location) old new e

-- the answer to a query: none without hashes or without rows of the chunk table, which it then does
-- not search
abbrev pub QueryAnswer : MDBShardFileFooter → List DataHash → Source → Source → Option Run → Type 0
QueryAnswer footer [] old new answer = (answer ≡ None) × (new ≡ old)
QueryAnswer footer (q ∷ qs) old new answer =
    ((footer.chunk_lookup_num_entry ≡ 0) × (answer ≡ None) × (new ≡ old))
    ⊎ ((footer.chunk_lookup_num_entry ≢ 0)
    × Queries footer q old new (TriedAnswer footer (q ∷ qs) old.bytes answer))

-- it has none, which needs a hash and a row: the search was refused, or the location of a row that
-- it found
abbrev pub QueryRefused : MDBShardFileFooter → List DataHash → Source → Source → CoreError → Type 0
QueryRefused footer [] old new e = ⊥
QueryRefused footer (q ∷ qs) old new e =
    (footer.chunk_lookup_num_entry ≢ 0)
    × ((SearchRefused (chunk_lookup_table footer old) old new e
    × (IsSorted (chunk_lookup_table footer old)
    → SearchIsBounded (chunk_lookup_table footer old) (keyed_word footer q) old new))
    ⊎ Queries footer q old new (TriedRefused footer (q ∷ qs) old new e))

-- the outcome of a query
abbrev pub QueryOutcome : MDBShardFileFooter → List DataHash → Source → Source
    → CoreResult (Option Run) → Type 0
QueryOutcome footer hashes old new result =
    MatchResult result (QueryAnswer footer hashes old new) (QueryRefused footer hashes old new)
