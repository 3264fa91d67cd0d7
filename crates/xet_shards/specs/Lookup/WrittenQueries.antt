-- Queries for runs of chunks in the bytes of xorbs that are written.
use Rattle.std.specs.Prelude.{◌≡◌, ◌≢◌, ◌⊎◌, ◌==◌, ◌&&◌, not, Bool, ℕ, ◌+◌, ◌*◌, ◌<◌, ◌≤◌, List, [], ◌∷◌, length, filter, flat_map, All, Contains, Option, Some, None}
use Rattle.xet_base.specs.declared.error.CoreError.{CoreError}
use Rattle.xet_base.specs.declared.error.CoreError.TheVariants.{InvalidArguments}
use Rattle.xet_base.specs.declared.merklehash.DataHash.{DataHash}
use Rattle.xet_base.specs.Hash.{hash_eq}
use Rattle.xet_base.specs.KeyedHash.{under_key}
use Rattle.xet_base.specs.Source.{Source, DeviceFailure}
use Rattle.xet_records.specs.declared.xorb_structs.MDBXorbInfo.{MDBXorbInfo}
use Rattle.xet_records.specs.declared.xorb_structs.XorbChunkSequenceEntry.{XorbChunkSequenceEntry}
use Rattle.xet_records.specs.XorbRecord.{xorb_record_bytes}
use Rattle.xet_shards.specs.ShardInMemory.ChunkLookup.{ChunkLocation, chunk_hash_at}
use Rattle.xet_shards.specs.ShardInMemory.ChunkQuery.{Run, run_at, some_run_at}
use Rattle.xet_shards.specs.Lookup.WrittenChunks.{ChunkSearchCosts}

-- a query at a chunk of a xorb: the run there, if it has a chunk; none without hashes, whatever the
-- index
abbrev pub RunInXorb : DataHash → List DataHash → MDBXorbInfo → ℕ → Option Run → Type 0
RunInXorb key qs xorb index answer =
    (answer ≡ some_run_at key (xorb, index) qs) × ((qs ≡ []) ⊎ (index < length xorb.chunks))

-- a query at a chunk of a xorb is refused, which needs a hash: the device failed, or the xorb has
-- no chunk at the index
abbrev pub QueryFailsInXorb : List DataHash → MDBXorbInfo → ℕ → Source → Source → CoreError → Type 0
QueryFailsInXorb qs xorb index old new e =
    (qs ≢ [])
    × (DeviceFailure old new e ⊎ ((e ≡ InvalidArguments) × (length xorb.chunks ≤ index)))

-- a location in one of some xorbs, where the chunk has this hash
pub record HasChunkAt (xorbs : List MDBXorbInfo) (hash : DataHash) (p : ChunkLocation)
    : Type 0 where
  pub xorb : Contains xorbs p.0
  pub chunk : chunk_hash_at p ≡ Some hash

-- all chunks of some xorbs
abbrev pub all_chunks : List MDBXorbInfo → List XorbChunkSequenceEntry
all_chunks xorbs = flat_map (λ x. x.chunks) xorbs

-- whether a chunk shares the first word of a hash but has another hash
abbrev pub is_other : DataHash → XorbChunkSequenceEntry → Bool
is_other hash chunk = (chunk.chunk_hash.word0 == hash.word0) && not (hash_eq hash chunk.chunk_hash)

-- the chunks of some xorbs that share the first word of a hash but have another hash
abbrev pub others_with_first_word : DataHash → List MDBXorbInfo → List XorbChunkSequenceEntry
others_with_first_word hash xorbs = filter (is_other hash) (all_chunks xorbs)

-- a query by the chunk table: the run at a chunk with the first hash; none without hashes, if no
-- chunk has the first, or if eight others share its first word
abbrev pub RunAmong : DataHash → List DataHash → List MDBXorbInfo → Option Run → Type 0
RunAmong key [] xorbs answer = answer ≡ None
RunAmong key (q ∷ qs) xorbs (Some run) =
    (p : ChunkLocation) × HasChunkAt xorbs (under_key key q) p × (run ≡ run_at key p (q ∷ qs))
RunAmong key (q ∷ qs) xorbs None =
    ((p : ChunkLocation) → ¬ HasChunkAt xorbs (under_key key q) p)
    ⊎ (8 ≤ length (others_with_first_word (under_key key q) xorbs))

-- what a query by the chunk table costs: the search, and then for each of at most eight xorbs two
-- seeks and the bytes of the xorb
pub record TriesCost (xorbs : List MDBXorbInfo) (word : ℕ) (old new : Source) : Type 0 where
  -- the source after the search
  pub searched : Source
  pub search : ChunkSearchCosts xorbs word old searched
  -- the xorbs that were tried
  pub tried : List MDBXorbInfo
  pub few : length tried ≤ 8
  pub among : All (Contains xorbs) tried
  -- at most two seeks for each of them
  pub seeks : new.seeks ≤ searched.seeks + 2 * length tried
  -- at most the bytes of their records
  pub read : new.read ≤ searched.read + length (flat_map xorb_record_bytes tried)

-- what a query costs: nothing without hashes, else the search for the first one and what is tried
-- after it
abbrev pub QueryCosts : DataHash → List DataHash → List MDBXorbInfo → Source → Source → Type 0
QueryCosts key [] xorbs old new = new ≡ old
QueryCosts key (q ∷ qs) xorbs old new = TriesCost xorbs (under_key key q).word0 old new
