-- The chunk query: the longest run of hashes in a xorb that begins at the location which the lookup
-- has for the first hash.
use Rattle.std.specs.Prelude.{◌≡◌, ◌==◌, ℕ, ◌+◌, List, [], ◌∷◌, drop, take, Option, None, Some, option_map, slice_get, if◌then◌else◌}
use Rattle.std.specs.List.{common_prefix_len}
use Rattle.std.specs.FinMap.{get}
use Rattle.xet_base.specs.declared.merklehash.DataHash.{DataHash}
use Rattle.xet_base.specs.Hash.{hash_eq}
use Rattle.xet_base.specs.KeyedHash.{no_key, under_key}
use Rattle.xet_records.specs.declared.file_structs.rows.FileDataSequenceEntry.{FileDataSequenceEntry}
use Rattle.xet_records.specs.declared.xorb_structs.XorbChunkSequenceEntry.{XorbChunkSequenceEntry}
use Rattle.xet_records.specs.XorbRecord.{segment_of}
use Rattle.xet_shards.specs.ShardInMemory.ChunkLookup.{ChunkLocation, LocationMap, IsLocation}
use Rattle.xet_shards.specs.Content.Shard.{XorbMap}

-- a run: its number of chunks, and their segment
abbrev pub Run : Type 0
Run = ℕ × FileDataSequenceEntry

-- how many of these hashes, from the first on, equal the hashes of these chunks under a key, one by
-- one
abbrev pub run_length : DataHash → List DataHash → List XorbChunkSequenceEntry → ℕ
run_length key qs cs = common_prefix_len (λ q c. hash_eq (under_key key q) c.chunk_hash) qs cs

-- the run at a location
abbrev pub run_at : DataHash → ChunkLocation → List DataHash → Run
run_at key p qs =
    let n = run_length key qs (drop p.1 p.0.chunks) in
    (n, segment_of p.0.metadata (take n (drop p.1 p.0.chunks)) p.1 (p.1 + n))

-- the run at a location if it has a chunk
abbrev pub some_run_at : DataHash → ChunkLocation → List DataHash → Option Run
some_run_at key p qs =
    if run_length key qs (drop p.1 p.0.chunks) == 0 then None else Some (run_at key p qs)

-- the run, without a key, at the location that the lookup keeps for the first hash, if it has one
abbrev pub query_answer : LocationMap → List DataHash → Option Run
query_answer locations [] = None
query_answer locations (q ∷ qs) = option_map (λ p. run_at no_key p (q ∷ qs)) (get locations q)

-- no xorb has a chunk with the first of these hashes, or there are no hashes
abbrev pub HasNoChunk : XorbMap → List DataHash → Type 0
HasNoChunk xorbs qs =
    (q : DataHash) → (p : ChunkLocation) → slice_get qs 0 ≡ Some q → ¬ IsLocation xorbs q p
