-- The chunks of a shard's xorbs, and the lookup that keeps a location for each chunk hash.
use Rattle.std.specs.Prelude.{◌≡◌, ℕ, Option, Some, IsSome, option_map, slice_get, refl}
use Rattle.std.specs.FinMap.{FinMap, get}
use Rattle.std.specs.FinMap as finite
use Rattle.std.specs.Coded.{Coded, code_by, coded×, coded_ℕ}
use Rattle.xet_base.specs.declared.merklehash.DataHash.{DataHash}
use Rattle.xet_base.specs.contracts.merklehash.DataHash as hash
use Rattle.xet_base.specs.Hash.{hash_cmp}
use Rattle.xet_records.specs.declared.xorb_structs.MDBXorbInfo.{MDBXorbInfo}
use Rattle.xet_records.specs.contracts.xorb_structs.MDBXorbInfo as xorb
use Rattle.xet_shards.specs.Content.Shard.{XorbMap, xorb_hash_of, Shard, coded_shard}

-- the location of a chunk: a xorb, and the chunk's index in it
abbrev pub ChunkLocation : Type 0
ChunkLocation = MDBXorbInfo × ℕ

-- a finite map from chunk hashes to locations
abbrev pub LocationMap : Type 0
LocationMap = FinMap hash_cmp ChunkLocation

-- the encoding by which proofs distinguish chunk lookups
abbrev pub coded_locations : Coded LocationMap
coded_locations = finite.code hash.the_row.coded (coded× xorb.the_row.coded coded_ℕ)

-- a shard, and its chunk lookup
pub record ShardWithLookup : Type 0 where
  pub content : Shard
  pub locations : LocationMap

-- the encoding by which proofs distinguish shards with their chunk lookup
abbrev pub coded_shard_with_lookup : Coded ShardWithLookup
coded_shard_with_lookup =
    code_by (Shard × LocationMap) (coded× coded_shard coded_locations)
    (λ s. (s.content, s.locations)) (λ p. record { content = p.0; locations = p.1 }) (λ _. refl)

-- the hash of the chunk at a location, if there is one
abbrev pub chunk_hash_at : ChunkLocation → Option DataHash
chunk_hash_at p = option_map (λ c. c.chunk_hash) (slice_get p.0.chunks p.1)

-- a location in one of these xorbs, whose chunk has this hash
pub record IsLocation (xorbs : XorbMap) (q : DataHash) (p : ChunkLocation) : Type 0 where
  pub xorb : get xorbs (xorb_hash_of p.0) ≡ Some p.0
  pub chunk : chunk_hash_at p ≡ Some q

-- the lookup has exactly the chunk hashes of the xorbs, and for each a location of such a chunk
pub record IsChunkLookup (xorbs : XorbMap) (locations : DataHash → Option ChunkLocation)
    : Type 0 where
  pub present : (q : DataHash) → (p : ChunkLocation) → locations q ≡ Some p → IsLocation xorbs q p
  pub complete : (q : DataHash) → (p : ChunkLocation) → IsLocation xorbs q p → IsSome (locations q)
