-- Steps towards what `XorbStore` defines, which only contracts inside the crate speak of.
use Rattle.std.specs.Prelude.{◌≡◌, ◌⊎◌, ℕ, ◌<◌, List, map, Option, Some, IsSome, T}
use Rattle.std.specs.FinMap.{is_sorted, from_sorted, from_entries}
use Rattle.std.specs.Map.{values_of}
use Rattle.std.specs.declared.rc.Rc.{Rc}
use Rattle.xet_base.specs.declared.merklehash.DataHash.{DataHash}
use Rattle.xet_base.specs.Hash.{hash_cmp}
use Rattle.xet_records.specs.declared.xorb_structs.MDBXorbInfo.{MDBXorbInfo}
use Rattle.xet_shards.specs.declared.shard_in_memory.xorb_store.XorbStore.TheInside.{Inside}
use Rattle.xet_shards.specs.Content.Shard.{AreXorbs}
use Rattle.xet_shards.specs.ShardInMemory.ChunkLookup.{ChunkLocation, IsChunkLookup, chunk_hash_at}
use Rattle.xet_shards.specs.Steps.ChunkLookupSteps.{XorbsWithLookup}
use Rattle.xet_shards.specs.ShardInMemory.XorbStore.{location_in, shown_location, shown_xorbs}

-- the xorbs alone
abbrev pub xorbs_of : {Z : Type 0} → List (DataHash × Rc MDBXorbInfo Z) → List MDBXorbInfo
xorbs_of es = values_of (shown_xorbs es)

-- the xorbs and the chunk lookup that the fields hold
abbrev pub xorbs_inside : Inside → XorbsWithLookup
xorbs_inside t =
    record {
      xorbs = from_sorted (shown_xorbs t.content.entries);
      locations = from_entries (map (λ e. (e.0, shown_location e.1)) t.lookup.entries);
    }

-- the keys ascend, each is its record's hash, the records are well-formed, and the lookup is that
-- of the xorbs
pub record IsSoundXorbStore (t : Inside) : Type 0 where
  pub sorted : T (is_sorted hash_cmp (shown_xorbs t.content.entries))
  pub xorbs : AreXorbs (shown_xorbs t.content.entries)
  pub lookup : IsChunkLookup (from_sorted (shown_xorbs t.content.entries)) (location_in t.lookup)

-- the second lookup is the first with the first n chunks of a xorb entered
pub record IsEntered (old new : DataHash → Option ChunkLocation) (r : MDBXorbInfo) (n : ℕ)
    : Type 0 where
  pub present : (q : DataHash) → (p : ChunkLocation) → new q ≡ Some p
      → (old q ≡ Some p) ⊎ ((p.0 ≡ r) × (p.1 < n) × (chunk_hash_at p ≡ Some q))
  pub kept : (q : DataHash) → IsSome (old q) → IsSome (new q)
  pub complete : (q : DataHash) → (i : ℕ) → i < n → chunk_hash_at (r, i) ≡ Some q → IsSome (new q)
