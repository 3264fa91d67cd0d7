-- The fields of a xorb store. Contracts see the xorbs without their `Rc`.
use Rattle.std.specs.Prelude.{ℕ, List, map, Option, option_map}
use Rattle.std.specs.HashMap as hash_map
use Rattle.std.specs.declared.rc.Rc.{Rc}
use Rattle.xet_base.specs.declared.merklehash.DataHash.{DataHash}
use Rattle.xet_base.specs.Hash.{hash_eq}
use Rattle.xet_records.specs.declared.xorb_structs.MDBXorbInfo.{MDBXorbInfo}
use Rattle.xet_shards.specs.ShardInMemory.ChunkLookup.{ChunkLocation}

-- the entries of xorbs without `Rc`
abbrev pub shown_xorbs : {Z : Type 0} → List (DataHash × Rc MDBXorbInfo Z)
    → List (DataHash × MDBXorbInfo)
shown_xorbs es = map (λ e. (e.0, e.1.value)) es

-- a location without `Rc`
abbrev pub shown_location : {Z : Type 0} → (Rc MDBXorbInfo Z × ℕ) → ChunkLocation
shown_location p = (p.0.value, p.1)

-- the location that a lookup keeps for a chunk hash
abbrev pub location_in : {S Z : Type 0} → hash_map.HashMap DataHash (Rc MDBXorbInfo Z × ℕ) S
    → DataHash → Option ChunkLocation
location_in m q = option_map shown_location (hash_map.get hash_eq m q)
