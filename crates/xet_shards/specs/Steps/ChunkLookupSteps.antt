-- Steps towards what `ChunkLookup` defines, which only contracts inside the crate speak of.
use Rattle.std.specs.Prelude.{refl}
use Rattle.std.specs.FinMap.{insert}
use Rattle.std.specs.Coded.{Coded, code_by, coded×}
use Rattle.xet_records.specs.declared.xorb_structs.MDBXorbInfo.{MDBXorbInfo}
use Rattle.xet_shards.specs.Content.Shard.{XorbMap, coded_xorbs, xorb_hash_of}
use Rattle.xet_shards.specs.ShardInMemory.ChunkLookup.{LocationMap, coded_locations}

-- the xorbs of a shard, and their chunk lookup
pub record XorbsWithLookup : Type 0 where
  pub xorbs : XorbMap
  pub locations : LocationMap

-- the encoding by which proofs distinguish xorbs with their chunk lookup
abbrev pub coded_xorbs_with_lookup : Coded XorbsWithLookup
coded_xorbs_with_lookup =
    code_by (XorbMap × LocationMap) (coded× coded_xorbs coded_locations)
    (λ t. (t.xorbs, t.locations)) (λ p. record { xorbs = p.0; locations = p.1 }) (λ _. refl)

-- a xorb inserted or replaced
abbrev pub put_xorb : XorbMap → MDBXorbInfo → XorbMap
put_xorb xorbs r = insert xorbs (xorb_hash_of r) r
