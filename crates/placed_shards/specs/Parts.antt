-- A shard that has the records of others, one after another.
use Rattle.std.specs.Prelude.{◌≡◌, List, flat_map}
use Rattle.std.specs.FinMap.{values}
use Rattle.xet_shards.specs.Content.Shard.{Shard}

-- a shard has the records of these shards, in their order, so the hashes of each are above the
-- hashes of the shards before it
pub record HasRecordsInOrder (shards : List Shard) (all : Shard) : Type 0 where
  pub files : values all.files ≡ flat_map (λ s. values s.files) shards
  pub xorbs : values all.xorbs ≡ flat_map (λ s. values s.xorbs) shards
