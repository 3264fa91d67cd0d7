-- A shard that is made of another.
use Rattle.std.specs.Prelude.{◌≡◌, List}
use Rattle.xet_records.specs.declared.file_structs.MDBFileInfo.{MDBFileInfo}
use Rattle.xet_records.specs.declared.xorb_structs.MDBXorbInfo.{MDBXorbInfo}
use Rattle.placed_shards.specs.declared.placed_shard.PlacedShard.{PlacedShard}

-- a shard has these files and xorbs instead of those of another, and all else is as it is there
pub record HasInstead (fs : List MDBFileInfo) (xs : List MDBXorbInfo) (before after : PlacedShard)
    : Type 0 where
  pub files : after.files.items ≡ fs
  pub xorbs : after.xorbs.items ≡ xs
  pub options : after.options ≡ before.options
  pub as_read : after.as_read ≡ before.as_read
