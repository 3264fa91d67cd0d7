-- The names of shard files: the 64 digits of a hash and `.mdb`.
use Rattle.std.specs.Prelude.{◌≡◌, ℕ, List, ◌++◌, take, drop, codes}
use Rattle.xet_base.specs.declared.merklehash.DataHash.{DataHash}
use Rattle.xet_base.specs.Hex.{hash_hex, IsHexText, Spells}

-- the name of the file of the shard with this hash
abbrev pub shard_name : DataHash → List ℕ
shard_name hash = hash_hex hash ++ codes ".mdb"

-- 64 hexadecimal digits of either case, then `.mdb`
pub record IsShardName (name : List ℕ) : Type 0 where
  pub digits : IsHexText (take 64 name)
  pub ending : drop 64 name ≡ codes ".mdb"

-- the name of a shard file whose digits spell this hash
abbrev pub NamesShard : List ℕ → DataHash → Type 0
NamesShard name hash = IsShardName name × Spells (take 64 name) hash
