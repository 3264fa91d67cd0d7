-- The union and the difference of two shards that are not written yet.
use Rattle.std.specs.Prelude.{◌≡◌, ◌≢◌, ◌⊎◌, Option}
use Rattle.xet_base.specs.declared.error.CoreError.{CoreError}
use Rattle.xet_base.specs.declared.error.CoreError.TheVariants.{InvalidArguments, OutOfMemory}
use Rattle.xet_base.specs.Errors.{IsInvalidShard}
use Rattle.xet_records.specs.declared.file_structs.MDBFileInfo.{MDBFileInfo}
use Rattle.xet_records.specs.declared.xorb_structs.MDBXorbInfo.{MDBXorbInfo}
use Rattle.xet_records.specs.FileRecord.{file_records}
use Rattle.xet_records.specs.XorbRecord.{xorb_records}
use Rattle.xet_core_structures.specs.Records.ByteUnion.{IsEitherFile, IsEitherXorb}
use Rattle.xet_core_structures.specs.TwoShards.ByteResults.{keyed_options}
use Rattle.placed_shards.specs.Content.{Content}
use Rattle.placed_shards.specs.Sets.{CombinesToSection, IsLeft}

module _ (IsFile : Option MDBFileInfo → Option MDBFileInfo → Option MDBFileInfo → Type 0)
    (IsXorb : Option MDBXorbInfo → Option MDBXorbInfo → Option MDBXorbInfo → Type 0) where
  -- two shards are under one key, and another has under each hash what is made of the records that
  -- they have there; it has all tables, their key, creation 0 and no expiry
  pub record Unites (c d made : Content) : Type 0 where
    pub same_key : c.options.key ≡ d.options.key
    pub files : CombinesToSection file_records IsFile c.files d.files made.files
    pub xorbs : CombinesToSection xorb_records IsXorb c.xorbs d.xorbs made.xorbs
    pub options_are : made.options ≡ keyed_options c.options.key

  -- why there is no such shard: an allocation failed, the keys differ, or nothing is made of the
  -- records that fits
  abbrev pub Refuses : Content → Content → CoreError → Type 0
  Refuses c d e =
      (e ≡ OutOfMemory) ⊎ ((e ≡ InvalidArguments) × (c.options.key ≢ d.options.key))
      ⊎ (IsInvalidShard e × (c.options.key ≡ d.options.key)
      × ((made : Content) → ¬ Unites c d made))

-- the union of two shards: of files what `shard_set_union` makes of them, of xorbs the first's
abbrev pub IsUnionOf : (c d made : Content) → Type 0
IsUnionOf = Unites IsEitherFile IsEitherXorb

-- why two shards have no union
abbrev pub UnionRefusal : Content → Content → CoreError → Type 0
UnionRefusal = Refuses IsEitherFile IsEitherXorb

-- the difference of two shards: the second's records under the hashes that the first does not have
abbrev pub IsDifferenceOf : (c d made : Content) → Type 0
IsDifferenceOf = Unites IsLeft IsLeft

-- why two shards have no difference: an allocation failed, or the keys differ
abbrev pub DifferenceRefusal : Content → Content → CoreError → Type 0
DifferenceRefusal c d e =
    (e ≡ OutOfMemory) ⊎ ((e ≡ InvalidArguments) × (c.options.key ≢ d.options.key))
