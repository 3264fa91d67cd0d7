-- The union of the records of two shards, whether they agree or not.
use Rattle.std.specs.Prelude.{◌≡◌, ◌⊎◌, IsTrue, Option, None, Some}
use Rattle.std.specs.Option.{option_or}
use Rattle.std.specs.FinMap.{get}
use Rattle.xet_base.specs.declared.merklehash.DataHash.{DataHash}
use Rattle.xet_records.specs.declared.file_structs.MDBFileInfo.{MDBFileInfo}
use Rattle.xet_records.specs.declared.xorb_structs.MDBXorbInfo.{MDBXorbInfo}
use Rattle.xet_records.specs.declared.file_structs.part.OptionalPart.{OptionalPart}
use Rattle.xet_records.specs.Merging.{IncludesBits, has_part, joined_file}
use Rattle.xet_shards.specs.Content.Shard.{Shard}

-- a header with the known flags that either record has, the first's segments, and each
-- optional part from the first where it has it, else from the second
abbrev pub mixed_file : MDBFileInfo → MDBFileInfo → MDBFileInfo
mixed_file a b = record (joined_file a b) { metadata = record (joined_file a b).metadata { _unused = 0 } }

-- of two files with the same hash: the first, if its flags have all bits of the second's; else the
-- second, if its flags have all bits of the first's; else a mix of both, which requires equal
-- counts of segments
abbrev pub IsUnitedFile : MDBFileInfo → MDBFileInfo → MDBFileInfo → Type 0
IsUnitedFile a b c =
    (IncludesBits a.metadata.file_flags b.metadata.file_flags × (c ≡ a))
    ⊎ ((¬ IncludesBits a.metadata.file_flags b.metadata.file_flags)
    × IncludesBits b.metadata.file_flags a.metadata.file_flags × (c ≡ b))
    ⊎ ((¬ IncludesBits a.metadata.file_flags b.metadata.file_flags)
    × (¬ IncludesBits b.metadata.file_flags a.metadata.file_flags)
    × (a.metadata.num_entries ≡ b.metadata.num_entries) × (c ≡ mixed_file a b))

-- the file of a hash, where each shard may have one
abbrev pub IsEitherFile : Option MDBFileInfo → Option MDBFileInfo → Option MDBFileInfo → Type 0
IsEitherFile None b c = c ≡ b
IsEitherFile (Some a) None c = c ≡ Some a
IsEitherFile (Some a) (Some b) c = (r : MDBFileInfo) × (c ≡ Some r) × IsUnitedFile a b r

-- the xorb of a hash: the first shard's, if it has one
abbrev pub IsEitherXorb : Option MDBXorbInfo → Option MDBXorbInfo → Option MDBXorbInfo → Type 0
IsEitherXorb a b c = c ≡ option_or a b

-- the records of both shards
pub record IsByteUnion (a b c : Shard) : Type 0 where
  pub files : (q : DataHash) → IsEitherFile (get a.files q) (get b.files q) (get c.files q)
  pub xorbs : (q : DataHash) → IsEitherXorb (get a.xorbs q) (get b.xorbs q) (get c.xorbs q)

-- each file of both shards has in the first every optional part that it has in the second
pub record HasPartsOf (a b : Shard) : Type 0 where
  pub parts : (part : OptionalPart) (q : DataHash) (r s : MDBFileInfo) → get a.files q ≡ Some r
      → get b.files q ≡ Some s → IsTrue (has_part s part) → IsTrue (has_part r part)
