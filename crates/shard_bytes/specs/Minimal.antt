-- Minimal shards of a shard's bytes.
use Rattle.std.specs.Prelude.{◌≡◌, ◌⊎◌, ◌↔◌, ⊤, ℕ, true, List, [], map, Contains, IsTrue, Option, None, Some}
use Rattle.std.specs.Io.KnownBytes.{Consumes}
use Rattle.std.specs.List.{Any}
use Rattle.xet_core_structures.specs.declared.error.CoreError.{CoreError}
use Rattle.xet_core_structures.specs.declared.merklehash.DataHash.{DataHash}
use Rattle.xet_core_structures.specs.declared.file_structs.KeptParts.{KeptParts}
use Rattle.xet_core_structures.specs.declared.xorb_structs.MDBXorbInfo.{MDBXorbInfo}
use Rattle.xet_core_structures.specs.KeyedExport.{ExportCase}
use Rattle.xet_core_structures.specs.Layout.{layout_of}
use Rattle.xet_core_structures.specs.MinimalReading.{ReadsMinimal, ReaderMinimalFails}
use Rattle.xet_core_structures.specs.MinimalShard.{MinimalShard, mark_starts, is_start, minimal_options, eligible_hashes, IsKept}
use Rattle.xet_core_structures.specs.Shard.{xorb_hash_of}
use Rattle.xet_core_structures.specs.View.{as_kept, LacksVerification, IsIoOther}
use Rattle.xet_shards.specs.Read.SectionsBehindHeader.{HasSections}
use Rattle.placed_shards.specs.Content.{Content}
use Rattle.shard_bytes.specs.Outcomes.{InMemory}
use Rattle.shard_bytes.specs.declared.minimal.KeptXorbs.{KeptXorbs}
use Rattle.shard_bytes.specs.declared.minimal.KeptXorbs.TheVariants.{All as all_xorbs, Listed}
use Rattle.shard_bytes.specs.declared.minimal.Subset.{Subset}

-- the bytes begin with a header and two sections, of these records; what comes after them is any
-- bytes
abbrev pub HoldsMinimal : List ℕ → MinimalShard → Type 0
HoldsMinimal bytes m =
    (left : Option (List ℕ)) × ReadsMinimal Consumes true true (Some bytes) left m

-- why the bytes are not read as those of a shard
abbrev pub RefusesMinimal : List ℕ → CoreError → Type 0
RefusesMinimal bytes e =
    (left : Option (List ℕ)) × ReaderMinimalFails true (Some bytes) left e

-- the bytes begin with a header and the sections of these records
abbrev pub HasRecordsOf : List ℕ → MinimalShard → Type 0
HasRecordsOf bytes m = HasSections bytes m.files m.xorbs

-- the bytes of the minimal shard, with these parts of its files, which have the verification rows
-- that are wanted
abbrev pub MinimalBytes : KeptParts → ℕ → List ℕ → List ℕ → Type 0
MinimalBytes kept now bytes out =
    (m : MinimalShard) × HasRecordsOf bytes m
    × (¬ Any (LacksVerification kept.verification) m.files)
    × (out ≡ layout_of (map (as_kept kept) m.files)
    (map (mark_starts (is_start m.files)) m.xorbs) (minimal_options now None))

-- the minimal shard, with these parts of its files, which have the verification rows that are wanted,
-- of the shard that the bytes hold behind their header
abbrev pub IsMinimalOf : KeptParts → ℕ → List ℕ → Content → Type 0
IsMinimalOf kept now bytes made =
    (m : MinimalShard) × HasRecordsOf bytes m
    × (¬ Any (LacksVerification kept.verification) m.files)
    × (made ≡ record {
      files = map (as_kept kept) m.files;
      xorbs = map (mark_starts (is_start m.files)) m.xorbs;
      options = minimal_options now None;
    })

-- whether a subset keeps a xorb of this hash
abbrev pub Keeps : KeptXorbs → DataHash → Type 0
Keeps all_xorbs hash = ⊤
Keeps (Listed hashes) hash = Contains hashes.items hash

-- one of the xorbs has the hash
abbrev pub HasXorb : MinimalShard → DataHash → Type 0
HasXorb m hash = (x : MDBXorbInfo) × Contains m.xorbs x × (xorb_hash_of x ≡ hash)

-- the hashes that no xorb has, in their order
abbrev pub AreLacked : MinimalShard → List DataHash → List DataHash → Type 0
AreLacked m = IsKept (λ hash lacks. IsTrue lacks ↔ (¬ HasXorb m hash))

-- the bytes begin with a header and two sections, and these of the hashes, in their order, are
-- those that none of their xorbs has
abbrev pub LackXorbs : List ℕ → List DataHash → List DataHash → Type 0
LackXorbs bytes hashes lacking =
    (m : MinimalShard) × HoldsMinimal bytes m × AreLacked m hashes lacking

-- the bytes of a subset: no files, and the xorbs that it keeps
abbrev pub SubsetBytes : Subset → List ℕ → List ℕ → Type 0
SubsetBytes subset bytes out =
    (m : MinimalShard) × (kept : List MDBXorbInfo) × HasRecordsOf bytes m
    × IsKept (λ x accepted. IsTrue accepted ↔ Keeps subset.kept (xorb_hash_of x)) m.xorbs kept
    × (out ≡ layout_of [] (map (mark_starts (is_start m.files)) kept)
    (minimal_options subset.now subset.expiry))

-- a subset: no files, and the xorbs that it keeps
abbrev pub IsSubsetOf : Subset → List ℕ → Content → Type 0
IsSubsetOf subset bytes made =
    (m : MinimalShard) × (kept : List MDBXorbInfo) × HasRecordsOf bytes m
    × IsKept (λ x accepted. IsTrue accepted ↔ Keeps subset.kept (xorb_hash_of x)) m.xorbs kept
    × (made ≡ record {
      files = [];
      xorbs = map (mark_starts (is_start m.files)) kept;
      options = minimal_options subset.now subset.expiry;
    })

-- the hashes of the eligible chunks of the bytes
abbrev pub EligibleIn : List ℕ → List DataHash → Type 0
EligibleIn bytes hashes =
    (m : MinimalShard) × HoldsMinimal bytes m × (hashes ≡ eligible_hashes m.files m.xorbs)

-- verification rows are to be kept, and a file of the shard that the bytes hold has none
abbrev pub LacksRows : KeptParts → List ℕ → Type 0
LacksRows kept bytes =
    (m : MinimalShard) × HasRecordsOf bytes m × Any (LacksVerification kept.verification) m.files

-- why there is no minimal shard: an allocation failed, or the bytes are not read; or they are, and
-- a file has none of the verification rows that are wanted
abbrev pub RefusesMinimalBytes : KeptParts → List ℕ → CoreError → Type 0
RefusesMinimalBytes kept bytes e =
    InMemory (ExportCase bytes) e ⊎ (IsIoOther e × LacksRows kept bytes)
