-- What is made in a version of the format, and a shard's bytes in a version, from those in either.
use Rattle.std.specs.Prelude.{◌≡◌, ◌⊎◌, ℕ, List}
use Rattle.xet_core_structures.specs.declared.error.CoreError.{CoreError}
use Rattle.xet_core_structures.specs.declared.error.CoreError.TheVariants.{InvalidArguments}
use Rattle.xet_core_structures.specs.declared.file_structs.MDBFileInfo.{MDBFileInfo}
use Rattle.xet_core_structures.specs.declared.xorb_structs.MDBXorbInfo.{MDBXorbInfo}
use Rattle.xet_core_structures.specs.declared.shard_format.MDBShardInfo.{MDBShardInfo}
use Rattle.xet_core_structures.specs.TwoShards.ByteResults.{LoadRefusal}
use Rattle.xet_core_structures.specs.Ends.{HasHeaderAndFooter}
use Rattle.xet_core_structures.specs.FileRecord.{file_records}
use Rattle.xet_core_structures.specs.KeyedExport.{ExportCase}
use Rattle.xet_core_structures.specs.WithOptions.{FitsSection}
use Rattle.xet_records.specs.declared.record_reader.FormatVersion.{FormatVersion}
use Rattle.xet_records.specs.declared.record_reader.FormatVersion.TheVariants.{V2, V3}
use Rattle.xet_shards.specs.Read.SectionsBehindHeader.{options_of}
use Rattle.placed_shards.specs.Content.{Content, HasFilesIn, content_layout}
use Rattle.shard_bytes.specs.Checking.{IsReadAs}
use Rattle.shard_bytes.specs.Outcomes.{InMemory}

-- what is made is written in a version, which has its files, as these bytes
abbrev pub IsWrittenIn : FormatVersion → (Content → Type 0) → List ℕ → Type 0
IsWrittenIn version IsMade out =
    (made : Content) × IsMade made × HasFilesIn version made × (out ≡ content_layout version made)

-- why nothing is written in a version: nothing is made, or the version does not have a file of what
-- is
abbrev pub NotWrittenIn : FormatVersion → (Content → Type 0) → (CoreError → Type 0) → CoreError
    → Type 0
NotWrittenIn version IsMade Refuses e =
    Refuses e
    ⊎ ((e ≡ InvalidArguments) × ((made : Content) × IsMade made × (¬ HasFilesIn version made)))

-- the bytes can be read, and this is the shard that they hold behind their header
pub record IsSameShard (bytes : List ℕ) (made : Content) : Type 0 where
  pub info : MDBShardInfo
  pub files : List MDBFileInfo
  pub xorbs : List MDBXorbInfo
  pub read : IsReadAs bytes info files xorbs
  pub made_is : made ≡ record { files = files; xorbs = xorbs; options = options_of info }

-- the bytes can be read, a version has their files, and these are the layout of the same records in
-- the version
abbrev pub IsInVersion : FormatVersion → List ℕ → List ℕ → Type 0
IsInVersion version bytes = IsWrittenIn version (IsSameShard bytes)

-- why bytes in memory are not read again: an allocation failed; header and footer are not read; or
-- they are, and then a section is not read
abbrev pub RefusesSameShard : List ℕ → CoreError → Type 0
RefusesSameShard bytes =
    InMemory (λ e. LoadRefusal bytes e
    ⊎ ((i : MDBShardInfo) × HasHeaderAndFooter bytes i × ExportCase bytes e))

-- why bytes in memory are not written in a version: they are not read, or the version does not have
-- a file
abbrev pub RefusesVersion : FormatVersion → List ℕ → CoreError → Type 0
RefusesVersion version bytes =
    NotWrittenIn version (IsSameShard bytes) (RefusesSameShard bytes)

-- these are the records of bytes in version 3 that a call makes, and a file section may hold the files
abbrev pub AreMadeIn3 : (List ℕ → Type 0) → Content → Type 0
AreMadeIn3 Makes made = Makes (content_layout V3 made) × FitsSection file_records made.files

-- what is made in a version by a call that lays out records in any order, with any tables: its
-- bytes in version 3, those of the same records in version 2
abbrev pub LaidOutIn : FormatVersion → (List ℕ → Type 0) → List ℕ → Type 0
LaidOutIn V3 Makes out = Makes out
LaidOutIn V2 Makes out = IsWrittenIn V2 (AreMadeIn3 Makes) out

-- why such a call makes nothing in a version: for a cause that is none of versions, or the version
-- does not have the files of what would be made
abbrev pub NotLaidOutIn : FormatVersion → (List ℕ → Type 0) → (CoreError → Type 0) → CoreError
    → Type 0
NotLaidOutIn V3 Makes Refuses e = Refuses e
NotLaidOutIn V2 Makes Refuses e = NotWrittenIn V2 (AreMadeIn3 Makes) Refuses e
