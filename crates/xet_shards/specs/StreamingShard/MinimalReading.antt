-- Reading a minimal shard: a shard's header, and then views of the records of its sections.
use Rattle.std.specs.Prelude.{◌≡◌, ◌⊎◌, ℕ, ◌+◌, Bool, true, false, List, [], flat_map, sum_by, All, Option}
use Rattle.std.specs.Io.KnownBytes.{Consumes}
use Rattle.xet_base.specs.declared.error.CoreError.{CoreError}
use Rattle.xet_base.specs.declared.merklehash.DataHash.{DataHash}
use Rattle.xet_base.specs.Errors.{IsBareShardVersion, IsDeviceError}
use Rattle.xet_base.specs.Input.{ReaderFails}
use Rattle.xet_records.specs.declared.file_structs.MDBFileInfo.{MDBFileInfo}
use Rattle.xet_records.specs.declared.xorb_structs.MDBXorbInfo.{MDBXorbInfo}
use Rattle.xet_records.specs.RecordKind.{RecordKind}
use Rattle.xet_records.specs.Reading.{ReadsBookend, NextRecordNotRead}
use Rattle.xet_records.specs.declared.record_reader.FormatVersion.{FormatVersion}
use Rattle.xet_records.specs.Version.{IsVersion, version_of}
use Rattle.xet_records.specs.FileRecord.{file_records_in}
use Rattle.xet_records.specs.XorbRecord.{xorb_records}
use Rattle.xet_shards.specs.declared.shard_format.ends.header.MDBShardFileHeader.{MDBShardFileHeader}
use Rattle.xet_shards.specs.Ends.Ends.{HasUnsupportedHeader, EndsInHeader, SaysUnsupported, SaysEndOfInput}
use Rattle.xet_shards.specs.Write.Layout.{header_tag, shard_header_bytes, if_included}
use Rattle.xet_shards.specs.StreamingShard.MinimalShard.{MinimalShard, eligible_hashes}
use Rattle.xet_records.specs.Limits.{MAX_ROWS}

-- views of stored records were read, and their rows counted down from 4294967295
pub record HasReadViews {H R V : Type 0} (K : RecordKind H R) (record_of : V → R)
    (Took : List ℕ → Type 0) (views : List V) (left : ℕ) : Type 0 where
  pub are_stored : All (λ view. K.IsStored (record_of view)) views
  pub taken : Took (flat_map (λ view. K.record_bytes (record_of view)) views)
  pub rows : sum_by (λ view. K.row_count (record_of view)) views + left ≡ MAX_ROWS

-- `reads a b bytes` says that an input read these bytes between its states `a` and `b`, and
-- `fails a b n e` that reading up to `n` bytes failed with `e`
module _ {H R V I : Type 0} (K : RecordKind H R) (record_of : V → R)
    (reads : I → I → List ℕ → Type 0) where
  -- views of all records of a section, and the bookend after them, were read
  pub record ReadsViews (old new : I) (views : List V) : Type 0 where
    pub mid : I
    pub left : ℕ
    pub records : HasReadViews K record_of (reads old mid) views left
    pub bookend : ReadsBookend K (reads mid new)

  -- views of some records were read, and the record after them was not
  pub record StopsAfterViews (fails : I → I → ℕ → CoreError → Type 0) (old new : I) (e : CoreError)
      : Type 0 where
    pub mid : I
    pub views : List V
    pub left : ℕ
    pub records : HasReadViews K record_of (reads old mid) views left
    pub stops : NextRecordNotRead K reads fails left mid new e

module _ {I : Type 0} (reads : I → I → List ℕ → Type 0) where
  -- the xorb section was read if it is wanted, and nothing if it is not
  abbrev pub ReadsWantedXorbs : Bool → I → I → List MDBXorbInfo → Type 0
  ReadsWantedXorbs true old new xorbs = ReadsViews xorb_records (λ x. x) reads old new xorbs
  ReadsWantedXorbs false old new xorbs = (new ≡ old) × (xorbs ≡ [])

  -- the file section was read, and its records are kept if they are wanted; then the xorb section
  -- was
  pub record ReadsSections (version : FormatVersion) (with_files with_xorbs : Bool) (old new : I)
      (m : MinimalShard) : Type 0 where
    pub files : List MDBFileInfo
    pub mid : I
    pub file_section : ReadsViews (file_records_in version) (λ r. r) reads old mid files
    pub kept : m.files ≡ if_included with_files files
    pub xorb_section : ReadsWantedXorbs with_xorbs mid new m.xorbs

  -- a shard's header was read
  pub record ReadsShardHeader (old new : I) : Type 0 where
    pub header : MDBShardFileHeader
    pub tag : header.tag ≡ header_tag
    pub version : IsVersion header.version
    pub taken : reads old new (shard_header_bytes header)

  -- a shard's header and its sections were read
  abbrev pub ReadsMinimal : Bool → Bool → I → I → MinimalShard → Type 0
  ReadsMinimal with_files with_xorbs old new m =
      (mid : I) × (header : ReadsShardHeader old mid)
      × ReadsSections (version_of header.header.version) with_files with_xorbs mid new m

  -- a shard was read, and these are the hashes of its eligible chunks
  abbrev pub ReadsEligible : I → I → List DataHash → Type 0
  ReadsEligible old new hashes =
      (m : MinimalShard) × ReadsMinimal true true old new m
      × (hashes ≡ eligible_hashes m.files m.xorbs)

  module _ (fails : I → I → ℕ → CoreError → Type 0) where
    -- the file section was not read, or the xorb section, which is wanted, was not
    pub data SectionsNotRead (version : FormatVersion) (with_xorbs : Bool) (old new : I)
        (e : CoreError) : Type 0 where
      no_files : StopsAfterViews (file_records_in version) (λ r. r) reads fails old new e
          → SectionsNotRead version with_xorbs old new e
      no_xorbs : with_xorbs ≡ true → (mid : I) (files : List MDBFileInfo)
          → ReadsViews (file_records_in version) (λ r. r) reads old mid files
          → StopsAfterViews xorb_records (λ x. x) reads fails mid new e
          → SectionsNotRead version with_xorbs old new e

    -- the header was not read, or the sections after it were not
    abbrev pub MinimalFails : (I → I → CoreError → Type 0) → Bool → I → I → CoreError → Type 0
    MinimalFails header_fails with_xorbs old new e =
        header_fails old new e
        ⊎ ((mid : I) × (header : ReadsShardHeader old mid)
        × SectionsNotRead (version_of header.header.version) with_xorbs mid new e)

-- a header was not read from a reader that has these bytes left, where they are known
pub record ReaderHeaderFails (remaining : Option (List ℕ)) (e : CoreError) : Type 0 where
  pub causes : IsDeviceError e ⊎ IsBareShardVersion e
  pub unsupported : SaysUnsupported HasUnsupportedHeader remaining e
  pub end : SaysEndOfInput EndsInHeader remaining e

-- a header, or the sections after it, were not read from a reader that had the first of these bytes
-- left before and the second after, where they are known
abbrev pub ReaderMinimalFails : Bool → Option (List ℕ) → Option (List ℕ) → CoreError → Type 0
ReaderMinimalFails with_xorbs old new e =
    MinimalFails Consumes (λ before after n f. ReaderFails before n f)
    (λ before after f. ReaderHeaderFails before f) with_xorbs old new e
