-- What bytes are to a reader of a section, of files or of xorbs: the bytes of a list of records and
-- a bookend, or such bytes and then a header that is refused, or such bytes and then too few bytes.
use Rattle.std.specs.Prelude.{◌≡◌, ◌⊎◌, ℕ, ◌+◌, ◌-◌, ◌*◌, ◌≤◌, List, ◌++◌, map, flat_map, sum_by, All, MatchResult}
use Rattle.std.specs.declared.vec.Vec.{Vec}
use Rattle.xet_base.specs.declared.error.CoreError.{CoreError}
use Rattle.xet_base.specs.Errors.{CoreResult, IsBareInvalidShard}
use Rattle.xet_base.specs.Source.{Source, FailedBy, ReadCase, after_read, after_seek, bytes_left}
use Rattle.xet_records.specs.declared.file_structs.MDBFileInfo.{MDBFileInfo}
use Rattle.xet_records.specs.declared.xorb_structs.MDBXorbInfo.{MDBXorbInfo}
use Rattle.xet_records.specs.RecordKind.{RecordKind}
use Rattle.xet_records.specs.declared.file_structs.header.FileDataSequenceHeader.{FileDataSequenceHeader}
use Rattle.xet_records.specs.Version.{version_of}
use Rattle.xet_records.specs.FileRecord.{file_records_in}
use Rattle.xet_records.specs.XorbRecord.{xorb_records}
use Rattle.xet_shards.specs.declared.shard_format.ends.info.MDBShardInfo.{MDBShardInfo}
use Rattle.xet_records.specs.Reading.{BeginsWithHeader}
pub use Rattle.xet_records.specs.Reading.{BeginsWithBookend, BeginsRefused, EndsEarly}
use Rattle.xet_records.specs.Limits.{MAX_ROWS}

-- the bytes begin with those of records, of at most 4294967295 rows, and then come others
pub record HoldsRecords {H R : Type 0} (K : RecordKind H R) (bytes : List ℕ) (stored : List R)
    (rest : List ℕ) : Type 0 where
  pub are_stored : All K.IsStored stored
  pub rows : sum_by K.row_count stored ≤ MAX_ROWS
  pub bytes_are : bytes ≡ flat_map K.record_bytes stored ++ rest

-- the bytes of these records, and then a bookend
pub record IsSection {H R : Type 0} (K : RecordKind H R) (bytes : List ℕ) (stored : List R)
    : Type 0 where
  pub rest : List ℕ
  pub records : HoldsRecords K bytes stored rest
  pub bookend : BeginsWithBookend K rest

module _ {H R : Type 0} (K : RecordKind H R) where
  -- the rows that are left of 4294967295 beside those of some records
  abbrev pub rows_left : List R → ℕ
  rows_left stored = MAX_ROWS - sum_by K.row_count stored

  -- the bytes of some records, and then a header that is refused: the version does not have it, or
  -- its record has more rows than are left
  abbrev pub IsRefusedSection : List ℕ → Type 0
  IsRefusedSection bytes =
      (stored : List R) × (rest : List ℕ) × HoldsRecords K bytes stored rest
      × BeginsRefused K (rows_left stored) rest

  -- the bytes of some records, and then too few bytes
  abbrev pub IsTruncatedSection : List ℕ → Type 0
  IsTruncatedSection bytes =
      (stored : List R) × (rest : List ℕ) × HoldsRecords K bytes stored rest
      × EndsEarly K (rows_left stored) rest

  -- reading the record at the front of the bytes may take so many: a header, or a header and the
  -- rows that it announces
  abbrev pub MayRead : List ℕ → ℕ → Type 0
  MayRead bytes n =
      (n ≤ 48)
      ⊎ ((header : H) × (rest : List ℕ) × BeginsWithHeader K bytes header rest
      × (n ≤ 48 * (1 + K.rows_after header)))

-- the records of a section were read from the source's position on, without a seek and without a
-- byte past the bookend
pub record StreamsSection {H R : Type 0} (K : RecordKind H R) (old new : Source) (found : List R)
    : Type 0 where
  pub stored : List R
  pub section : IsSection K (bytes_left old) stored
  pub returned : map K.as_read stored ≡ found
  pub after : new ≡ after_read old (48 * (sum_by K.row_count stored + 1))

-- the records of the section at an offset were read, by one seek and without a byte past the
-- bookend
abbrev pub ReadsSection : {H R : Type 0} → RecordKind H R → Source → Source → ℕ → List R → Type 0
ReadsSection K old new at found = StreamsSection K (after_seek old at) new found

-- why records were not read, if the device did not fail: an allocation failed or the bytes are too
-- few, or a header was refused
pub data SectionCase (Passes Ends : List ℕ → Type 0) (bytes : List ℕ) (e : CoreError) : Type 0 where
  not_read : ReadCase (Ends bytes) e → SectionCase Passes Ends bytes e
  passes_limit : IsBareInvalidShard e → Passes bytes → SectionCase Passes Ends bytes e

-- why records were not read: the device failed, an allocation failed, the bytes are too few, or a
-- header was refused
abbrev pub SectionFailure : (List ℕ → Type 0) → (List ℕ → Type 0) → List ℕ → Source → Source
    → CoreError → Type 0
SectionFailure Passes Ends bytes old new e = FailedBy (SectionCase Passes Ends bytes) old new e

-- the records were not read; the source may be at any offset
pub record SectionNotStreamed {H R : Type 0} (K : RecordKind H R) (old new : Source) (e : CoreError)
    : Type 0 where
  pub bytes : new.bytes ≡ old.bytes
  pub seeks : new.seeks ≡ old.seeks
  pub cause : SectionFailure (IsRefusedSection K) (IsTruncatedSection K) (bytes_left old) old new e

-- the records of the section at an offset were not read, with one seek; the source may be at any
-- offset
abbrev pub SectionFails : {H R : Type 0} → RecordKind H R → Source → Source → ℕ → CoreError → Type 0
SectionFails K old new at e = SectionNotStreamed K (after_seek old at) new e

-- all records of the section at an offset were read, or it failed
abbrev pub ReadsAll : {H R Z : Type 0} → RecordKind H R → Source → Source → ℕ → CoreResult (Vec R Z)
    → Type 0
ReadsAll K old new at result =
    MatchResult result (λ found. ReadsSection K old new at found.items) (SectionFails K old new at)

-- the files of a shard, in the version that its header has
abbrev pub files_of : MDBShardInfo → RecordKind FileDataSequenceHeader MDBFileInfo
files_of info = file_records_in (version_of info.header.version)

-- all records of the file section that a footer names were read, or reading them failed
abbrev pub ReadsFiles : {Z : Type 0} → MDBShardInfo → Source → Source
    → CoreResult (Vec MDBFileInfo Z) → Type 0
ReadsFiles info old new result =
    ReadsAll (files_of info) old new info.metadata.file_info_offset result

-- all records of the xorb section that a footer names were read, or reading them failed
abbrev pub ReadsXorbs : {Z : Type 0} → MDBShardInfo → Source → Source
    → CoreResult (Vec MDBXorbInfo Z) → Type 0
ReadsXorbs info old new result =
    ReadsAll xorb_records old new info.metadata.xorb_info_offset result
