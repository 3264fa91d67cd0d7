-- Concatenation: shards whose records follow one another, and the shard that has the records of all.
use Rattle.std.specs.Prelude.{◌≡◌, ◌⊎◌, ⊤, ℕ, ◌≤◌, ◌<◌, ◌^◌, sum_by, Contains, true, All, map, length, List, [], ◌∷◌, flat_map, None}
use Rattle.xet_base.specs.declared.error.CoreError.{CoreError}
use Rattle.xet_base.specs.declared.merklehash.DataHash.{DataHash}
use Rattle.xet_base.specs.Errors.{IsInvalidShard, IsWriteError}
use Rattle.xet_records.specs.declared.file_structs.MDBFileInfo.{MDBFileInfo}
use Rattle.xet_records.specs.declared.xorb_structs.MDBXorbInfo.{MDBXorbInfo}
use Rattle.xet_records.specs.declared.record_reader.FormatVersion.{FormatVersion}
use Rattle.xet_records.specs.declared.record_reader.FormatVersion.TheVariants.{V2, V3}
use Rattle.xet_records.specs.FileRecord.{file_records, file_records_in, size_of_file}
use Rattle.xet_records.specs.XorbRecord.{xorb_records}
use Rattle.std.specs.FinMap.{values}
use Rattle.xet_shards.specs.Content.Shard.{Shard, IsShard}
use Rattle.xet_shards.specs.Write.WrittenShard.{IsBytesOf, HasFilesIn}
use Rattle.xet_shards.specs.Ends.Ends.{FitsFooter, FormatCase, IsUnsupported, IsTooShort}
use Rattle.xet_shards.specs.declared.shard_format.ends.options.LayoutOptions.{LayoutOptions}
use Rattle.xet_shards.specs.Write.Layout.{footer_value, layout_of, layout_in}
use Rattle.xet_records.specs.Limits.{MAX_ROWS}
use Rattle.xet_shards.specs.Write.Section.{total_rows}
use Rattle.xet_base.specs.declared.error.CoreError.TheVariants.{InvalidArguments}
use Rattle.xet_shards.specs.Write.WithOptions.{FitsSection, Ascends}
use Rattle.xet_core_structures.specs.Records.ShardContents.{HoldsShard}
use Rattle.xet_core_structures.specs.TwoShards.ByteResults.{keyed_options}
use Rattle.placed_shards.specs.Parts.{HasRecordsInOrder}

-- the content of a shard that is concatenated: files and xorbs, a version, the key of the chunk
-- hashes, and the times of creation and expiry
pub record ShardPart : Type 0 where
  pub files : List MDBFileInfo
  pub xorbs : List MDBXorbInfo
  pub version : FormatVersion
  pub key : DataHash
  pub creation : ℕ
  pub expiry : ℕ

-- the layout options of a part: all tables are in
abbrev pub options_in : ShardPart → LayoutOptions
options_in part = record {
  version = part.version;
  file_table = true;
  xorb_table = true;
  chunk_table = true;
  key = part.key;
  creation = part.creation;
  expiry = part.expiry;
}

-- the bytes of a part: the layout of its records
abbrev pub bytes_of_part : ShardPart → List ℕ
bytes_of_part part = layout_of part.files part.xorbs (options_in part)

-- a part is under this key, and its records and its footer's numbers fit their widths
pub record IsPartUnder (key : DataHash) (part : ShardPart) : Type 0 where
  pub key_is : part.key ≡ key
  pub files_fit : FitsSection (file_records_in part.version) part.files
  pub xorbs_fit : FitsSection xorb_records part.xorbs
  pub widths : FitsFooter (footer_value part.files part.xorbs (options_in part))

-- the files of all parts, part by part
abbrev pub files_in : List ShardPart → List MDBFileInfo
files_in parts = flat_map (λ part. part.files) parts

-- the xorbs of all parts, part by part
abbrev pub xorbs_in : List ShardPart → List MDBXorbInfo
xorbs_in parts = flat_map (λ part. part.xorbs) parts

-- the later of two versions
abbrev pub later : FormatVersion → FormatVersion → FormatVersion
later V2 version = version
later V3 version = V3

-- the latest of some versions: 2 if all are 2
abbrev pub latest : List FormatVersion → FormatVersion
latest [] = V2
latest (version ∷ versions) = later version (latest versions)

-- the version in which parts are concatenated: 2 if all are in version 2
abbrev pub version_in : List ShardPart → FormatVersion
version_in parts = latest (map (λ part. part.version) parts)

-- the layout options of a concatenation in a version: all tables, the key, no creation and no expiry
abbrev pub options_under : FormatVersion → DataHash → LayoutOptions
options_under version key = record (keyed_options key) { version = version }

-- the bytes of the records of parts under a key, part by part, in the version of the parts
abbrev pub parts_layout : DataHash → List ShardPart → List ℕ
parts_layout key parts =
    layout_of (files_in parts) (xorbs_in parts) (options_under (version_in parts) key)

-- why bytes can't be split: they have no supported header or footer, or its offsets are not in order
abbrev pub IsNoPart : List ℕ → CoreError → Type 0
IsNoPart bytes e = FormatCase IsUnsupported IsTooShort bytes e ⊎ IsInvalidShard e

-- the number of rows of each section fits `u32`
pub record HaveFewRows (files : List MDBFileInfo) (xorbs : List MDBXorbInfo) : Type 0 where
  pub file_rows : total_rows file_records files ≤ MAX_ROWS
  pub xorb_rows : total_rows xorb_records xorbs ≤ MAX_ROWS

-- the rows and the sizes in bytes are few enough for one shard
pub record FitTogether (files : List MDBFileInfo) (xorbs : List MDBXorbInfo) : Type 0 where
  pub rows : HaveFewRows files xorbs
  pub materialized : sum_by size_of_file files < 2 ^ 64
  pub stored : sum_by (λ (x : MDBXorbInfo). x.metadata.num_bytes_in_xorb) xorbs < 2 ^ 64
  pub on_disk : sum_by (λ (x : MDBXorbInfo). x.metadata.num_bytes_on_disk) xorbs < 2 ^ 64

-- why writing fails after the parts were split: a part is no shard, or the writer or memory failed
abbrev pub IsBadPart : CoreError → Type 0
IsBadPart e = IsInvalidShard e ⊎ IsWriteError e

-- why shards are not concatenated: there is none, their keys differ or their hashes do not ascend;
-- or the bytes of one can't be split; or a sum does not fit, a table is refused, or the writer or
-- memory failed
abbrev pub RefusesConcatenation : List (List ℕ) → CoreError → Type 0
RefusesConcatenation shards e =
    (e ≡ InvalidArguments) ⊎ ((bytes : List ℕ) × Contains shards bytes × IsNoPart bytes e)
    ⊎ IsBadPart e

-- the hashes of the files ascend, and so do the hashes of the xorbs
pub record AscendBoth (files : List MDBFileInfo) (xorbs : List MDBXorbInfo) : Type 0 where
  pub files_ascend : Ascends file_records files
  pub xorbs_ascend : Ascends xorb_records xorbs

-- parts that can be concatenated: there is one, all are under the key, hashes ascend within each
-- part and from each to the next, and one shard has room for them all
pub record AreConsecutiveParts (key : DataHash) (parts : List ShardPart) : Type 0 where
  pub some : 0 < length parts
  pub fit : All (IsPartUnder key) parts
  pub each : All (λ part. AscendBoth part.files part.xorbs) parts
  pub ascend : AscendBoth (files_in parts) (xorbs_in parts)
  pub together : FitTogether (files_in parts) (xorbs_in parts)

-- each byte string is a layout of the shard at the same place
abbrev pub AreBytesOf : List Shard → List (List ℕ) → Type 0
AreBytesOf [] [] = ⊤
AreBytesOf [] (bytes ∷ all) = ⊥
AreBytesOf (s ∷ shards) [] = ⊥
AreBytesOf (s ∷ shards) (bytes ∷ all) = IsBytesOf s bytes × AreBytesOf shards all

-- the latest of the versions of these bytes of shards
abbrev pub latest_of : (shards : List Shard) → (bytes : List (List ℕ)) → AreBytesOf shards bytes
    → FormatVersion
latest_of [] [] is = V2
latest_of [] (b ∷ bytes) is = absurd is
latest_of (s ∷ shards) [] is = absurd is
latest_of (s ∷ shards) (b ∷ bytes) (is, others) = later is.version (latest_of shards bytes others)

-- the bytes, in a version and without expiry, are those of the shard that has the records of these
-- shards in their order
pub record IsConcatenation (version : FormatVersion) (shards : List Shard) (bytes : List ℕ) : Type 0 where
  pub all : Shard
  pub is_shard : IsShard all
  pub row : HasRecordsInOrder shards all
  pub files : HasFilesIn version all
  pub bytes_are : bytes ≡ layout_in version all None

-- the bytes of a shard in a version under a key, with all tables, no creation and no expiry
abbrev pub keyed_layout_in : FormatVersion → Shard → DataHash → List ℕ
keyed_layout_in version s key =
    layout_of (values s.files) (values s.xorbs) (options_under version key)

-- the bytes are the layout of a shard in a version, which has its files, under a key, and hold it
pub record IsHeldLayout (version : FormatVersion) (key : DataHash) (s : Shard) (bytes : List ℕ) : Type 0 where
  pub bytes_are : bytes ≡ keyed_layout_in version s key
  pub files : HasFilesIn version s
  pub holds : HoldsShard key s bytes

-- the byte strings are those of parts under a key, and the records of all parts are those of this
-- shard, and so is their layout in a version; if the shard is well-formed, the parts can be
-- concatenated
pub record AreRangesOf (version : FormatVersion) (key : DataHash) (whole : Shard) (bytes : List (List ℕ)) : Type 0
  where
    pub parts : List ShardPart
    pub fit : All (IsPartUnder key) parts
    pub are : map bytes_of_part parts ≡ bytes
    pub files_are : files_in parts ≡ values whole.files
    pub xorbs_are : xorbs_in parts ≡ values whole.xorbs
    pub whole_is : parts_layout key parts ≡ keyed_layout_in version whole key
    pub row : IsShard whole → AreConsecutiveParts key parts
