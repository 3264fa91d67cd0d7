-- Steps towards what `ByteResults` defines, which only contracts inside the crate speak of.
use Rattle.std.specs.Prelude.{◌≡◌, ⊤, ℕ, ◌≤◌, List, All, Option}
use Rattle.std.specs.Io.KnownBytes.{Appends}
use Rattle.xet_base.specs.declared.error.CoreError.{CoreError}
use Rattle.xet_base.specs.declared.merklehash.DataHash.{DataHash}
use Rattle.xet_base.specs.Errors.{IsWriteError}
use Rattle.xet_records.specs.declared.file_structs.MDBFileInfo.{MDBFileInfo}
use Rattle.xet_records.specs.declared.xorb_structs.MDBXorbInfo.{MDBXorbInfo}
use Rattle.xet_records.specs.declared.row_copier.CopyFailure.{CopyFailure}
use Rattle.xet_records.specs.declared.row_copier.CopyFailure.TheVariants.{Input, Output}
use Rattle.xet_records.specs.FileRecord.{file_records, FitsRecord}
use Rattle.xet_records.specs.XorbRecord.{xorb_records}
use Rattle.xet_shards.specs.declared.shard_format.ends.info.MDBShardInfo.{MDBShardInfo}
use Rattle.xet_shards.specs.declared.shard_format.write.written.WrittenFiles.{WrittenFiles}
use Rattle.xet_shards.specs.declared.shard_format.write.written.WrittenXorbs.{WrittenXorbs}
use Rattle.xet_shards.specs.Write.Written.{HasWritten, HasWrittenXorbs, end_of_layout}
use Rattle.xet_shards.specs.declared.shard_format.ends.options.LayoutOptions.{LayoutOptions}
use Rattle.xet_shards.specs.Write.Layout.{layout_of, info_of}
use Rattle.xet_shards.specs.Write.Section.{total_rows}
use Rattle.xet_core_structures.specs.Records.RecordPairs.{Combines}
use Rattle.xet_core_structures.specs.Steps.ShardContentsSteps.{HoldsLists}
use Rattle.xet_records.specs.Limits.{MAX_ROWS}
use Rattle.xet_core_structures.specs.TwoShards.ByteResults.{key_of, keyed_options}

-- a failure of an input has this cause, and one of the output is that of its device
abbrev pub FailsBy : (CoreError → Type 0) → CopyFailure → Type 0
FailsBy Cause (Input e) = Cause e
FailsBy Cause (Output e) = IsWriteError e

-- the failure is the output's
abbrev pub IsOutput : CopyFailure → Type 0
IsOutput (Input e) = ⊥
IsOutput (Output e) = ⊤

-- the records of both sections
pub record Records : Type 0 where
  pub files : List MDBFileInfo
  pub xorbs : List MDBXorbInfo

-- both inputs are under one key, and the bytes of each have the sections of these records
pub record HaveInputs (x : List ℕ) (i : MDBShardInfo) (y : List ℕ) (j : MDBShardInfo)
    (one other : Records) : Type 0 where
  pub same_key : key_of i ≡ key_of j
  pub first : HoldsLists x i one.files one.xorbs
  pub second : HoldsLists y j other.files other.xorbs

-- both lists of the result are what is made of those of both inputs, and may be written
pub record AreCombined
    (IsFile : Option MDBFileInfo → Option MDBFileInfo → Option MDBFileInfo → Type 0)
    (IsXorb : Option MDBXorbInfo → Option MDBXorbInfo → Option MDBXorbInfo → Type 0)
    (first second result : Records) : Type 0 where
  pub files : Combines file_records IsFile first.files second.files result.files
  pub xorbs : Combines xorb_records IsXorb first.xorbs second.xorbs result.xorbs
  pub few_files : total_rows file_records result.files ≤ MAX_ROWS
  pub few_xorbs : total_rows xorb_records result.xorbs ≤ MAX_ROWS

-- the layout of the records under a key was written, and the header and the footer in it returned
abbrev pub WritesRecords : Records → DataHash → Option (List ℕ) → Option (List ℕ) → MDBShardInfo
    → Type 0
WritesRecords records key old new info =
    (info ≡ info_of records.files records.xorbs (keyed_options key))
    × Appends old new (layout_of records.files records.xorbs (keyed_options key))

-- what comes after the sections of these records was written, as in a layout with these options,
-- and the header and the footer in that layout returned
abbrev pub WritesEnd : WrittenFiles → WrittenXorbs → LayoutOptions → Option (List ℕ) → Option (List ℕ)
    → MDBShardInfo → Type 0
WritesEnd files xorbs options old new info =
    (rs : List MDBFileInfo) → (xs : List MDBXorbInfo) → All FitsRecord rs → HasWritten files rs
    → HasWrittenXorbs xorbs xs
    → (info ≡ info_of rs xs options) × Appends old new (end_of_layout rs xs options)
