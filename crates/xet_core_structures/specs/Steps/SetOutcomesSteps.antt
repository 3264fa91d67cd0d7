-- Steps towards what `SetOutcomes` defines, which only contracts inside the crate speak of.
use Rattle.std.specs.Prelude.{◌≡◌, ℕ, List, Option}
use Rattle.std.specs.declared.result.Result.{Result}
use Rattle.xet_base.specs.declared.error.CoreError.{CoreError}
use Rattle.xet_base.specs.Errors.{IsInvalidShard}
use Rattle.xet_records.specs.declared.file_structs.MDBFileInfo.{MDBFileInfo}
use Rattle.xet_records.specs.declared.xorb_structs.MDBXorbInfo.{MDBXorbInfo}
use Rattle.xet_records.specs.declared.row_copier.CopyFailure.{CopyFailure}
use Rattle.xet_records.specs.declared.record_reader.FormatVersion.TheVariants.{V3}
use Rattle.xet_records.specs.Version.{version_of}
use Rattle.xet_records.specs.FileRecord.{file_records}
use Rattle.xet_records.specs.XorbRecord.{xorb_records}
use Rattle.xet_shards.specs.declared.shard_format.ends.info.MDBShardInfo.{MDBShardInfo}
use Rattle.xet_shards.specs.Ends.Ends.{FitsFooter}
use Rattle.xet_shards.specs.Content.Shard.{Shard}
use Rattle.xet_core_structures.specs.TwoShards.ByteResults.{key_of, WritesResult, InputsFail, DifferenceRefusal}
use Rattle.xet_core_structures.specs.Steps.ByteResultsSteps.{FailsBy, Records, HaveInputs, AreCombined, WritesRecords}
use Rattle.xet_core_structures.specs.Records.ShardContents.{files_at, xorbs_at}
use Rattle.xet_core_structures.specs.TwoShards.Readable.{WritesReadable}
use Rattle.xet_core_structures.specs.Steps.MergeJoin.{CannotCombine}
use Rattle.xet_core_structures.specs.TwoShards.Streams.{Streams}
use Rattle.xet_core_structures.specs.TwoShards.SetOutcomes.{Operates}

-- an operation on two sources, given their headers and footers, whose error says whether an input
-- failed or the output
abbrev pub OperatesOn : (Shard → Shard → Shard → Type 0)
    → (List ℕ → MDBShardInfo → List ℕ → MDBShardInfo → CoreError → Type 0) → MDBShardInfo
    → MDBShardInfo → Streams → Streams → Result MDBShardInfo CopyFailure → Type 0
OperatesOn IsResult Refusal i j old new =
    Operates IsResult
    (FailsBy
    (InputsFail old.first new.first old.second new.second
    (Refusal old.first.bytes i old.second.bytes j)))
    i j old new

-- what is made of the records of two inputs is the result for what their bytes hold, and lookups
-- can read what was written; each error, of reading the inputs or of records of which nothing can
-- be made, is a refusal
pub record OperationLaws (IsResult : Shard → Shard → Shard → Type 0)
    (IsFile : Option MDBFileInfo → Option MDBFileInfo → Option MDBFileInfo → Type 0)
    (IsXorb : Option MDBXorbInfo → Option MDBXorbInfo → Option MDBXorbInfo → Type 0)
    (Refusal : List ℕ → MDBShardInfo → List ℕ → MDBShardInfo → CoreError → Type 0) : Type 0 where
  pub written : (x : List ℕ) (i : MDBShardInfo) (y : List ℕ) (j : MDBShardInfo)
      (first second result : Records) (old new : Option (List ℕ)) (info : MDBShardInfo)
      → HaveInputs x i y j first second → AreCombined IsFile IsXorb first second result
      → WritesRecords result (key_of i) old new info → WritesResult IsResult x i y j old new info
  pub with_options : (x : List ℕ) (i : MDBShardInfo) (y : List ℕ) (j : MDBShardInfo)
      (old new : Option (List ℕ)) (info : MDBShardInfo) → FitsFooter info.metadata
      → WritesResult IsResult x i y j old new info → WritesReadable IsResult x i y j old new info
  pub not_read : (x : List ℕ) (i : MDBShardInfo) (y : List ℕ) (j : MDBShardInfo) (e : CoreError)
      → DifferenceRefusal x i y j e → Refusal x i y j e
  pub no_files : (x : List ℕ) (i : MDBShardInfo) (y : List ℕ) (j : MDBShardInfo) (e : CoreError)
      → key_of i ≡ key_of j → IsInvalidShard e
      → CannotCombine file_records (version_of i.header.version) (version_of j.header.version) IsFile
      (files_at x i) (files_at y j) → Refusal x i y j e
  pub no_xorbs : (x : List ℕ) (i : MDBShardInfo) (y : List ℕ) (j : MDBShardInfo) (e : CoreError)
      → key_of i ≡ key_of j → IsInvalidShard e
      → CannotCombine xorb_records V3 V3 IsXorb (xorbs_at x i) (xorbs_at y j) → Refusal x i y j e
