-- What a union or a difference of two sources does: one record, whose fields are the facts.
use Rattle.std.specs.Prelude.{◌≡◌, ◌⊎◌, IfOk, OnOk, MatchResult}
use Rattle.std.specs.declared.result.Result.{Result}
use Rattle.xet_base.specs.declared.error.CoreError.{CoreError}
use Rattle.xet_base.specs.Errors.{CoreResult, IsWriteError}
use Rattle.xet_base.specs.Source.{NoFailure}
use Rattle.xet_shards.specs.declared.shard_format.ends.info.MDBShardInfo.{MDBShardInfo}
use Rattle.xet_shards.specs.Ends.Ends.{FitsFooter}
use Rattle.xet_shards.specs.Content.SetOperations.{IsDifference}
use Rattle.xet_shards.specs.Content.Shard.{Shard}
use Rattle.xet_core_structures.specs.Records.ByteUnion.{IsByteUnion}
use Rattle.xet_core_structures.specs.TwoShards.ByteResults.{WritesResult, InputsFail, UnionRefusal, DifferenceRefusal}
use Rattle.xet_core_structures.specs.Records.ShardContents.{ReadsOnlySections}
use Rattle.xet_core_structures.specs.TwoShards.Readable.{WritesReadable}
use Rattle.xet_core_structures.specs.TwoShards.Streams.{Streams}

-- an operation between two states of its sources and its output, with the headers and footers of
-- its sources: what it wrote or why it failed, that lookups can read it, what it read, that no
-- device failed, that the sources keep their bytes, and that the footer's numbers are within their
-- widths
pub record Operates {E : Type 0} (IsResult : Shard → Shard → Shard → Type 0) (Fails : E → Type 0)
    (i j : MDBShardInfo) (old new : Streams) (result : Result MDBShardInfo E) : Type 0 where
  pub written : MatchResult result
      (WritesResult IsResult old.first.bytes i old.second.bytes j old.out new.out) Fails
  pub with_options : IfOk result
      (WritesReadable IsResult old.first.bytes i old.second.bytes j old.out new.out)
  pub costs : OnOk result
      (ReadsOnlySections i old.first new.first × ReadsOnlySections j old.second new.second)
  pub no_failure : OnOk result (NoFailure old.first new.first × NoFailure old.second new.second)
  pub sources : (new.first.bytes ≡ old.first.bytes) × (new.second.bytes ≡ old.second.bytes)
  pub widths : IfOk result (λ info. FitsFooter info.metadata)

-- why an operation fails: the output's device or an allocation; or a source's device, or the
-- refusal of what the sources have
abbrev pub OperationFails : (CoreError → Type 0) → Streams → Streams → CoreError → Type 0
OperationFails Refusal old new e =
    IsWriteError e ⊎ InputsFail old.first new.first old.second new.second Refusal e

-- the union of two sources, given their headers and footers
abbrev pub Unites : MDBShardInfo → MDBShardInfo → Streams → Streams → CoreResult MDBShardInfo
    → Type 0
Unites i j old new =
    Operates IsByteUnion
    (OperationFails (UnionRefusal old.first.bytes i old.second.bytes j) old new) i j old new

-- the difference of two sources, given their headers and footers
abbrev pub Subtracts : MDBShardInfo → MDBShardInfo → Streams → Streams → CoreResult MDBShardInfo
    → Type 0
Subtracts i j old new =
    Operates IsDifference
    (OperationFails (DifferenceRefusal old.first.bytes i old.second.bytes j) old new) i j old new
