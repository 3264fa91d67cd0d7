-- Bytes that were written for a shard.
use Rattle.std.specs.Prelude.{◌≡◌, ◌⊎◌, ⊤, ℕ, ◌^◌, ◌<◌, false, List, Option, None, IfSome, MatchResult}
use Rattle.std.specs.declared.vec.Vec.{Vec}
use Rattle.xet_base.specs.declared.error.CoreError.TheVariants.{OutOfMemory}
use Rattle.xet_base.specs.Errors.{CoreResult}
use Rattle.xet_base.specs.Source.{Source, DeviceFailure}
use Rattle.xet_records.specs.declared.record_reader.FormatVersion.{FormatVersion}
use Rattle.xet_records.specs.declared.record_reader.FormatVersion.TheVariants.{V2, V3}
use Rattle.xet_shards.specs.declared.shard_format.ends.info.MDBShardInfo.{MDBShardInfo}
use Rattle.xet_shards.specs.Ends.Ends.{HasHeaderAndFooter}
use Rattle.xet_shards.specs.Content.Shard.{Shard, IsShard, has_aux_rows}
use Rattle.xet_shards.specs.Write.Layout.{layout, layout_in}

-- a version has the files of a shard: version 2 has no auxiliary rows
abbrev pub HasFilesIn : FormatVersion → Shard → Type 0
HasFilesIn V2 s = has_aux_rows s ≡ false
HasFilesIn V3 s = ⊤

-- the bytes are this shard's: its layout in a version that has its files, with an expiry of 64 bits
-- or none
pub record IsBytesOf (s : Shard) (bytes : List ℕ) : Type 0 where
  pub shard : IsShard s
  pub version : FormatVersion
  pub files : HasFilesIn version s
  pub expiry : Option ℕ
  pub expiry_fits : IfSome expiry (λ e. e < 2 ^ 64)
  pub bytes_are : bytes ≡ layout_in version s expiry

-- the bytes are this shard's, and this is the header and the footer in them
pub record IsBytesWithInfo (s : Shard) (bytes : List ℕ) (info : MDBShardInfo) : Type 0 where
  pub is_bytes : IsBytesOf s bytes
  pub ends : HasHeaderAndFooter bytes info

-- the bytes are this shard's in version 3 and without expiry
pub record IsBytesWithoutExpiry (s : Shard) (bytes : List ℕ) : Type 0 where
  pub shard : IsShard s
  pub bytes_are : bytes ≡ layout s None

-- these items were read, unless the device failed or an allocation
abbrev pub ReadsBack : {T Z : Type 0} → List T → Source → Source → CoreResult (Vec T Z) → Type 0
ReadsBack items old new result =
    MatchResult result (λ found. found.items ≡ items)
    (λ e. DeviceFailure old new e ⊎ (e ≡ OutOfMemory))

-- on the bytes of a shard, these items of it were read
abbrev pub ReadsOfShard : {T Z : Type 0} → (Shard → List T) → Source → Source → MDBShardInfo
    → CoreResult (Vec T Z) → Type 0
ReadsOfShard items old new info result =
    (s : Shard) → IsBytesWithInfo s old.bytes info → ReadsBack (items s) old new result
