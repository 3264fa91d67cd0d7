-- What shards are to be opened.
use Rattle.std.specs.Prelude.{◌≡◌, ◌⊎◌, ℕ, List}
use Rattle.xet_base.specs.declared.error.CoreError.{CoreError}
use Rattle.xet_base.specs.declared.error.CoreError.TheVariants.{OutOfMemory}
use Rattle.xet_base.specs.Errors.{IsEndOfInput, IsInvalidShard}
use Rattle.xet_shards.specs.declared.shard_format.ends.info.MDBShardInfo.{MDBShardInfo}
use Rattle.xet_shards.specs.Ends.Ends.{HasHeaderAndFooter}
use Rattle.xet_shards.specs.Read.SectionsBehindHeader.{options_of}
use Rattle.xet_core_structures.specs.Records.ShardContents.{IsTruncated, IsMalformed}
use Rattle.xet_core_structures.specs.Steps.ShardContentsSteps.{HoldsLists}
use Rattle.xet_core_structures.specs.TwoShards.ByteResults.{LoadRefusal}
use Rattle.placed_shards.specs.Content.{Content}

-- the bytes have a header and a footer, which leads to sections of these records, as reading returns
-- them, whose hashes strictly ascend; and these are the options that they name
pub record Opens (bytes : List ℕ) (c : Content) : Type 0 where
  pub info : MDBShardInfo
  pub ends : HasHeaderAndFooter bytes info
  pub lists : HoldsLists bytes info c.files c.xorbs
  pub options_are : c.options ≡ options_of info

-- why sections are not read from memory
abbrev pub SectionsRefusal : List ℕ → MDBShardInfo → CoreError → Type 0
SectionsRefusal bytes info e =
    (e ≡ OutOfMemory) ⊎ (IsEndOfInput e × IsTruncated bytes info) ⊎ (IsInvalidShard e × IsMalformed bytes info)

-- why no shard is read from bytes: header and footer are not read; or they are, and then a section
-- is not read
abbrev pub ShardRefusal : List ℕ → CoreError → Type 0
ShardRefusal bytes e =
    LoadRefusal bytes e ⊎ ((info : MDBShardInfo) × HasHeaderAndFooter bytes info × SectionsRefusal bytes info e)
