-- Concatenation of byte strings.
use Rattle.std.specs.Prelude.{◌≡◌, ◌<◌, ⊤, ℕ, List, All, None, map, length}
use Rattle.std.specs.List.{AllZip}
use Rattle.xet_core_structures.specs.declared.error.CoreError.{CoreError}
use Rattle.xet_core_structures.specs.declared.error.CoreError.TheVariants.{OutOfMemory}
use Rattle.xet_core_structures.specs.declared.merklehash.DataHash.{DataHash}
use Rattle.xet_core_structures.specs.declared.record_reader.FormatVersion.{FormatVersion}
use Rattle.xet_core_structures.specs.Shard.{Shard, IsShard}
use Rattle.placed_shards.specs.MergedLists.{IsPartOf}
use Rattle.placed_shards.specs.Parts.{HasRecordsInOrder}
use Rattle.placed_shards.specs.Ranges.{is_within, ranges_between, AreCuts}
use Rattle.shard_concatenation.specs.Concatenation.{ShardPart, bytes_of_part, IsPartUnder, files_in, xorbs_in, parts_layout, AscendBoth, AreConsecutiveParts, AreBytesOf, latest_of, IsConcatenation, keyed_layout_in, IsHeldLayout, RefusesConcatenation}
pub use Rattle.shard_concatenation.specs.Spans.{FillsSpan, FillsSpanWith}
use Rattle.shard_bytes.specs.Outcomes.{InMemory}

-- byte strings are concatenated: `Gives IsMade IsCause` says that bytes with the one property are
-- made, or that there is an error with the other
pub record Concatenates (inputs : List (List ℕ))
    (Gives : (List ℕ → Type 0) → (CoreError → Type 0) → Type 0) : Type 0 where
  pub causes : Gives (λ _. ⊤) (InMemory (RefusesConcatenation inputs))
  -- parts under one key give the layout of their records
  pub parts : (key : DataHash) → (parts : List ShardPart) → All (IsPartUnder key) parts
      → map bytes_of_part parts ≡ inputs
      → Gives (λ bytes. bytes ≡ parts_layout key parts) (InMemory (RefusesConcatenation inputs))
  -- whose hashes then ascend
  pub order : (key : DataHash) → (parts : List ShardPart) → All (IsPartUnder key) parts
      → map bytes_of_part parts ≡ inputs → All (λ part. AscendBoth part.files part.xorbs) parts
      → Gives (λ _. AscendBoth (files_in parts) (xorbs_in parts))
      (InMemory (RefusesConcatenation inputs))
  -- parts that can be concatenated are
  pub succeeds : (key : DataHash) → (parts : List ShardPart) → AreConsecutiveParts key parts
      → map bytes_of_part parts ≡ inputs
      → Gives (λ bytes. bytes ≡ parts_layout key parts) (λ e. e ≡ OutOfMemory)
  -- bytes of shards give those of the shard that has their records, in the latest of their versions
  pub shard : (shards : List Shard) → (are : AreBytesOf shards inputs)
      → Gives (IsConcatenation (latest_of shards inputs are) shards)
      (InMemory (RefusesConcatenation inputs))
  -- if there is one
  pub shard_succeeds : (shards : List Shard) → (all : Shard) → IsShard all → HasRecordsInOrder shards all
      → (are : AreBytesOf shards inputs) → 0 < length inputs
      → Gives (IsConcatenation (latest_of shards inputs are) shards) (λ e. e ≡ OutOfMemory)
  -- merges, in one version, of ranges that follow one another give those of the whole
  pub ranges : (version : FormatVersion) → (key : DataHash) → (cuts : List DataHash)
      → (join : Shard) → (parts : List Shard) → IsShard join → AreCuts None cuts None
      → AllZip (λ range part. IsPartOf (is_within range) join part) (ranges_between None cuts None)
      parts → AllZip (IsHeldLayout version key) parts inputs
      → Gives (λ bytes. bytes ≡ keyed_layout_in version join key) (λ e. e ≡ OutOfMemory)
