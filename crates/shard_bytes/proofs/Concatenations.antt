-- Concatenation of byte strings, by what it gives of parts and of shards.
use Rattle.std.proofs.Common.{◌≡◌, ◌⊎◌, inl, inr, ℕ, ◌<◌, Bor, List, length, map, None, ◌∙◌, sym, subst, arith}
use Rattle.std.specs.Prelude.{⊤, All}
use Rattle.std.specs.List.{AllZip}
use Rattle.std.proofs.lemmas.List.{length-map}
use Rattle.xet_base.specs.KeyedHash.{no_key}
use Rattle.xet_core_structures.specs.declared.error.CoreError.{CoreError}
use Rattle.xet_core_structures.specs.declared.error.CoreError.TheVariants.{OutOfMemory}
use Rattle.xet_core_structures.specs.declared.merklehash.DataHash.{DataHash}
use Rattle.xet_core_structures.specs.declared.record_reader.FormatVersion.{FormatVersion}
use Rattle.xet_core_structures.specs.Errors.{IsWriteError}
use Rattle.xet_core_structures.specs.Shard.{Shard, IsShard}
use Rattle.placed_shards.specs.MergedLists.{IsPartOf}
use Rattle.placed_shards.specs.Parts.{HasRecordsInOrder}
use Rattle.placed_shards.specs.Ranges.{is_within, ranges_between, AreCuts}
use Rattle.shard_concatenation.specs.Concatenation.{ShardPart, bytes_of_part, IsPartUnder, files_in, xorbs_in, parts_layout, AscendBoth, AreConsecutiveParts, AreBytesOf, latest_of, IsConcatenation, keyed_layout_in, IsHeldLayout, RefusesConcatenation}
use Rattle.shard_concatenation.proofs.Concatenation.{parts_of, consecutive_parts}
use Rattle.shard_concatenation.proofs.RangeParts.{ranges_concatenate}
use Rattle.shard_bytes.specs.Concatenations.{Concatenates}
use Rattle.shard_bytes.specs.Outcomes.{InMemory}

-- a failed allocation stays one
pub lacks_still : (e r : CoreError) → ((r ≡ OutOfMemory) × IsWriteError e) ⊎ ((r ≡ e) × (¬ IsWriteError e)) → e ≡ OutOfMemory → r ≡ OutOfMemory
lacks_still e r (inl (is, write)) lacks = is
lacks_still e r (inr (is, none)) lacks = is ∙ lacks

-- a concatenation, by what it gives
module _ (shards : List (Bor (List ℕ))) (Gives : (List ℕ → Type 0) → (CoreError → Type 0) → Type 0) where
  abbrev inputs : List (List ℕ)
  inputs = map (λ x. x.now) shards

  -- of parts that can be concatenated, and so of ranges that follow one another
  abbrev GivesOfParts : Type 0
  GivesOfParts = (key : DataHash) → (parts : List ShardPart) → AreConsecutiveParts key parts → map bytes_of_part parts ≡ inputs → Gives (λ bytes. bytes ≡ parts_layout key parts) (λ e. e ≡ OutOfMemory)

  of_ranges : GivesOfParts → (version : FormatVersion) → (key : DataHash) → (cuts : List DataHash) → (join : Shard) → (parts : List Shard) → IsShard join → AreCuts None cuts None
      → AllZip (λ range part. IsPartOf (is_within range) join part) (ranges_between None cuts None) parts → AllZip (IsHeldLayout version key) parts inputs
      → Gives (λ bytes. bytes ≡ keyed_layout_in version join key) (λ e. e ≡ OutOfMemory)
  of_ranges gives version key cuts join parts shard are_cuts are_parts are =
      let all = ranges_concatenate version key cuts join parts inputs are_cuts are_parts are in
      subst (λ layout. Gives (λ bytes. bytes ≡ layout) (λ e. e ≡ OutOfMemory)) all.whole_is (gives key all.parts (all.row shard) all.are)

  -- an error, of which more is known where parts can be concatenated
  module _ (e : CoreError) (fails : (IsMade : List ℕ → Type 0) (IsCause : CoreError → Type 0) → IsCause e → Gives IsMade IsCause) (cause : InMemory (RefusesConcatenation inputs) e)
      (known : (key : DataHash) → (parts : List ShardPart) → AreConsecutiveParts key parts → map bytes_of_part parts ≡ inputs → e ≡ OutOfMemory) where
    shard_fails : (written : List Shard) → (all : Shard) → IsShard all → HasRecordsInOrder written all → AreBytesOf written inputs → 0 < length inputs → e ≡ OutOfMemory
    shard_fails written all shard row is some =
        let parts = parts_of written inputs is in
        known no_key parts.parts (consecutive_parts written shards all shard row is parts (omega (arith, some, length-map shards (λ (x : Bor (List ℕ)). x.now)))) parts.are

    pub none_concatenated : Concatenates inputs Gives
    none_concatenated = record {
      causes = fails _ _ cause;
      parts = λ key parts fit are. fails _ _ cause;
      order = λ key parts fit are each. fails _ _ cause;
      succeeds = λ key parts row are. fails _ _ (known key parts row are);
      shard = λ written is. fails _ _ cause;
      shard_succeeds = λ written all shard row is some. fails _ _ (shard_fails written all shard row is some);
      ranges = of_ranges (λ key parts row are. fails _ _ (known key parts row are));
    }

  -- bytes that were made
  module _ (Makes : (List ℕ → Type 0) → Type 0) (gives : (M : List ℕ → Type 0) → Makes M → (IsCause : CoreError → Type 0) → Gives M IsCause) (some : Makes (λ _. ⊤))
      (layout : (key : DataHash) → (parts : List ShardPart) → All (IsPartUnder key) parts → map bytes_of_part parts ≡ inputs → Makes (λ bytes. bytes ≡ parts_layout key parts))
      (ascend : (key : DataHash) → (parts : List ShardPart) → All (IsPartUnder key) parts → map bytes_of_part parts ≡ inputs → All (λ part. AscendBoth part.files part.xorbs) parts
      → Makes (λ _. AscendBoth (files_in parts) (xorbs_in parts)))
      (row : (written : List Shard) → (is : AreBytesOf written inputs) → Makes (IsConcatenation (latest_of written inputs is) written)) where
    pub concatenates : Concatenates inputs Gives
    concatenates = record {
      causes = gives (λ _. ⊤) some _;
      parts = λ key parts fit are. gives _ (layout key parts fit are) _;
      order = λ key parts fit are each. gives _ (ascend key parts fit are each) _;
      succeeds = λ key parts in_row are. gives _ (layout key parts in_row.fit are) _;
      shard = λ written is. gives _ (row written is) _;
      shard_succeeds = λ written all shard in_row is enough. gives _ (row written is) _;
      ranges = of_ranges (λ key parts in_row are. gives _ (layout key parts in_row.fit are) _);
    }
