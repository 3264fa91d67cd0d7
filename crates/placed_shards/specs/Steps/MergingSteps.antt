-- The steps of a merge.
use Rattle.std.specs.Prelude.{◌≡◌, ◌↔◌, ℕ, Bool, true, IsTrue, List, Contains}
use Rattle.xet_base.specs.declared.error.CoreError.{CoreError}
use Rattle.placed_shards.specs.declared.placed_shard.PlacedShard.{PlacedShard}
use Rattle.placed_shards.specs.declared.selection.Selection.{Selection}
use Rattle.placed_shards.specs.Content.{Content, content, AscendBoth}
use Rattle.placed_shards.specs.Findings.{AgreeInAll}
use Rattle.placed_shards.specs.MergedLists.{IsMergeOf, MergeRefusal}
use Rattle.placed_shards.specs.Selections.{OpensSelected}
use Rattle.placed_shards.specs.Strict.{AreAgreeing}

-- byte strings agree, and what agrees with all of them is what agrees with another shard
pub record StandsFor (selection : Selection) (inputs : List (List ℕ)) (made : Content) : Type 0 where
  pub agreeing : AreAgreeing selection inputs
  pub stands : (t : Content)
      → AgreeInAll t made ↔ ((c : Content) → Contains agreeing.contents c → AgreeInAll t c)

-- byte strings are merged to a shard that may be united with others; and they agree, if they have to
pub record IsMerged (strict : Bool) (selection : Selection) (inputs : List (List ℕ)) (s : PlacedShard)
    : Type 0 where
  pub as_read : s.as_read ≡ true
  pub ascend : AscendBoth (content s)
  pub is : IsMergeOf selection inputs (content s)
  pub stands : IsTrue strict → StandsFor selection inputs (content s)

-- why byte strings are not merged, unless they have to agree and don't
abbrev pub NotMerged : Bool → Selection → List (List ℕ) → CoreError → Type 0
NotMerged strict selection inputs e =
    (IsTrue strict → AreAgreeing selection inputs) → MergeRefusal selection inputs e

-- a shard that may be united with others has the records of bytes that are selected
pub record IsOpenedAlone (selection : Selection) (bytes : List ℕ) (s : PlacedShard) : Type 0 where
  pub as_read : s.as_read ≡ true
  pub ascend : AscendBoth (content s)
  pub opens : OpensSelected selection bytes (content s)
