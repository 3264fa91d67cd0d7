-- Merges of byte strings whose shards have to be well-formed, and to agree.
use Rattle.std.specs.Prelude.{◌≡◌, ◌⊎◌, ℕ, ◌<◌, List, length, All, Contains}
use Rattle.xet_base.specs.declared.error.CoreError.{CoreError}
use Rattle.xet_base.specs.declared.merklehash.DataHash.{DataHash}
use Rattle.xet_shards.specs.Content.Shard.{Shard}
use Rattle.placed_shards.specs.declared.selection.Selection.{Selection}
use Rattle.placed_shards.specs.declared.strict.Agreed.{Agreed}
use Rattle.placed_shards.specs.declared.strict.Agreed.TheVariants.{Made, Disagreements, Malformed}
use Rattle.placed_shards.specs.Content.{Content}
use Rattle.placed_shards.specs.Findings.{AgreeInAll, AreOpened, HasFormedRecords, HasAllDisagreements, FirstRefusal, IsFirstMalformed}
use Rattle.placed_shards.specs.MergedLists.{IsMergeOf, IsMergeOfList, shard_content}

-- of byte strings the records that are selected are well-formed, and those of each two agree
pub record AreAgreeing (selection : Selection) (inputs : List (List ℕ)) : Type 0 where
  pub contents : List Content
  pub opened : AreOpened selection inputs contents
  pub formed : All HasFormedRecords contents
  pub agree : (c d : Content) → Contains contents c → Contains contents d → AgreeInAll c d

-- what a call gives of byte strings that have to agree: if they do, what it makes, of which `IsMade`
-- holds; else all that disagree, if their records are well-formed, or a record that no shard may have
abbrev pub IsAgreedOr : {T : Type 0} → Selection → List (List ℕ) → (T → Type 0) → Agreed T → Type 0
IsAgreedOr selection inputs IsMade (Made made) = AreAgreeing selection inputs × IsMade made
IsAgreedOr selection inputs IsMade (Disagreements found) =
    (¬ AreAgreeing selection inputs) × (0 < length found.items)
    × ((cs : List Content) × AreOpened selection inputs cs × All HasFormedRecords cs
    × HasAllDisagreements cs found.items)
IsAgreedOr selection inputs IsMade (Malformed m) =
    (¬ AreAgreeing selection inputs) × IsFirstMalformed selection inputs m

-- why there is none of these: an allocation failed; or an input is not read, and each before it holds
-- well-formed records; or all agree, and nothing is made of them
abbrev pub AgreedRefusal : Selection → List (List ℕ) → (CoreError → Type 0) → CoreError → Type 0
AgreedRefusal selection inputs Refuses e =
    FirstRefusal selection HasFormedRecords inputs e ⊎ (AreAgreeing selection inputs × Refuses e)

-- the merge of byte strings: the join of the shards of their records that are selected
pub record IsJoinedMerge (selection : Selection) (inputs : List (List ℕ)) (made : Content) : Type 0 where
  pub merge : IsMergeOf selection inputs made
  pub key : DataHash
  pub parts : List Shard
  pub join : Shard
  pub list : IsMergeOfList selection key inputs parts join
  pub is : made ≡ shard_content key join
