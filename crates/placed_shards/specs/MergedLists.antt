-- What is merged of a list of byte strings.
use Rattle.std.specs.Prelude.{◌≡◌, ℕ, ◌/◌, ◌<◌, Bool, List, [], ◌∷◌, ◌++◌, length, Contains, None, if◌then◌else◌}
use Rattle.std.specs.FinMap.{FinMap, get, values}
use Rattle.std.specs.List.{AllZip}
use Rattle.xet_base.specs.declared.error.CoreError.{CoreError}
use Rattle.xet_base.specs.declared.error.CoreError.TheVariants.{InvalidArguments, OutOfMemory}
use Rattle.xet_base.specs.declared.merklehash.DataHash.{DataHash}
use Rattle.xet_base.specs.Hash.{hash_cmp}
use Rattle.xet_shards.specs.Content.Joins.{IsJoinOf, AgreePairwise}
use Rattle.xet_shards.specs.Content.Shard.{Shard, IsShard}
use Rattle.xet_core_structures.specs.TwoShards.ByteResults.{keyed_options}
use Rattle.placed_shards.specs.declared.selection.Selection.{Selection}
use Rattle.placed_shards.specs.Content.{Content}
use Rattle.placed_shards.specs.Selections.{OpensSelected, SelectedRefusal}
use Rattle.placed_shards.specs.Unions.{IsUnionOf, UnionRefusal}

-- a map is the restriction of another to the hashes that pass a test
abbrev pub IsRestriction : {X : Type 0} → (DataHash → Bool) → FinMap hash_cmp X → FinMap hash_cmp X → Type 0
IsRestriction passes whole part = (q : DataHash) → get part q ≡ (if passes q then get whole q else None)

-- a shard has the records of another whose hashes pass a test
pub record IsPartOf (passes : DataHash → Bool) (whole part : Shard) : Type 0 where
  pub files : IsRestriction passes whole.files part.files
  pub xorbs : IsRestriction passes whole.xorbs part.xorbs

-- a list of two or more, and both its halves
pub record AreHalves (inputs firsts seconds : List (List ℕ)) : Type 0 where
  pub some : 1 < length inputs
  pub are : inputs ≡ firsts ++ seconds
  pub half : length firsts ≡ length inputs / 2

module _ (selection : Selection) where
  -- what byte strings are merged to: one, to its records that are selected; more, to the union of
  -- what both halves of the list are merged to
  pub data IsMergeOf : List (List ℕ) → Content → Type 0 where
    of_one : {inputs : List (List ℕ)} {made : Content} (x : List ℕ)
        → inputs ≡ x ∷ [] → OpensSelected selection x made → IsMergeOf inputs made
    of_halves : {inputs : List (List ℕ)} {made : Content} (firsts seconds : List (List ℕ))
        (c d : Content) → AreHalves inputs firsts seconds → IsMergeOf firsts c
        → IsMergeOf seconds d → IsUnionOf c d made → IsMergeOf inputs made

  -- why byte strings are not merged: an allocation failed; there are none; there is one, of which
  -- the records are not found; or there are more, and the first half is not merged, or it is and
  -- the second is not, or both are and have no union
  pub data MergeRefusal : List (List ℕ) → CoreError → Type 0 where
    no_memory : {inputs : List (List ℕ)} {e : CoreError} → e ≡ OutOfMemory → MergeRefusal inputs e
    of_none : {inputs : List (List ℕ)} {e : CoreError} → inputs ≡ [] → e ≡ InvalidArguments
        → MergeRefusal inputs e
    not_read : {inputs : List (List ℕ)} {e : CoreError} (x : List ℕ) → inputs ≡ x ∷ []
        → SelectedRefusal selection x e → MergeRefusal inputs e
    of_first : {inputs : List (List ℕ)} {e : CoreError} (firsts seconds : List (List ℕ))
        → AreHalves inputs firsts seconds → MergeRefusal firsts e → MergeRefusal inputs e
    of_second : {inputs : List (List ℕ)} {e : CoreError} (firsts seconds : List (List ℕ))
        (c : Content) → AreHalves inputs firsts seconds → IsMergeOf firsts c
        → MergeRefusal seconds e → MergeRefusal inputs e
    of_union : {inputs : List (List ℕ)} {e : CoreError} (firsts seconds : List (List ℕ))
        (c d : Content) → AreHalves inputs firsts seconds → IsMergeOf firsts c
        → IsMergeOf seconds d → UnionRefusal c d e → MergeRefusal inputs e

-- the records of a shard, with all tables, a key, creation 0 and no expiry
abbrev pub shard_content : DataHash → Shard → Content
shard_content key s =
    record { files = values s.files; xorbs = values s.xorbs; options = keyed_options key }

-- the records of bytes that are selected are those of this well-formed shard, under a key
pub record HoldsSelected (selection : Selection) (key : DataHash) (x : List ℕ) (part : Shard)
    : Type 0 where
  pub shard : IsShard part
  pub opens : OpensSelected selection x (shard_content key part)

-- of byte strings, at least one, the records that are selected are those of these well-formed shards,
-- under one key; each two of them agree, and this is their join
pub record IsMergeOfList (selection : Selection) (key : DataHash) (inputs : List (List ℕ))
    (parts : List Shard) (join : Shard) : Type 0 where
  pub some : 0 < length inputs
  pub are_held : AllZip (HoldsSelected selection key) inputs parts
  pub agree : AgreePairwise (Contains parts)
  pub is_join : IsJoinOf (Contains parts) join
