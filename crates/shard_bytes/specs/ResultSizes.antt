-- How large results are.
use Rattle.std.specs.Prelude.{⊤, ℕ, ◌+◌, ◌*◌, ◌≤◌, List, [], ◌∷◌, length}
use Rattle.std.specs.declared.vec.Vec.{Vec}
use Rattle.placed_shards.specs.declared.strict.Agreed.{Agreed}
use Rattle.placed_shards.specs.declared.strict.Agreed.TheVariants.{Made, Disagreements, Malformed}
use Rattle.placed_shards.specs.MergeSizes.{IsResultSize}
use Rattle.shard_bytes.specs.declared.combine.Operation.{Operation}
use Rattle.shard_bytes.specs.declared.combine.Operation.TheVariants.{Union, Difference}

-- the inputs of an operation whose records its result may have
abbrev pub sources_of : Operation → List ℕ → List ℕ → List (List ℕ)
sources_of Union x y = x ∷ y ∷ []
sources_of Difference x y = y ∷ []

-- a merge of shards that have to agree, if they do, has at most so many bytes as one of any shards
abbrev pub HasResultSize : {Z : Type 0} → List (List ℕ) → Agreed (Vec ℕ Z) → Type 0
HasResultSize inputs (Made bytes) = IsResultSize inputs (length bytes.items)
HasResultSize inputs (Disagreements found) = ⊤
HasResultSize inputs (Malformed m) = ⊤

-- what is written again of the records in a byte string, with lookup tables, has at most so many
-- bytes: 344, and 4/3 of its
abbrev pub IsRewriteSize : List ℕ → ℕ → Type 0
IsRewriteSize bytes size = 3 * size ≤ 3 * 344 + 4 * length bytes

-- what is written again of the records in a byte string, without lookup tables, has at most 200
-- bytes more than it
abbrev pub IsMinimalSize : List ℕ → ℕ → Type 0
IsMinimalSize bytes size = size ≤ 200 + length bytes
