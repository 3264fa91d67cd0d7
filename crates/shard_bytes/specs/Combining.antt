-- What the union or the difference of the shards that two byte strings hold is, and why there is
-- none.
use Rattle.std.specs.Prelude.{◌≡◌, ◌⊎◌, ℕ, List}
use Rattle.xet_core_structures.specs.declared.error.CoreError.{CoreError}
use Rattle.xet_core_structures.specs.declared.error.CoreError.TheVariants.{OutOfMemory}
use Rattle.placed_shards.specs.Content.{Content}
use Rattle.placed_shards.specs.Opening.{Opens, ShardRefusal}
use Rattle.placed_shards.specs.Unions.{IsUnionOf, UnionRefusal, IsDifferenceOf, DifferenceRefusal}
use Rattle.shard_bytes.specs.declared.combine.Operation.{Operation}
use Rattle.shard_bytes.specs.declared.combine.Operation.TheVariants.{Union, Difference}

-- what an operation makes of two shards
abbrev pub IsResultOf : Operation → (c d made : Content) → Type 0
IsResultOf Union = IsUnionOf
IsResultOf Difference = IsDifferenceOf

-- why an operation makes nothing of two shards
abbrev pub RefusalOf : Operation → (c d : Content) → CoreError → Type 0
RefusalOf Union = UnionRefusal
RefusalOf Difference = DifferenceRefusal

-- what an operation makes of the shards that two byte strings hold
abbrev pub CombinesTo : Operation → (x y : List ℕ) → Content → Type 0
CombinesTo operation x y made =
    (c d : Content) × Opens x c × Opens y d × IsResultOf operation c d made

-- why it makes nothing of two byte strings: an allocation failed; the first is not read; it is, and
-- the second is not; or both are, and there is no result
abbrev pub RefusesCombining : Operation → (x y : List ℕ) → CoreError → Type 0
RefusesCombining operation x y e =
    (e ≡ OutOfMemory) ⊎ ShardRefusal x e ⊎ ((c : Content) × Opens x c × ShardRefusal y e)
    ⊎ ((c d : Content) × Opens x c × Opens y d × RefusalOf operation c d e)
