-- What has a name among the shards or the buffers of a script.
use Rattle.std.specs.Prelude.{List, ℕ, IsNone, IsSome}
use Rattle.std.specs.BTreeMap.{BTreeMap, get_by_text}
use Rattle.std.specs.declared.string.String.{String}

-- there is a value of this name
abbrev pub IsKnown : {X Y : Type 0} → BTreeMap (String Y) X → List ℕ → Type 0
IsKnown values name = IsSome (get_by_text values name)

-- there is no value of this name
abbrev pub IsUnknown : {X Y : Type 0} → BTreeMap (String Y) X → List ℕ → Type 0
IsUnknown values name = IsNone (get_by_text values name)
