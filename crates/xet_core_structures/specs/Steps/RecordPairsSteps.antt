-- Steps towards what `RecordPairs` defines, which only contracts inside the crate speak of.
use Rattle.std.specs.Prelude.{◌≡◌, ◌⊎◌, Option, None, Some, is_some, if◌then◌else◌}
use Rattle.std.specs.declared.cmp.Ordering.TheVariants.{Less}
use Rattle.xet_base.specs.Hash.{hash_cmp}
use Rattle.xet_base.specs.declared.merklehash.DataHash.{DataHash}

-- the second's record, unless the first has one
abbrev pub IsRest : {R : Type 0} → Option R → Option R → Option R → Type 0
IsRest a b c = c ≡ (if is_some a then None else b)

-- the next headers of two sections, if any: the one with the lesser hash, or both if their hashes are
-- equal
abbrev pub IsNextPair : {H : Type 0} → (H → DataHash) → Option H → Option H → Option H → Option H
    → Type 0
IsNextPair hash None q a b = (a ≡ None) × (b ≡ q)
IsNextPair hash (Some g) None a b = (a ≡ Some g) × (b ≡ None)
IsNextPair hash (Some g) (Some h) a b =
    ((hash_cmp (hash g) (hash h) ≡ Less) × (a ≡ Some g) × (b ≡ None))
    ⊎ ((hash_cmp (hash h) (hash g) ≡ Less) × (a ≡ None) × (b ≡ Some h))
    ⊎ ((hash g ≡ hash h) × (a ≡ Some g) × (b ≡ Some h))

-- headers with one hash, where there are any
abbrev pub AreOfOneHash : {H : Type 0} → (H → DataHash) → Option H → Option H → Type 0
AreOfOneHash hash (Some g) (Some h) = hash g ≡ hash h
AreOfOneHash hash a b = Unit {0}
