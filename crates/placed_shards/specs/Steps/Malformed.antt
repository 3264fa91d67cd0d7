-- Steps towards finding records that no shard may have.
use Rattle.std.specs.Prelude.{◌≡◌, List, map, All, Contains, Option, MatchOption}
use Rattle.xet_base.specs.declared.merklehash.DataHash.{DataHash}
use Rattle.xet_records.specs.RecordKind.{RecordKind}
use Rattle.xet_core_structures.specs.Records.RecordPairs.{key_of_record}

-- all records, as reading returns them, are such as a shard may have, or this is the hash of one
-- that is not
abbrev pub FindsMalformed : {H R : Type 0} → RecordKind H R → (R → Type 0) → List R
    → Option DataHash → Type 0
FindsMalformed {R = R} K IsFormed rs found =
    MatchOption found (All IsFormed (map K.as_read rs))
    (λ q. (r : R) × Contains (map K.as_read rs) r × (key_of_record K r ≡ q) × (¬ IsFormed r))
