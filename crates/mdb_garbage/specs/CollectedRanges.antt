-- Ranges of hashes, and what is collected for one.
use Rattle.std.specs.Prelude.{◌&&◌, Bool, true, not, IsTrue, List, Option, None, Some, Contains}
use Rattle.std.specs.Ordering.{is_lt}
use Rattle.xet_base.specs.declared.merklehash.DataHash.{DataHash}
use Rattle.xet_base.specs.Hash.{hash_cmp}
use Rattle.xet_records.specs.declared.file_structs.MDBFileInfo.{MDBFileInfo}
use Rattle.mdb_garbage.specs.declared.range.HashRange.{HashRange}
use Rattle.mdb_garbage.specs.declared.finding.Segment.{Segment}
use Rattle.mdb_garbage.specs.Garbage.{IsSegment}

-- whether a hash is not below a limit, if there is one
abbrev pub is_from : Option DataHash → DataHash → Bool
is_from None hash = true
is_from (Some from) hash = not (is_lt (hash_cmp hash from))

-- whether a hash is below a limit, if there is one
abbrev pub is_below : Option DataHash → DataHash → Bool
is_below None hash = true
is_below (Some to) hash = is_lt (hash_cmp hash to)

-- whether a hash is in a range
abbrev pub in_range : HashRange → DataHash → Bool
in_range range hash = is_from range.from hash && is_below range.to hash

-- a hash is in a range
abbrev pub InRange : HashRange → DataHash → Type 0
InRange range hash = IsTrue (in_range range hash)

-- a list has of those values that a fact is true of, but no others, all whose hashes are in a range
pub record Collects {X : Type 0} (range : HashRange) (hash_of : X → DataHash) (P : X → Type 0)
    (xs : List X) : Type 0 where
  pub each : (x : X) → Contains xs x → P x
  pub all : (x : X) → P x → InRange range (hash_of x) → Contains xs x

-- the segments of files that name hashes in a range
abbrev pub HoldsSegments : List MDBFileInfo → HashRange → List Segment → Type 0
HoldsSegments files range segments = Collects range (λ s. s.xorb) (IsSegment files) segments
