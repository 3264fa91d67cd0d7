-- Ranges of hashes, and the records whose hashes pass a test, such as being in a range.
use Rattle.std.specs.Prelude.{◌≡◌, ⊤, Bool, true, not, ◌&&◌, List, [], ◌∷◌, Option, None, Some}
use Rattle.std.specs.List.{filter}
use Rattle.std.specs.Ordering.{is_lt}
use Rattle.xet_base.specs.declared.merklehash.DataHash.{DataHash}
use Rattle.xet_base.specs.Hash.{hash_cmp}
use Rattle.xet_records.specs.RecordKind.{RecordKind}
use Rattle.xet_shards.specs.Write.Tables.{hash_in}
use Rattle.placed_shards.specs.declared.range.HashRange.{HashRange}

-- whether a hash is not below another, if there is one
abbrev pub is_from : Option DataHash → DataHash → Bool
is_from None q = true
is_from (Some k) q = not (is_lt (hash_cmp q k))

-- whether a hash is below another, if there is one
abbrev pub is_before : Option DataHash → DataHash → Bool
is_before None q = true
is_before (Some k) q = is_lt (hash_cmp q k)

-- the range of all hashes
abbrev pub all_hashes : HashRange
all_hashes = record { from = None; to = None }

-- whether a hash is within a range
abbrev pub is_within : HashRange → DataHash → Bool
is_within range q = is_from range.from q && is_before range.to q

-- the records of a list whose hashes pass a test
abbrev pub records_passing : {H R : Type 0} → RecordKind H R → (DataHash → Bool) → List R → List R
records_passing K passes rs = filter (λ r. passes (hash_in K r)) rs

-- whether a hash is not above another, if there is one
abbrev pub is_up_to : Option DataHash → DataHash → Bool
is_up_to None q = true
is_up_to (Some k) q = not (is_lt (hash_cmp k q))

-- the ranges into which a range, given by its two bounds, is cut at these hashes
abbrev pub ranges_between : Option DataHash → List DataHash → Option DataHash → List HashRange
ranges_between from [] to = record { from = from; to = to } ∷ []
ranges_between from (k ∷ ks) to =
    record { from = from; to = Some k } ∷ ranges_between (Some k) ks to

-- a range, given by its two bounds, can be cut at these hashes: none is below the one before it,
-- and all are within the bounds
abbrev pub AreCuts : Option DataHash → List DataHash → Option DataHash → Type 0
AreCuts from [] to = ⊤
AreCuts from (k ∷ ks) to = (is_from from k ≡ true) × (is_up_to to k ≡ true) × AreCuts (Some k) ks to
