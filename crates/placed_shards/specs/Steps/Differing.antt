-- Lists of records: under which hashes two of them have records that do not agree.
use Rattle.std.specs.Prelude.{◌≡◌, ◌⊎◌, ℕ, ◌<◌, ◌≤◌, true, List, [], ◌∷◌, ◌++◌, length, map, Contains, Option, Some, option_and_then, slice_get}
use Rattle.std.specs.List.Sorted.{IsStrictlySortedBy}
use Rattle.std.specs.Ordering.{ordering_then, nat_cmp}
use Rattle.std.specs.declared.cmp.Ordering.{Ordering}
use Rattle.std.specs.declared.cmp.Ordering.TheVariants.{Less}
use Rattle.xet_base.specs.declared.merklehash.DataHash.{DataHash}
use Rattle.xet_base.specs.Hash.{hash_cmp}
use Rattle.xet_records.specs.RecordKind.{RecordKind}
use Rattle.xet_core_structures.specs.Records.RecordPairs.{key_of_record, with_hash}
use Rattle.placed_shards.specs.declared.differing.Differing.{Differing}
use Rattle.placed_shards.specs.declared.findings.Disagreement.{Disagreement}
use Rattle.placed_shards.specs.declared.findings.RecordHash.{RecordHash}
use Rattle.placed_shards.specs.declared.places.Place.{Place}
use Rattle.placed_shards.specs.declared.placed_shard.PlacedShard.{PlacedShard}
use Rattle.placed_shards.specs.Agreement.{AgreeIfBoth}
use Rattle.placed_shards.specs.Content.{content, AscendBoth}

-- a shard's records are taken as reading returns them, and their hashes strictly ascend
pub record IsReadInOrder (s : PlacedShard) : Type 0 where
  pub as_read : s.as_read ≡ true
  pub ascend : AscendBoth (content s)

-- places in the order of hashes, lists and indices
abbrev pub place_cmp : Place → Place → Ordering
place_cmp p q =
    ordering_then (hash_cmp p.hash q.hash)
    (ordering_then (nat_cmp p.list q.list) (nat_cmp p.index q.index))

-- the places from one on, up to another, are those that have its hash; those after it have greater
-- ones
pub record IsRun (places : List Place) (from to : ℕ) : Type 0 where
  pub some : from < to
  pub within : to ≤ length places
  pub hash : DataHash
  pub same : (i : ℕ) (p : Place) → from ≤ i → i < to → slice_get places i ≡ Some p → p.hash ≡ hash
  pub later : (i : ℕ) (p : Place) → to ≤ i → slice_get places i ≡ Some p
      → hash_cmp hash p.hash ≡ Less

-- the record at a place
abbrev pub record_at : {R : Type 0} → List (List R) → Place → Option R
record_at lists p = option_and_then (λ l. slice_get l p.index) (slice_get lists p.list)

-- a disagreement, by the hash and the numbers of two lists
abbrev pub disagreement_of : (DataHash → RecordHash) → Differing → Disagreement
disagreement_of named d = record { record_hash = named d.hash; first = d.first; second = d.second }

module _ {H R : Type 0} (K : RecordKind H R) where
  -- two records agree, as reading returns them
  abbrev pub AgreeAsRead : (R → R → Type 0) → R → R → Type 0
  AgreeAsRead agree r s = agree (K.as_read r) (K.as_read s)

  -- a place has the index and the hash of a record of a list
  pub record IsIn (list : List R) (p : Place) : Type 0 where
    pub value : R
    pub at : slice_get list p.index ≡ Some value
    pub hash : key_of_record K value ≡ p.hash

  -- a place has the index and the hash of a record of the list with its number
  pub record IsPlace (lists : List (List R)) (p : Place) : Type 0 where
    pub value : R
    pub at : record_at lists p ≡ Some value
    pub hash : key_of_record K value ≡ p.hash

  -- these places are added: those of the records of a list with this number
  pub record AddsPlaces (number : ℕ) (list : List R) (old new : List Place) : Type 0 where
    pub kept : (p : Place) → Contains old p → Contains new p
    pub added : (p : Place) → p.list ≡ number → IsIn list p → Contains new p
    pub each : (p : Place) → Contains new p → Contains old p ⊎ ((p.list ≡ number) × IsIn list p)

  -- these are the places of all records
  pub record HasPlaces (lists : List (List R)) (places : List Place) : Type 0 where
    pub all : (p : Place) → IsPlace lists p → Contains places p
    pub each : (p : Place) → Contains places p → IsPlace lists p

  -- for each hash under which two of the lists have records that do not agree, the numbers of two
  -- such lists, in ascending order of the hashes
  pub record FindsDiffering (agree : R → R → Type 0) (lists : List (List R))
      (found : List Differing) : Type 0 where
    pub ascends : IsStrictlySortedBy hash_cmp (map (λ d. d.hash) found)
    pub each : (d : Differing) → Contains found d
        → (xs ys : List R) × (slice_get lists d.first ≡ Some xs)
        × (slice_get lists d.second ≡ Some ys)
        × (¬ AgreeIfBoth agree (with_hash K xs d.hash) (with_hash K ys d.hash))
    pub others : (q : DataHash) → ¬ Contains (map (λ d. d.hash) found) q → (xs ys : List R)
        → Contains lists xs → Contains lists ys
        → AgreeIfBoth agree (with_hash K xs q) (with_hash K ys q)

module _ {R : Type 0} (agree : R → R → Type 0) (lists : List (List R)) where
  -- the records at two places agree
  abbrev pub AgreeAt : Place → Place → Type 0
  AgreeAt p q = (r s : R) → record_at lists p ≡ Some r → record_at lists q ≡ Some s → agree r s

  -- the records at two places do not agree
  abbrev pub DifferAt : Place → Place → Type 0
  DifferAt p q =
      (r s : R) × (record_at lists p ≡ Some r) × (record_at lists q ≡ Some s) × (¬ agree r s)

  -- each two records at the places from one on, up to another, agree
  abbrev pub AgreeWithin : List Place → ℕ → ℕ → Type 0
  AgreeWithin places from to =
      (i j : ℕ) (p q : Place) → from ≤ i → i < to → from ≤ j → j < to
      → slice_get places i ≡ Some p → slice_get places j ≡ Some q → AgreeAt p q

  -- records at two of the places from one on, up to another, have this hash and do not agree
  pub record DifferWithin (places : List Place) (from to : ℕ) (d : Differing) : Type 0 where
    -- the index of the one place
    pub i : ℕ
    -- the index of the other place
    pub j : ℕ
    -- a place in the first list
    pub one : Place
    -- a place in the second list
    pub other : Place
    pub is_one : (from ≤ i) × (i < to) × (slice_get places i ≡ Some one)
    pub is_other : (from ≤ j) × (j < to) × (slice_get places j ≡ Some other)
    pub numbers : (one.list ≡ d.first) × (other.list ≡ d.second)
    pub hashes : (one.hash ≡ d.hash) × (other.hash ≡ d.hash)
    pub differ : DifferAt one other

  -- the records of a run agree, or two that do not were added to what differs
  abbrev pub ComparesRun : List Place → ℕ → ℕ → (old new : List Differing) → Type 0
  ComparesRun places from to old new =
      ((new ≡ old) × AgreeWithin places from to)
      ⊎ ((d : Differing) × (new ≡ old ++ d ∷ []) × DifferWithin places from to d)

  -- a record agrees with those at all places that are kept
  abbrev pub AgreesWithAll : List Place → R → Type 0
  AgreesWithAll kept s =
      (k : Place) (r : R) → Contains kept k → record_at lists k ≡ Some r → agree r s

  -- the record at one of the places that are kept, of this list, does not agree with another
  abbrev pub IsAgainst : List Place → R → ℕ → Type 0
  IsAgainst kept s number =
      (k : Place) × (r : R) × Contains kept k × (record_at lists k ≡ Some r) × (k.list ≡ number)
      × (¬ agree r s)

  -- one of the places that are kept has the record at this one; or the record here agrees with
  -- those at all of them, and its place is kept too
  abbrev pub ComparesPlace : Place → (old new : List Place) → Type 0
  ComparesPlace p old new =
      ((new ≡ old) × ((k : Place) × Contains old k × (record_at lists k ≡ record_at lists p)))
      ⊎ ((new ≡ old ++ p ∷ [])
      × ((s : R) × (record_at lists p ≡ Some s) × AgreesWithAll old s))

  -- the record at one of the places that are kept does not agree with that at another
  abbrev pub DiffersFromKept : Place → List Place → Differing → Type 0
  DiffersFromKept p kept d =
      (s : R) × (record_at lists p ≡ Some s) × IsAgainst kept s d.first × (p.list ≡ d.second)
      × (p.hash ≡ d.hash)
