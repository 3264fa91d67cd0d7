-- The steps of reading the records in some rows of a section.
use Rattle.std.specs.Prelude.{◌≡◌, ◌⊎◌, ℕ, true, List, [], ◌∷◌, Option, Some, IfSome}
use Rattle.std.specs.declared.cmp.Ordering.TheVariants.{Less}
use Rattle.xet_base.specs.declared.error.CoreError.{CoreError}
use Rattle.xet_base.specs.declared.error.CoreError.TheVariants.{InvalidArguments, OutOfMemory}
use Rattle.xet_base.specs.declared.merklehash.DataHash.{DataHash}
use Rattle.xet_base.specs.Hash.{hash_cmp}
use Rattle.xet_records.specs.RecordKind.{RecordKind}
use Rattle.xet_shards.specs.Write.Tables.{hash_in}
use Rattle.placed_shards.specs.declared.range.HashRange.{HashRange}
use Rattle.placed_shards.specs.Ranges.{is_within}
use Rattle.placed_shards.specs.TakenRecords.{TakesRecord}

-- why no records are read for which a fact holds: an allocation failed, or it holds of none
abbrev pub NotRead : {R : Type 0} → (List R → Type 0) → CoreError → Type 0
NotRead Holds e = (e ≡ OutOfMemory) ⊎ ((e ≡ InvalidArguments) × ((rs : List _) → ¬ Holds rs))

module _ {H R : Type 0} (K : RecordKind H R) (range : HashRange) where
  -- a record was taken from the front of bytes, and its rows counted down; its hash is in the
  -- range, and above another, if there is one
  pub record TakesInRange (before : Option DataHash) (left after : ℕ) (bytes : List ℕ) (r : R)
      (rest : List ℕ) : Type 0 where
    pub taken : TakesRecord K bytes left after r rest
    pub follows : IfSome before (λ b. hash_cmp b (hash_in K r) ≡ Less)
    pub within : is_within range (hash_in K r) ≡ true

  -- bytes begin with these records, of so many rows, one after another
  abbrev pub RowsFollow : Option DataHash → ℕ → List ℕ → List R → Type 0
  RowsFollow before left bytes [] = left ≡ 0
  RowsFollow before left bytes (r ∷ rs) =
      (after : ℕ) × (rest : List ℕ) × TakesInRange before left after bytes r rest
      × RowsFollow (Some (hash_in K r)) after rest rs
