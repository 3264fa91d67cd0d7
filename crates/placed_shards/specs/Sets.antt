-- What is made of two lists of records whose hashes strictly ascend.
use Rattle.std.specs.Prelude.{◌≡◌, ◌≤◌, List, Option, None, is_some, if◌then◌else◌}
use Rattle.xet_records.specs.RecordKind.{RecordKind}
use Rattle.xet_records.specs.Limits.{MAX_ROWS}
use Rattle.xet_shards.specs.Write.Section.{total_rows}
use Rattle.xet_core_structures.specs.Records.RecordPairs.{Combines}

-- a list has under each hash what is made of the records that two lists have there, and its rows
-- fit a section
pub record CombinesToSection {H R : Type 0} (K : RecordKind H R)
    (IsEither : Option R → Option R → Option R → Type 0) (xs ys zs : List R) : Type 0 where
  pub combined : Combines K IsEither xs ys zs
  pub rows : total_rows K zs ≤ MAX_ROWS

-- the second's record, unless the first has one
abbrev pub IsLeft : {R : Type 0} → Option R → Option R → Option R → Type 0
IsLeft a b c = c ≡ (if is_some a then None else b)
