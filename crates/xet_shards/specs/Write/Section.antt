-- Where each record of a section starts, and the bytes of a section.
use Rattle.std.specs.Prelude.{◌≡◌, ℕ, List, [], ◌∷◌, ◌++◌, flat_map, sum_by}
use Rattle.xet_records.specs.RecordKind.{RecordKind}

-- each element of a list with those before it, of which `front` come before the list
abbrev pub with_fronts : {X : Type 0} → List X → List X → List (List X × X)
with_fronts front [] = []
with_fronts front (x ∷ xs) = (front, x) ∷ with_fronts (front ++ x ∷ []) xs

-- the rows of a list of records
abbrev pub total_rows : {H R : Type 0} → RecordKind H R → List R → ℕ
total_rows K records = sum_by K.row_count records

-- a record of a section starts at a row
pub record StartsAt {H R : Type 0} (K : RecordKind H R) (records : List R) (row : ℕ) (r : R)
    : Type 0 where
  pub before : List R
  pub after : List R
  pub records_are : records ≡ before ++ r ∷ after
  pub row_is : row ≡ total_rows K before

-- the bytes of the records in order, and then of the bookend
unfoldable pub section_bytes : {H R : Type 0} → RecordKind H R → List R → List ℕ
section_bytes K records = flat_map K.record_bytes records ++ K.header_bytes K.bookend
