-- The steps of a search: one key, and rows that are read on.
use Rattle.std.specs.Prelude.{◌≡◌, ◌⊎◌, ℕ, ◌+◌, ◌<◌, ◌≤◌, List, length, set, min, All, IfOk, Some}
use Rattle.std.specs.IoError.{error_kind}
use Rattle.std.specs.declared.io.Error.{Error}
use Rattle.std.specs.declared.io.ErrorKind.TheVariants.{UnexpectedEof}
use Rattle.std.specs.declared.result.Result.{Result}
use Rattle.xet_base.specs.declared.interpolation_search.table_range.TableRange.{TableRange}
use Rattle.xet_base.specs.Source.{Source, after_read, after_seek}
use Rattle.xet_base.specs.Search.Table.{Table, row_offset, key_at, HasKey, hits_below, Finds, ActsAsReadFull}

-- the table of a range of these bytes
abbrev pub table_in : TableRange → List ℕ → Table
table_in range bytes =
    record { bytes = bytes; start = range.start; rows = range.rows; width = range.width }

-- why rows were not read: the device failed, and the error is its own; or there are rows, and the
-- bytes end before the table does
abbrev pub TableFailure : Table → Source → Source → Error → Type 0
TableFailure t old new e =
    ((new.failures ≡ old.failures + 1) × (new.last_failure ≡ Some e))
    ⊎ ((new.failures ≡ old.failures) × (error_kind e ≡ UnexpectedEof) × (0 < t.rows)
    × (length old.bytes < row_offset t t.rows))

-- the key of row i was read, by one seek
pub record ReadsKey (t : Table) (i : ℕ) (old new : Source) (found : ℕ) : Type 0 where
  pub there : HasKey t i
  pub is_key : found ≡ key_at t i
  pub after : new ≡ after_read (after_seek old (row_offset t i)) 8

-- each value is read from `width` bytes, by a function with this result
abbrev pub ReadsValues : {R V : Type 0} → ℕ → (R → Source) → (R → Result V Error → R → Type 0)
    → Type 0
ReadsValues {R} {V} width meaning post =
    (s : R) (r : Result V Error) (t : R) → post s r t
    → ActsAsReadFull width (meaning s) r (meaning t)

-- reading was cut off after so many seeks and at most so many bytes
pub record StopsWithin (t : Table) (made most : ℕ) (old new : Source) (e : Error) : Type 0 where
  pub bytes : new.bytes ≡ old.bytes
  pub seeks : new.seeks ≡ old.seeks + made
  pub read : new.read ≤ old.read + most
  pub cause : TableFailure t old new e

-- row i is there and has the key
pub record IsRow (t : Table) (key i : ℕ) : Type 0 where
  pub within : i < t.rows
  pub there : HasKey t i
  pub same_key : key_at t i ≡ key

-- the value was stored behind the first `count` results where there was room, and the results were
-- left where not
pub record KeepsValue {V : Type 0} (old new : List V) (count : ℕ) (value : V) (count_new : ℕ)
    : Type 0 where
  pub room : count < length old → (new ≡ set old count value) × (count_new ≡ count + 1)
  pub full : length old ≤ count → (new ≡ old) × (count_new ≡ count)

-- the results are the values of rows from `from` on
pub record FindsFrom {V : Type 0} (t : Table) (key : ℕ) (Gives : List ℕ → V → Type 0) (from : ℕ)
    (old new : List V) (count : ℕ) : Type 0 where
  pub finds : Finds t key Gives old new count
  pub rows : All (λ hit. from ≤ hit.row) finds.found

-- the results are extended by the values of rows from `from` to before `to`, if they were those of
-- rows from `to` on
abbrev pub Extends : {V : Type 0} → Table → ℕ → (List ℕ → V → Type 0) → ℕ → ℕ → ℕ → List V → List V
    → Result ℕ Error → Type 0
Extends {V} t key Gives from to had old new result =
    (before : List V) → FindsFrom t key Gives to before old had
    → IfOk result (FindsFrom t key Gives from before new)

-- of `had` results and the rows with the key from `from` to before `to`, as many are kept as fit
abbrev pub Counts : Table → ℕ → ℕ → ℕ → ℕ → ℕ → ℕ → Type 0
Counts t key from to room had count =
    count + hits_below t key from ≡ min (had + hits_below t key to) (room + hits_below t key from)

-- rows from `from` to before `to` were read, or some of the first of them
pub record ReadsThrough (t : Table) (from to : ℕ) (old new : Source) : Type 0 where
  pub bytes : new.bytes ≡ old.bytes
  pub seeks : new.seeks ≡ old.seeks
  pub read : new.read + row_offset t from ≤ old.read + row_offset t to

-- no more was read than the rows from `from` to before some `end`, all of which have the key
pub record Runs (t : Table) (key from to : ℕ) (old new : Source) : Type 0 where
  pub bytes : new.bytes ≡ old.bytes
  pub seeks : new.seeks ≡ old.seeks
  -- the row after the last of those that may have been read
  pub end : ℕ
  pub past : from ≤ end
  pub within : end ≤ to
  -- all rows from `from` to before `end` have the key
  pub equal : end + hits_below t key from ≤ hits_below t key end + from
  -- no more bytes were read than those of the rows from `from` to before `end`
  pub read : new.read + row_offset t from ≤ old.read + row_offset t end
