-- Processing a section: a function is called with a view of each record, in order.
use Rattle.std.specs.Prelude.{◌≡◌, ◌⊎◌, ℕ, ◌+◌, List, flat_map, sum_by, All, Option, Ok, Err, MatchResult}
use Rattle.std.specs.List.{FoldsTo}
use Rattle.std.specs.Io.KnownBytes.{Consumes}
use Rattle.xet_base.specs.declared.error.CoreError.{CoreError}
use Rattle.xet_base.specs.Errors.{CoreResult}
use Rattle.xet_base.specs.Input.{ReaderFails}
use Rattle.xet_records.specs.RecordKind.{RecordKind}
use Rattle.xet_records.specs.Reading.{ReadsBookend, NextRecordNotRead}
use Rattle.xet_records.specs.ViewReading.{CountsStored}
use Rattle.xet_records.specs.Limits.{MAX_ROWS}

-- `step` says what a call of the function with a view returns, and what it makes of the function:
-- records were read, their rows counted down from 4294967295, and the function was called with each
-- and accepted it
pub record HasProcessed {H R V F : Type 0} (K : RecordKind H R) (record_of : V → R)
    (Took : List ℕ → Type 0) (step : F → V → CoreResult (Unit {0}) → F → Type 0) (old new : F)
    (left : ℕ) : Type 0 where
  pub given : List V
  pub are_stored : All (λ view. K.IsStored (record_of view)) given
  pub taken : Took (flat_map (λ view. K.record_bytes (record_of view)) given)
  pub rows : sum_by (λ view. K.row_count (record_of view)) given + left ≡ MAX_ROWS
  pub calls : FoldsTo (λ before view after. step before view (Ok tt) after) old given new

-- `reads a b bytes` says that an input read these bytes between its states `a` and `b`, and
-- `fails a b n e` that reading up to `n` bytes failed with `e`
module _ {H R V F I : Type 0} (K : RecordKind H R) (record_of : V → R)
    (reads : I → I → List ℕ → Type 0) (fails : I → I → ℕ → CoreError → Type 0)
    (step : F → V → CoreResult (Unit {0}) → F → Type 0) where
  -- the function accepted each record of a section, and the bookend was read
  pub record ProcessesSection (old new : I) (first last : F) : Type 0 where
    pub mid : I
    pub left : ℕ
    pub records : HasProcessed K record_of (reads old mid) step first last left
    pub bookend : ReadsBookend K (reads mid new)

  -- the function accepted some records, and refused the one after them with this error
  pub record RefusesRecord (old new : I) (first last : F) (e : CoreError) : Type 0 where
    -- the input before the refused record
    pub mid : I
    -- the function before it was called with the refused record
    pub before : F
    -- the rows that are left of 4294967295 before the refused record
    pub left : ℕ
    -- the rows that are left after it
    pub after : ℕ
    -- the view of the refused record
    pub refused : V
    pub records : HasProcessed K record_of (reads old mid) step first before left
    -- the refused record was read
    pub next : CountsStored K (reads mid new) left after (record_of refused)
    pub refusal : step before refused (Err e) last

  -- the function accepted some records, and the one after them was not read
  pub record StopsReading (old new : I) (first last : F) (e : CoreError) : Type 0 where
    pub mid : I
    pub left : ℕ
    pub records : HasProcessed K record_of (reads old mid) step first last left
    pub stops : NextRecordNotRead K reads fails left mid new e

-- processing a section from a reader that has these bytes left, where they are known: every record
-- was accepted; or one was refused, by the error that is returned; or one was not read
abbrev pub Processes : {H R F : Type 0} → RecordKind H R
    → (F → R → CoreResult (Unit {0}) → F → Type 0) → Option (List ℕ) → Option (List ℕ) → F → F
    → CoreResult (Unit {0}) → Type 0
Processes K step old new first last result =
    MatchResult result
    (λ _. ProcessesSection K (λ r. r) Consumes (λ before after n e. ReaderFails before n e) step old
    new first last)
    (λ e. RefusesRecord K (λ r. r) Consumes (λ before after n e. ReaderFails before n e) step old
    new first last e
    ⊎ StopsReading K (λ r. r) Consumes (λ before after n e. ReaderFails before n e) step old new
    first last e)
