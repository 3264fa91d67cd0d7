-- Reading a section of a file, one record after another.
use Rattle.std.specs.Prelude.{ℕ, List, Option}
use Rattle.std.specs.Io.KnownBytes.{Consumes}
use Rattle.xet_base.specs.declared.error.CoreError.{CoreError}
use Rattle.xet_base.specs.Input.{ReaderFails}
use Rattle.xet_records.specs.declared.record_reader.FormatVersion.{FormatVersion}
use Rattle.xet_records.specs.Reading.{ReadsNextRecord, NextRecordNotRead}
use Rattle.xet_records.specs.RecordKind.{RecordKind, in_version}

-- `remaining` says which bytes a reader still has, where they are known; `left` is how many rows
-- the section may still have
module _ {H R I : Type 0} (K : RecordKind H R) (remaining : I → Option (List ℕ))
    (version : FormatVersion) (left : ℕ) (old new : I) where
  -- the next record was read, and its rows counted down to `after`; or the bookend was
  abbrev pub ReadsNext : ℕ → Option R → Type 0
  ReadsNext after found =
      ReadsNextRecord (in_version K version) (Consumes (remaining old) (remaining new)) left after found

  -- why it was not: its header was not read, the version does not have it, it has more rows than the
  -- section may still have, or the rows were not read
  abbrev pub NextFails : CoreError → Type 0
  NextFails e =
      NextRecordNotRead (in_version K version) (λ a b. Consumes (remaining a) (remaining b))
      (λ a b n f. ReaderFails (remaining a) n f) left old new e
