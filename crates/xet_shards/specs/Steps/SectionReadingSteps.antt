-- Steps towards what `SectionReading` defines, of which contracts here and in the crates above speak.
use Rattle.std.specs.Prelude.{◌≡◌, ℕ, ◌+◌, ◌≤◌, Option}
use Rattle.xet_base.specs.declared.error.CoreError.{CoreError}
use Rattle.xet_base.specs.Source.{Source, ReadsBytes, bytes_left}
use Rattle.xet_records.specs.RecordKind.{RecordKind}
use Rattle.xet_records.specs.Reading.{CountsRecord, ReadsNextRecord}
use Rattle.xet_records.specs.Reading.{BeginsRefused, EndsEarly}
use Rattle.xet_shards.specs.Read.SectionReading.{MayRead, SectionFailure}

-- a record that was read, and its rows counted down
abbrev pub ReadsNext : {H R : Type 0} → RecordKind H R → Source → Source → ℕ → ℕ → R → Type 0
ReadsNext K old new left after found = CountsRecord K (ReadsBytes old new) left after found

-- the bookend was read, or the next record
abbrev pub ReadsOne : {H R : Type 0} → RecordKind H R → Source → Source → ℕ → ℕ → Option R → Type 0
ReadsOne K old new left after found = ReadsNextRecord K (ReadsBytes old new) left after found

-- neither a bookend nor the next record was read; the source may be at any offset
pub record RecordFails {H R : Type 0} (K : RecordKind H R) (left : ℕ) (old new : Source)
    (e : CoreError) : Type 0 where
  pub bytes : new.bytes ≡ old.bytes
  pub seeks : new.seeks ≡ old.seeks
  pub taken : ℕ
  pub read : new.read ≤ old.read + taken
  pub may_take : MayRead K (bytes_left old) taken
  pub cause : SectionFailure (BeginsRefused K left) (EndsEarly K left) (bytes_left old) old new e
