-- Steps towards what `TruncatedHashes` defines, which only contracts inside the crate speak of.
use Rattle.std.specs.Prelude.{◌≡◌, ◌⊎◌, ℕ, ◌+◌, ◌<◌, ◌≤◌, List, Option, MatchOption}
use Rattle.xet_base.specs.declared.error.CoreError.{CoreError}
use Rattle.xet_base.specs.Source.{Source, ReadsBytes, bytes_left}
use Rattle.xet_records.specs.declared.xorb_structs.MDBXorbInfo.{MDBXorbInfo}
use Rattle.xet_records.specs.Reading.{ReadsBookend, HasRead}
use Rattle.xet_records.specs.XorbRecord.{xorb_records}
use Rattle.xet_shards.specs.Read.SectionReading.{BeginsRefused, EndsEarly, SectionFailure}
use Rattle.xet_shards.specs.Steps.SectionReadingSteps.{ReadsNext}
use Rattle.xet_records.specs.Limits.{MAX_ROWS}
use Rattle.xet_shards.specs.Read.TruncatedHashes.{StartBefore, hashes_of}

-- the hashes that were read so far
pub record HasReadHashes (stop : ℕ) (start now : Source) (found : List (ℕ × (ℕ × ℕ))) (left : ℕ)
    : Type 0 where
  pub xorbs : List MDBXorbInfo
  pub read : HasRead xorb_records (ReadsBytes start now) xorbs left
  pub before : StartBefore start.at stop xorbs
  pub hashes : found ≡ hashes_of xorbs

-- the next xorb, which starts before the stop, was read, and the row at which it starts counted
pub record ReadsXorbBefore (stop : ℕ) (old new : Source) (left after : ℕ) (found : ℕ × MDBXorbInfo)
    : Type 0 where
  pub before : old.at < stop
  pub start : found.0 + left ≡ MAX_ROWS
  pub next : ReadsNext xorb_records old new left after found.1

-- the next xorb, which starts before the stop, was read, or the end of the walk reached
abbrev pub ReadsBefore : ℕ → Source → Source → ℕ → ℕ → Option (ℕ × MDBXorbInfo) → Type 0
ReadsBefore stop old new left after found =
    MatchOption found
    (((old.at < stop) × ReadsBookend xorb_records (ReadsBytes old new))
    ⊎ ((stop ≤ old.at) × (new ≡ old)))
    (ReadsXorbBefore stop old new left after)

-- neither the next xorb nor the end of the walk was read; the source may be at any offset
pub record XorbBeforeFails (stop left : ℕ) (old new : Source) (e : CoreError) : Type 0 where
  pub bytes : new.bytes ≡ old.bytes
  pub seeks : new.seeks ≡ old.seeks
  pub cause : SectionFailure (λ bytes. (old.at < stop) × BeginsRefused xorb_records left bytes)
      (λ bytes. (old.at < stop) × EndsEarly xorb_records left bytes) (bytes_left old) old new e
