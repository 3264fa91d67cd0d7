-- What a source of bytes is, and what each call does to it.
use Rattle.std.specs.Prelude.{◌≡◌, ◌⊎◌, ℕ, ◌+◌, ◌<◌, ◌≤◌, List, length, take, drop, Option, Some}
use Rattle.std.specs.IoError.{error_kind}
use Rattle.std.specs.declared.io.Error.{Error}
use Rattle.std.specs.declared.io.ErrorKind.TheVariants.{UnexpectedEof}
use Rattle.xet_base.specs.declared.error.CoreError.{CoreError}
use Rattle.xet_base.specs.declared.error.CoreError.TheVariants.{OutOfMemory}
use Rattle.xet_base.specs.Errors.{FromDevice, IsEndOfInput}

-- the bytes, the position of the next read, the seeks made, the bytes read and the failures so far,
-- and the latest failure
pub record Source : Type 0 where
  pub bytes : List ℕ
  pub at : ℕ
  pub seeks : ℕ
  pub read : ℕ
  pub failures : ℕ
  pub last_failure : Option Error

-- after a read of n bytes
abbrev pub after_read : Source → ℕ → Source
after_read s n = record s { at = s.at + n; read = s.read + n }

-- after a seek
abbrev pub after_seek : Source → ℕ → Source
after_seek s to = record s { at = to; seeks = s.seeks + 1 }

-- the next n bytes, or as many as are left
abbrev pub next_bytes : Source → ℕ → List ℕ
next_bytes s n = take n (drop s.at s.bytes)

-- a read into a slice gave n bytes, and none only at the end or for an empty slice
pub record ReadsSome (old new : Source) (slice : List ℕ) (n : ℕ) : Type 0 where
  pub fits : n ≤ length slice
  pub within : 0 < n → old.at + n ≤ length old.bytes
  pub filled : take n slice ≡ next_bytes old n
  pub end : n ≡ 0 → 0 < length slice → length old.bytes ≤ old.at
  pub after : new ≡ after_read old n

-- the device did not fail, and the bytes are the same
pub record NoFailure (old new : Source) : Type 0 where
  pub bytes : new.bytes ≡ old.bytes
  pub failures : new.failures ≡ old.failures
  pub last_failure : new.last_failure ≡ old.last_failure

-- the device failed; the position afterwards is unspecified
pub record Fails (old new : Source) (made : ℕ) (e : Error) : Type 0 where
  pub bytes : new.bytes ≡ old.bytes
  pub seeks : new.seeks ≡ old.seeks + made
  pub read : new.read ≡ old.read
  pub failures : new.failures ≡ old.failures + 1
  pub last_failure : new.last_failure ≡ Some e

-- the bytes from the source's position on
abbrev pub bytes_left : Source → List ℕ
bytes_left s = drop s.at s.bytes

-- these bytes were read, from the source's position on
pub record ReadsBytes (old new : Source) (taken : List ℕ) : Type 0 where
  pub within : 0 < length taken → old.at + length taken ≤ length old.bytes
  pub there : taken ≡ next_bytes old (length taken)
  pub after : new ≡ after_read old (length taken)

-- why n bytes were not read: the device failed, and the error is its own; or the bytes ended
abbrev pub FillFailure : Source → Source → ℕ → Error → Type 0
FillFailure old new n e =
    ((new.failures ≡ old.failures + 1) × (new.last_failure ≡ Some e))
    ⊎ ((new.failures ≡ old.failures) × (error_kind e ≡ UnexpectedEof)
    × (length old.bytes < old.at + n))

-- a slice of n bytes, which is not empty, was not filled; the position afterwards is unspecified
pub record FillFails (old new : Source) (n : ℕ) (e : Error) : Type 0 where
  pub some : 0 < n
  pub bytes : new.bytes ≡ old.bytes
  pub seeks : new.seeks ≡ old.seeks
  pub read : new.read ≤ old.read + n
  pub cause : FillFailure old new n e

-- the device failed, and the error is what its own becomes
abbrev pub DeviceFailure : Source → Source → CoreError → Type 0
DeviceFailure old new e =
    (new.failures ≡ old.failures + 1) × (failure : Error) × (new.last_failure ≡ Some failure)
    × FromDevice failure e

-- why a call failed: the device did, or it did not and one of some cases holds
abbrev pub FailedBy : (CoreError → Type 0) → Source → Source → CoreError → Type 0
FailedBy Case old new e = DeviceFailure old new e ⊎ ((new.failures ≡ old.failures) × Case e)

-- the cases of a read: an allocation failed, or the bytes ended too early
pub data ReadCase (Short : Type 0) (e : CoreError) : Type 0 where
  out_of_memory : e ≡ OutOfMemory → ReadCase Short e
  out_of_bytes : IsEndOfInput e → Short → ReadCase Short e

-- reading up to n bytes, at least one, failed: the device failed, the bytes ended, or memory ran
-- out; the position afterwards is unspecified
pub record ReadFails (old new : Source) (n : ℕ) (e : CoreError) : Type 0 where
  pub some : 0 < n
  pub bytes : new.bytes ≡ old.bytes
  pub seeks : new.seeks ≡ old.seeks
  pub read : new.read ≤ old.read + n
  pub cause : FailedBy (ReadCase (length old.bytes < old.at + n)) old new e
