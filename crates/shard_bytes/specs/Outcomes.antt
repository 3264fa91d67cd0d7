-- What a call on a shard's bytes has for an outcome.
use Rattle.std.specs.Prelude.{◌≡◌, ◌⊎◌, ℕ, List}
use Rattle.xet_core_structures.specs.declared.error.CoreError.{CoreError}
use Rattle.xet_core_structures.specs.declared.error.CoreError.TheVariants.{OutOfMemory}
use Rattle.xet_core_structures.specs.Errors.{IsWriteError}
use Rattle.xet_core_structures.specs.declared.shard_format.MDBShardInfo.{MDBShardInfo}
use Rattle.xet_core_structures.specs.Ends.{HasHeaderAndFooter}
use Rattle.xet_core_structures.specs.Source.{Source}

-- the bytes have a header and a footer, and with these a call has an outcome on a source of them
-- that does not fail
pub record HasOutcome (bytes : List ℕ) (Outcome : MDBShardInfo → Source → Source → Type 0)
    : Type 0 where
  pub info : MDBShardInfo
  pub ends : HasHeaderAndFooter bytes info
  -- the source before the call
  pub before : Source
  -- the source after the call
  pub after : Source
  pub bytes_are : before.bytes ≡ bytes
  -- the device did not fail
  pub works : after.failures ≡ before.failures
  pub outcome : Outcome info before after

-- why a call on memory fails: an allocation failed, or there is another cause, which is no device's
abbrev pub InMemory : (CoreError → Type 0) → CoreError → Type 0
InMemory Cause e = (e ≡ OutOfMemory) ⊎ ((¬ IsWriteError e) × Cause e)
