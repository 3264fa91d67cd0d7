-- The expiry of the bytes that are written.
use Rattle.std.specs.Prelude.{ℕ, ◌≡◌, ◌⊎◌, Option, Some, None, List}
use Rattle.xet_core_structures.specs.declared.error.CoreError.{CoreError}
use Rattle.xet_core_structures.specs.declared.error.CoreError.TheVariants.{OutOfMemory}
use Rattle.xet_core_structures.specs.TwoShards.ByteResults.{LoadRefusal}
use Rattle.shard_bytes.specs.Expiry.{HasNewExpiry}

-- bytes with an expiry, or as they are if there is none
abbrev pub HasExpiry : Option ℕ → List ℕ → List ℕ → Type 0
HasExpiry None bytes out = out ≡ bytes
HasExpiry (Some expiry) bytes out = HasNewExpiry expiry bytes out

-- why bytes do not get an expiry
abbrev pub RefusesExpiry : Option ℕ → List ℕ → CoreError → Type 0
RefusesExpiry None bytes e = ⊥
RefusesExpiry (Some expiry) bytes e = (e ≡ OutOfMemory) ⊎ LoadRefusal bytes e
