-- Why the format of bytes is not supported.
use Rattle.std.specs.Prelude.{◌≡◌, ◌≢◌, ℕ, ◌^◌, ◌<◌, ◌≤◌, List, length, take, drop}
use Rattle.xet_base.specs.Bytes.{u64_bytes}
use Rattle.xet_core_structures.specs.Ends.{HasHeader, HasUnsupportedFooter, last_bytes}
use Rattle.xet_core_structures.specs.Layout.{header_tag}
use Rattle.xet_records.specs.Version.{IsVersion}
use Rattle.shard_bytes.specs.declared.format.Format.{Format}
use Rattle.shard_bytes.specs.declared.format.Format.TheVariants.{NoTag, OtherVersion, NoFooter}

-- the bytes begin with the tag and this number of a version
pub record HasVersion (bytes : List ℕ) (version : ℕ) : Type 0 where
  pub size : 48 ≤ length bytes
  pub tag : take 32 bytes ≡ header_tag
  pub version_is : take 8 (drop 32 bytes) ≡ u64_bytes version
  pub fits : version < 2 ^ 64

-- the format of the bytes is not supported for this reason, which is the first in the order of the
-- bytes
abbrev pub IsUnsupportedFor : List ℕ → Format → Type 0
IsUnsupportedFor bytes NoTag = (32 ≤ length bytes) × (take 32 bytes ≢ header_tag)
IsUnsupportedFor bytes (OtherVersion version) = HasVersion bytes version × (¬ IsVersion version)
IsUnsupportedFor bytes NoFooter =
    HasHeader bytes × (200 ≤ length bytes) × HasUnsupportedFooter (last_bytes bytes)
