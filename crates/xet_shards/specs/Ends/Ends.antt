-- The header and the footer at the ends of a shard's bytes: valid, unsupported, or truncated.
use Rattle.std.specs.Prelude.{◌≡◌, ◌≢◌, ◌⊎◌, ℕ, ◌+◌, ◌-◌, ◌^◌, ◌<◌, ◌≤◌, List, length, take, drop, All, Option, IfSome}
use Rattle.xet_base.specs.declared.error.CoreError.{CoreError}
use Rattle.xet_base.specs.Bytes.{u64_bytes}
use Rattle.xet_base.specs.Hash.{IsHash}
use Rattle.xet_base.specs.Errors.{IsShardVersion, IsBareShardVersion, IsEndOfInput}
use Rattle.xet_base.specs.Source.{Source, FailedBy, bytes_left}
use Rattle.xet_records.specs.declared.record_reader.FormatVersion.{FormatVersion}
use Rattle.xet_records.specs.Version.{number_of, IsVersion}
use Rattle.xet_shards.specs.declared.shard_format.ends.footer.MDBShardFileFooter.{MDBShardFileFooter}
use Rattle.xet_shards.specs.declared.shard_format.ends.info.MDBShardInfo.{MDBShardInfo}
use Rattle.xet_shards.specs.Write.Layout.{header_tag, shard_header_bytes, offsets_of, timestamps_of, sums_of, shard_footer_bytes}

-- the bytes begin with a valid header: the tag, a version that is read, and a footer size
pub record HasHeader (bytes : List ℕ) : Type 0 where
  pub size : 48 ≤ length bytes
  pub tag : take 32 bytes ≡ header_tag
  pub version : FormatVersion
  pub version_is : take 8 (drop 32 bytes) ≡ u64_bytes (number_of version)

-- another tag, which is checked after 32 bytes, or another version, which is checked after 48
abbrev pub HasUnsupportedHeader : List ℕ → Type 0
HasUnsupportedHeader bytes =
    ((32 ≤ length bytes) × (take 32 bytes ≢ header_tag))
    ⊎ ((48 ≤ length bytes)
    × ((version : FormatVersion) → take 8 (drop 32 bytes) ≢ u64_bytes (number_of version)))

-- the bytes end before the tag is complete, or after the tag but before the header is complete
abbrev pub EndsInHeader : List ℕ → Type 0
EndsInHeader bytes = (length bytes < 32) ⊎ ((length bytes < 48) × (take 32 bytes ≡ header_tag))

-- another version of the footer, which is checked after 8 bytes
abbrev pub HasUnsupportedFooter : List ℕ → Type 0
HasUnsupportedFooter bytes = (8 ≤ length bytes) × (take 8 bytes ≢ u64_bytes 1)

-- the bytes end before the version is complete, or after version 1 but before the footer is
-- complete
abbrev pub EndsInFooter : List ℕ → Type 0
EndsInFooter bytes = (length bytes < 8) ⊎ ((length bytes < 200) × (take 8 bytes ≡ u64_bytes 1))

-- the last 200 bytes
abbrev pub last_bytes : List ℕ → List ℕ
last_bytes bytes = drop (length bytes - 200) bytes

-- the widths of a footer's numbers
pub record FitsFooter (f : MDBShardFileFooter) : Type 0 where
  pub offsets : All (λ n. n < 2 ^ 64) (offsets_of f)
  pub key : IsHash f.chunk_hash_hmac_key
  pub timestamps : All (λ n. n < 2 ^ 64) (timestamps_of f)
  pub buffer_size : length f._buffer ≡ 6
  pub buffer : All (λ n. n < 2 ^ 64) f._buffer
  pub sums : All (λ n. n < 2 ^ 64) (sums_of f)

-- the bytes begin with this header and end in this footer
pub record HasHeaderAndFooter (bytes : List ℕ) (info : MDBShardInfo) : Type 0 where
  -- the bytes are at least as many as those of a footer
  pub size : 200 ≤ length bytes
  pub tag : info.header.tag ≡ header_tag
  -- the header's version is one that is read
  pub header_version : IsVersion info.header.version
  pub header : take 48 bytes ≡ shard_header_bytes info.header
  -- the footer size in the header may be any number of 64 bits
  pub footer_size : info.header.footer_size < 2 ^ 64
  -- the footer's version is 1
  pub footer_version : info.metadata.version ≡ 1
  pub footer_widths : FitsFooter info.metadata
  pub footer : last_bytes bytes ≡ shard_footer_bytes info.metadata

-- the format is unsupported: the header is, or the header is valid and the footer is
abbrev pub IsUnsupported : List ℕ → Type 0
IsUnsupported bytes =
    HasUnsupportedHeader bytes
    ⊎ (HasHeader bytes × (200 ≤ length bytes) × HasUnsupportedFooter (last_bytes bytes))

-- the bytes are too few: they end in the header, or after it are fewer than a footer needs
abbrev pub IsTooShort : List ℕ → Type 0
IsTooShort bytes = EndsInHeader bytes ⊎ (HasHeader bytes × (length bytes < 200))

-- header and footer were read, with two seeks and 248 bytes
pub record Loads (old new : Source) (found : MDBShardInfo) : Type 0 where
  pub bytes : new.bytes ≡ old.bytes
  pub seeks : new.seeks ≡ old.seeks + 2
  pub read : new.read ≡ old.read + 248
  pub failures : new.failures ≡ old.failures
  pub ends : HasHeaderAndFooter old.bytes found

-- why a read failed, if the device did not: the format is unsupported, or the bytes are too few
pub data FormatCase (Unsupported Short : List ℕ → Type 0) (bytes : List ℕ) (e : CoreError)
    : Type 0 where
  unsupported_format : IsBareShardVersion e → Unsupported bytes
      → FormatCase Unsupported Short bytes e
  too_few_bytes : IsEndOfInput e → Short bytes → FormatCase Unsupported Short bytes e

-- why a read failed: the device did, the format is unsupported, or the bytes are too few
abbrev pub Refusal : (List ℕ → Type 0) → (List ℕ → Type 0) → List ℕ → Source → Source → CoreError
    → Type 0
Refusal Unsupported Short bytes old new e = FailedBy (FormatCase Unsupported Short bytes) old new e

-- the read failed, with at most two seeks and 248 bytes; the offset is unspecified
pub record LoadFails (old new : Source) (e : CoreError) : Type 0 where
  pub bytes : new.bytes ≡ old.bytes
  pub seeks : new.seeks ≤ old.seeks + 2
  pub read : new.read ≤ old.read + 248
  pub cause : Refusal IsUnsupported IsTooShort old.bytes old new e

-- an error says that the format is unsupported only of such bytes, where they are known
abbrev pub SaysUnsupported : (List ℕ → Type 0) → Option (List ℕ) → CoreError → Type 0
SaysUnsupported Unsupported remaining e = IsShardVersion e → IfSome remaining Unsupported

-- an error says that the input ended only of such bytes, where they are known
abbrev pub SaysEndOfInput : (List ℕ → Type 0) → Option (List ℕ) → CoreError → Type 0
SaysEndOfInput Short remaining e = IsEndOfInput e → IfSome remaining Short

-- reading a header or a footer from the source's position on failed, after at most `most` bytes;
-- the position afterwards is unspecified
pub record PartFails (Unsupported Short : List ℕ → Type 0) (most : ℕ) (old new : Source)
    (e : CoreError) : Type 0 where
  pub bytes : new.bytes ≡ old.bytes
  pub seeks : new.seeks ≡ old.seeks
  pub read : new.read ≤ old.read + most
  pub cause : Refusal Unsupported Short (bytes_left old) old new e
