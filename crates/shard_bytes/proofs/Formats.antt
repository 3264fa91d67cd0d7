-- A format is unsupported for one reason.
use Rattle.std.proofs.Common.{◌≡◌, inl, inr, ℕ, ◌-◌, ◌^◌, ◌<◌, ◌≤◌, List, ◌++◌, length, take, drop, refl, sym, ap, ◌∙◌, arith}
use Rattle.std.proofs.lemmas.List.{length-drop, take_all}
use Rattle.xet_core_structures.specs.Ends.{HasHeader, IsUnsupported}
use Rattle.xet_base.specs.Bytes.{u64_bytes}
use Rattle.xet_base.proofs.Bytes.{length-u64_bytes, u64_bytes-injective}
use Rattle.xet_base.proofs.Lists.{front_is}
use Rattle.xet_core_structures.specs.Layout.{header_tag}
use Rattle.xet_records.specs.declared.record_reader.FormatVersion.{FormatVersion}
use Rattle.xet_records.specs.Version.{number_of, IsVersion}
use Rattle.xet_shards.proofs.Ends.Versions.{number_fits}
use Rattle.shard_bytes.specs.declared.format.Format.{Format}
use Rattle.shard_bytes.specs.declared.format.Format.TheVariants.{NoTag, OtherVersion, NoFooter}
use Rattle.shard_bytes.specs.Format.{HasVersion, IsUnsupportedFor}

-- what is unsupported for a reason is unsupported
pub unsupported_so : (bytes : List ℕ) (reason : Format) → IsUnsupportedFor bytes reason → IsUnsupported bytes
unsupported_so bytes NoTag (some, other) = inl (inl (some, other))
unsupported_so bytes (OtherVersion n) (has, unknown) =
    inl (inr (has.size, λ known same. unknown (known, u64_bytes-injective n (number_of known) has.fits (number_fits known) (sym has.version_is ∙ same))))
unsupported_so bytes NoFooter (header, some, other) = inr (header, some, other)

known_not : (bytes : List ℕ) (n : ℕ) → HasVersion bytes n → (¬ IsVersion n) → ¬ HasHeader bytes
known_not bytes n has unknown header =
    unknown (header.version, u64_bytes-injective n (number_of header.version) has.fits (number_fits header.version) (sym has.version_is ∙ header.version_is))

-- and for one reason only
pub one_reason : (bytes : List ℕ) (reason other : Format) → IsUnsupportedFor bytes reason → IsUnsupportedFor bytes other → other ≡ reason
one_reason bytes NoTag NoTag so also = refl
one_reason bytes NoTag (OtherVersion n) (some, other) (has, unknown) = absurd (other has.tag)
one_reason bytes NoTag NoFooter (some, other) (header, more, footer) = absurd (other header.tag)
one_reason bytes (OtherVersion n) NoTag (has, unknown) (some, other) = absurd (other has.tag)
one_reason bytes (OtherVersion n) (OtherVersion m) (has, unknown) (had, unknowable) =
    ap OtherVersion (u64_bytes-injective m n had.fits has.fits (sym had.version_is ∙ has.version_is))
one_reason bytes (OtherVersion n) NoFooter (has, unknown) (header, more, footer) = absurd (known_not bytes n has unknown header)
one_reason bytes NoFooter NoTag (header, more, footer) (some, other) = absurd (other header.tag)
one_reason bytes NoFooter (OtherVersion n) (header, more, footer) (has, unknown) = absurd (known_not bytes n has unknown header)
one_reason bytes NoFooter NoFooter so also = refl

-- the bytes from the 32nd on
pub take_rest_from_32 : (bytes : List ℕ) → take (length bytes - 32) (drop 32 bytes) ≡ drop 32 bytes
take_rest_from_32 bytes =
    let long : length (drop 32 bytes) ≡ length bytes - 32 = length-drop 32 bytes in
    take_all (length bytes - 32) (drop 32 bytes) (omega (arith, long))

-- bytes whose format is unsupported are long enough for a tag, and with the tag for a header
pub long_enough : (bytes : List ℕ) → IsUnsupported bytes → 32 ≤ length bytes
long_enough bytes (inl (inl (some, other))) = some
long_enough bytes (inl (inr (some, other))) = omega (arith, some)
long_enough bytes (inr (header, more, footer)) = omega (arith, header.size)

long_with_tag : (bytes : List ℕ) → IsUnsupported bytes → take 32 bytes ≡ header_tag → 48 ≤ length bytes
long_with_tag bytes (inl (inl (some, other))) tag = absurd (other tag)
long_with_tag bytes (inl (inr (some, other))) tag = some
long_with_tag bytes (inr (header, more, footer)) tag = header.size

module _ (bytes : List ℕ) (n : ℕ) (rest : List ℕ) (so : IsUnsupported bytes) (tag : take 32 bytes ≡ header_tag) (fits : n < 2 ^ 64) (is : drop 32 bytes ≡ u64_bytes n ++ rest) where
  number_is : take 8 (drop 32 bytes) ≡ u64_bytes n
  number_is = front_is 8 (drop 32 bytes) (u64_bytes n) rest (length-u64_bytes n) is

  pub other_version : (¬ IsVersion n) → IsUnsupportedFor bytes (OtherVersion n)
  other_version unknown = (record { size = long_with_tag bytes so tag; tag = tag; version_is = number_is; fits = fits }, unknown)

  pub no_footer : (known : FormatVersion) → n ≡ number_of known → IsUnsupportedFor bytes NoFooter
  no_footer known same = only so
    where
      only : IsUnsupported bytes → IsUnsupportedFor bytes NoFooter
      only (inl (inl (some, other))) = absurd (other tag)
      only (inl (inr (some, other))) = absurd (other known (number_is ∙ ap u64_bytes same))
      only (inr footer) = footer
