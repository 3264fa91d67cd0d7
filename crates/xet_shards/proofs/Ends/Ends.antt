-- Headers and footers that are read in two steps.
use Rattle.std.proofs.Common.{◌≡◌, ◌≢◌, inl, inr, ℕ, ◌+◌, List, ◌++◌, length, take, Option, None, Some, IfSome, sym, ap, ◌∙◌, arith}
use Rattle.std.proofs.lemmas.List.{length-append, take-append-le}
use Rattle.std.specs.Io.KnownBytes.{Consumes}
use Rattle.xet_base.specs.Bytes.{u64_bytes, LacksBytes}
use Rattle.xet_base.proofs.Bytes.{length-u64_bytes}
use Rattle.xet_base.proofs.Lists.{front_is, rest_is}
use Rattle.xet_records.specs.declared.record_reader.FormatVersion.{FormatVersion}
use Rattle.xet_records.specs.Version.{number_of}
use Rattle.xet_shards.specs.Write.Layout.{header_tag}
use Rattle.xet_shards.specs.Ends.Ends.{HasUnsupportedHeader, HasUnsupportedFooter, EndsInFooter}

length_is : (bytes part rest : List ℕ) → bytes ≡ part ++ rest → length bytes ≡ length part + length rest
length_is bytes part rest are = ap length are ∙ length-append part rest

pub unsupported_tag : (old mid : Option (List ℕ)) (tag : List ℕ) → length tag ≡ 32 → Consumes old mid tag → tag ≢ header_tag → IfSome old HasUnsupportedHeader
unsupported_tag None mid tag len taken differs = tt
unsupported_tag (Some bytes) None tag len taken differs = absurd taken
unsupported_tag (Some bytes) (Some rest) tag len taken differs =
    inl (omega (arith, length_is bytes tag rest taken, len), λ same. differs (sym (front_is 32 bytes tag rest len taken) ∙ same))

pub unsupported_version : (old mid new : Option (List ℕ)) (tag rest : List ℕ) → length tag ≡ 32 → length rest ≡ 16 → Consumes old mid tag → Consumes mid new rest
    → ((version : FormatVersion) → take 8 rest ≢ u64_bytes (number_of version)) → IfSome old HasUnsupportedHeader
unsupported_version None mid new tag rest tag_len len first last differs = tt
unsupported_version (Some bytes) None new tag rest tag_len len first last differs = absurd first
unsupported_version (Some bytes) (Some more) None tag rest tag_len len first last differs = absurd last
unsupported_version (Some bytes) (Some more) (Some after) tag rest tag_len len first last differs =
    inr (
      omega (arith, length_is bytes tag more first, length_is more rest after last, tag_len, len),
      λ version same. differs version (sym (take-append-le 8 rest after (omega (arith, len))) ∙ ap (take 8) (sym last ∙ sym (rest_is 32 bytes tag more tag_len first)) ∙ same),
    )

pub unsupported_footer : (old mid : Option (List ℕ)) (version : List ℕ) → length version ≡ 8 → Consumes old mid version → version ≢ u64_bytes 1
    → IfSome old HasUnsupportedFooter
unsupported_footer None mid version len taken differs = tt
unsupported_footer (Some bytes) None version len taken differs = absurd taken
unsupported_footer (Some bytes) (Some rest) version len taken differs =
    (omega (arith, length_is bytes version rest taken, len), λ same. differs (sym (front_is 8 bytes version rest len taken) ∙ same))

pub cut_footer : (old mid : Option (List ℕ)) (version : List ℕ) → version ≡ u64_bytes 1 → Consumes old mid version → LacksBytes mid 192
    → IfSome old EndsInFooter
cut_footer None mid version is_one taken lacks = tt
cut_footer (Some bytes) None version is_one taken lacks = absurd taken
cut_footer (Some bytes) (Some rest) version is_one taken lacks =
    let len : length version ≡ 8 = ap length is_one ∙ length-u64_bytes 1 in
    inr (omega (arith, length_is bytes version rest taken, len), front_is 8 bytes version rest len taken ∙ is_one)
