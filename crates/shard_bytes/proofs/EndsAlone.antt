-- Header and footer of bytes are those of their two ends.
use Rattle.std.proofs.Common.{◌≡◌, ◌↔◌, ℕ, ◌-◌, ◌≤◌, List, [], ◌++◌, length, take, drop, sym, ap, ◌∙◌, arith}
use Rattle.std.proofs.Math.Seq.{drop-length}
use Rattle.std.proofs.lemmas.List.{drop-append-le, length-append, length-drop, length-take-le, take-append-le, take_all}
use Rattle.xet_core_structures.specs.declared.shard_format.MDBShardInfo.{MDBShardInfo}
use Rattle.xet_core_structures.specs.Ends.{HasHeaderAndFooter, last_bytes}
use Rattle.shard_bytes.specs.PartLookups.{ends_of}

module _ (bytes : List ℕ) (enough : 200 ≤ length bytes) where
  front_size : length (take 48 bytes) ≡ 48
  front_size = length-take-le 48 bytes (omega (arith, enough))

  size : length (ends_of bytes) ≡ 248
  size = omega (arith, length-append (take 48 bytes) (last_bytes bytes), front_size, length-drop (length bytes - 200) bytes, enough)

  front_same : take 48 (ends_of bytes) ≡ take 48 bytes
  front_same = take-append-le 48 (take 48 bytes) (last_bytes bytes) (omega (arith, front_size)) ∙ take_all 48 (take 48 bytes) (omega (arith, front_size))

  no_more : drop 48 (take 48 bytes) ≡ []
  no_more = ap (λ n. drop n (take 48 bytes)) (sym front_size) ∙ drop-length (take 48 bytes)

  last_same : last_bytes (ends_of bytes) ≡ last_bytes bytes
  last_same =
      let from : length (ends_of bytes) - 200 ≡ 48 = omega (arith, size) in
      ap (λ n. drop n (ends_of bytes)) from
      ∙ drop-append-le 48 (take 48 bytes) (last_bytes bytes) (omega (arith, front_size))
      ∙ ap (λ none. none ++ last_bytes bytes) no_more

  pub same_ends : (info : MDBShardInfo) → HasHeaderAndFooter (ends_of bytes) info ↔ HasHeaderAndFooter bytes info
  same_ends info = (
    λ h. record {
      size = enough;
      tag = h.tag;
      header_version = h.header_version;
      header = sym front_same ∙ h.header;
      footer_size = h.footer_size;
      footer_version = h.footer_version;
      footer_widths = h.footer_widths;
      footer = sym last_same ∙ h.footer;
    },
    λ h. record {
      size = omega (arith, size);
      tag = h.tag;
      header_version = h.header_version;
      header = front_same ∙ h.header;
      footer_size = h.footer_size;
      footer_version = h.footer_version;
      footer_widths = h.footer_widths;
      footer = last_same ∙ h.footer;
    },
  )
