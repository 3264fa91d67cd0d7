use Rattle.std.proofs.Common.{◌≡◌, ◌<◌, ◌≤◌, length, drop, inr, refl, sym, ap, ◌∙◌, arith, rules, length-drop}
use Rattle.xet_base.specs.Bytes.{u64_bytes}
use Rattle.xet_base.proofs.Bytes.{length-u64_bytes, u64_bytes-injective}
use Rattle.xet_base.proofs.Lists.{front_is}
use Rattle.xet_records.specs.Version.{number_of}
use Rattle.xet_shards.specs.declared.shard_format.ends.header.MDBShardFileHeader.{MDBShardFileHeader}
use Rattle.xet_shards.specs.Ends.Ends.FormatCase.{unsupported_format}
use Rattle.xet_shards.proofs.Ends.Versions.{number_fits}
use Rattle.placed_shards.proofs.open.header_version.Goals as goal

pub returns-in-Some : goal.returns-in-Some
returns-in-Some c =
    let bytes = c.args.bytes.now in
    let rest = c.split_at.ensures.back in
    let same : c.split_at.result.0.now ≡ c.as_slice.result.now = search rules in (
      record {
        size = omega (arith, c.if-rest.false, ap length rest, length-drop 32 bytes, c.if-bytes-lt-TAG_SIZE.false);
        tag = sym c.split_at.ensures.front ∙ same ∙ c.as_slice.ensures ∙ ap (λ (h : MDBShardFileHeader). h.tag) c.default-known.ensures;
        version = c.in-Some.version;
        version_is = front_is 8 (drop 32 bytes) (u64_bytes c.split_u64-number.result.0) c.split_u64-number.result.1.now (length-u64_bytes c.split_u64-number.result.0) (sym rest ∙ c.split_u64-number.ensures.bytes)
            ∙ ap u64_bytes c.in-Some.ensures;
      },
      refl,
    )

pub returns-in-None : goal.returns-in-None
returns-in-None c =
    let bytes = c.args.bytes.now in
    let n = c.split_u64-number.result.0 in
    let rest = c.split_at.ensures.back in
    let size : 48 ≤ length bytes = omega (arith, c.if-rest.false, ap length rest, length-drop 32 bytes, c.if-bytes-lt-TAG_SIZE.false) in
    let fits : n < 18446744073709551616 = search rules in
    unsupported_format c.new-in-None.ensures.bytes (inr (
      size,
      λ version same.
          c.in-None.ensures (
            version,
            u64_bytes-injective n (number_of version) fits (number_fits version)
                (sym (front_is 8 (drop 32 bytes) (u64_bytes n) c.split_u64-number.result.1.now (length-u64_bytes n) (sym rest ∙ c.split_u64-number.ensures.bytes)) ∙ same),
          ),
    ))
