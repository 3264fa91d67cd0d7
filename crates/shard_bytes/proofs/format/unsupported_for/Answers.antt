use Rattle.std.proofs.Common.{rules, arith, ◌≡◌, sym, ◌∙◌, ◌^◌, ◌<◌, take}
use Rattle.std.proofs.lemmas.List.{length-take-le}
use Rattle.xet_core_structures.specs.Layout.{header_tag}
use Rattle.shard_bytes.proofs.Formats.{long_enough, take_rest_from_32, other_version, no_footer}
use Rattle.shard_bytes.proofs.format.unsupported_for.Goals as goal

pub slice_bounds-ne-end : goal.slice_bounds-ne-end
slice_bounds-ne-end c = sym (length-take-le 32 c.args.bytes.now (long_enough c.args.bytes.now c.requires))

pub returns-in-Some : goal.returns-in-Some
returns-in-Some c =
    let tag : take 32 c.args.bytes.now ≡ header_tag = search rules in
    let fits : c.split_u64-version.result.0 < 2 ^ 64 = omega arith in
    let is = sym (take_rest_from_32 c.args.bytes.now) ∙ c.split_u64-version.ensures.bytes in
    no_footer c.args.bytes.now c.split_u64-version.result.0 c.split_u64-version.result.1.now c.requires tag fits is c.in-Some.field-0 c.in-Some.ensures

pub returns-in-None : goal.returns-in-None
returns-in-None c =
    let tag : take 32 c.args.bytes.now ≡ header_tag = search rules in
    let fits : c.split_u64-version.result.0 < 2 ^ 64 = omega arith in
    let is = sym (take_rest_from_32 c.args.bytes.now) ∙ c.split_u64-version.ensures.bytes in
    other_version c.args.bytes.now c.split_u64-version.result.0 c.split_u64-version.result.1.now c.requires tag fits is c.in-None.ensures
