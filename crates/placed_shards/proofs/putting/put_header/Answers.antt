use Rattle.std.proofs.Common.{◌≡◌, length, ap, arith}
use Rattle.xet_shards.specs.declared.shard_format.ends.header.MDBShardFileHeader.{MDBShardFileHeader}
use Rattle.placed_shards.proofs.Filling.{header_put, puts_word}
use Rattle.placed_shards.proofs.putting.put_header.Goals as goal

pub put_bytes-at-requires : goal.put_bytes-at-requires
put_bytes-at-requires c =
    let tag : length c.of_version-header.result.tag ≡ 32 = ap (λ (h : MDBShardFileHeader). length h.tag) c.of_version-header.ensures in
    omega (arith, c.requires, tag)

pub put_u64-at-requires : goal.put_u64-at-requires
put_u64-at-requires c =
    let tag : length c.of_version-header.result.tag ≡ 32 = ap (λ (h : MDBShardFileHeader). length h.tag) c.of_version-header.ensures in
    omega (arith, c.requires, tag, c.put_bytes-at.ensures.end_is)

pub put_u64-requires : goal.put_u64-requires
put_u64-requires c =
    let tag : length c.of_version-header.result.tag ≡ 32 = ap (λ (h : MDBShardFileHeader). length h.tag) c.of_version-header.ensures in
    omega (arith, c.requires, tag, c.put_bytes-at.ensures.end_is, c.put_u64-at.ensures.end)

pub returns : goal.returns
returns c =
    header_put c.args.version c.of_version-header.result c.of_version-header.ensures c.args.out.now c.put_bytes-at.new.out c.put_u64-at.new.row c.put_u64.new.row c.put_bytes-at.result c.put_u64-at.result c.put_u64.result c.put_bytes-at.ensures
    (puts_word c.put_bytes-at.new.out c.put_u64-at.new.row c.put_bytes-at.result c.put_u64-at.result _ c.put_u64-at.ensures.end c.put_u64-at.ensures.front c.put_u64-at.ensures.rest)
    (puts_word c.put_u64-at.new.row c.put_u64.new.row c.put_u64-at.result c.put_u64.result _ c.put_u64.ensures.end c.put_u64.ensures.front c.put_u64.ensures.rest)
