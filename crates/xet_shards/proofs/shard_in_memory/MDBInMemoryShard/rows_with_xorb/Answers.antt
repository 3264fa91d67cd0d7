use Rattle.std.proofs.Common.{ap, arith}
use Rattle.std.specs.FinMap.{insert, values}
use Rattle.xet_base.proofs.HashOrder.{hash_cmp-IsTotalOrder, hash_cmp-IsAntisymmetric}
use Rattle.xet_records.specs.XorbRecord.{xorb_records, xorb_row_count}
use Rattle.xet_shards.specs.Write.Section.{total_rows}
use Rattle.xet_shards.specs.Content.Shard.{xorb_hash_of}
use Rattle.xet_shards.specs.ShardInMemory.ChunkLookup.{ShardWithLookup}
use Rattle.xet_shards.proofs.Content.Maps.{sum-insert}
use Rattle.xet_shards.proofs.shard_in_memory.MDBInMemoryShard.rows_with_xorb.Goals as goal

pub overflow_sub-result : goal.overflow_sub-result
overflow_sub-result c =
    let xorb = c.args.xorb_block.now in
    let put_rows = sum-insert hash_cmp-IsTotalOrder hash_cmp-IsAntisymmetric xorb_row_count c.self.inside.xorbs.xorbs (xorb_hash_of xorb) xorb in
    omega (arith, put_rows, c.requires.count, c.self.invariant.xorb_rows, c.rows_of-replaced.ensures)

pub returns : goal.returns
returns c =
    let xorb = c.args.xorb_block.now in
    let put_rows = sum-insert hash_cmp-IsTotalOrder hash_cmp-IsAntisymmetric xorb_row_count c.self.inside.xorbs.xorbs (xorb_hash_of xorb) xorb in
    let seen = ap (λ (s : ShardWithLookup). total_rows xorb_records (values (insert s.content.xorbs (xorb_hash_of xorb) xorb))) c.self.view_is in
    omega (arith, put_rows, seen, c.requires.count, c.self.invariant.xorb_rows, c.rows_of-replaced.ensures)
