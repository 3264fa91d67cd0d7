use Rattle.std.proofs.Common.{ap, arith}
use Rattle.std.specs.FinMap.{insert, values}
use Rattle.xet_base.proofs.HashOrder.{hash_cmp-IsTotalOrder, hash_cmp-IsAntisymmetric}
use Rattle.xet_records.specs.FileRecord.{file_records, row_count, IsWellFormed}
use Rattle.xet_records.proofs.Record.{rows_whole}
use Rattle.xet_shards.specs.Write.Section.{total_rows}
use Rattle.xet_shards.specs.Content.Shard.{FileMap, file_hash_of}
use Rattle.xet_shards.specs.ShardInMemory.ChunkLookup.{ShardWithLookup}
use Rattle.xet_shards.proofs.Content.Maps.{sum-insert}
use Rattle.xet_shards.proofs.shard_in_memory.MDBInMemoryShard.add_file_reconstruction_info.Goals as goal

pub overflow_sub-self : goal.overflow_sub-self
overflow_sub-self c =
    let file = c.args.file_info in
    let well : IsWellFormed file = c.is_well_formed.ensures.0 c.if-not-is_well_formed.false in
    let put_rows = sum-insert hash_cmp-IsTotalOrder hash_cmp-IsAntisymmetric row_count c.self.inside.files (file_hash_of file) file in
    omega (arith, put_rows, rows_whole file well.whole, c.in_ok-self-inside.ensures.replaced)

pub invariant_of-self-2 : goal.invariant_of-self-2
invariant_of-self-2 c =
    let file = c.args.file_info in
    let well : IsWellFormed file = c.is_well_formed.ensures.0 c.if-not-is_well_formed.false in
    let put_rows = sum-insert hash_cmp-IsTotalOrder hash_cmp-IsAntisymmetric row_count c.self.inside.files (file_hash_of file) file in
    let seen = ap (λ (s : ShardWithLookup). total_rows file_records (values (insert s.content.files (file_hash_of file) file))) c.self.view_is in
    let few = c.has_room_for.ensures.0 c.if-not-has_room_for.false in
    let after = ap (λ (m : FileMap). total_rows file_records (values m)) c.in_ok-self-inside.ensures.ok in
    record {
      file_rows = omega (arith, put_rows, after, rows_whole file well.whole, c.in_ok-self-inside.ensures.replaced);
      few_file_rows = omega (arith, put_rows, seen, few, rows_whole file well.whole, c.in_ok-self-inside.ensures.replaced);
      xorb_rows = c.self.invariant.xorb_rows;
      few_xorb_rows = c.self.invariant.few_xorb_rows;
    }
