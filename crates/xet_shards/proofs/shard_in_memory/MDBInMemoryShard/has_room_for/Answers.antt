use Rattle.std.proofs.Common.{ap, arith}
use Rattle.std.specs.FinMap.{insert, values}
use Rattle.xet_base.proofs.HashOrder.{hash_cmp-IsTotalOrder, hash_cmp-IsAntisymmetric}
use Rattle.xet_records.specs.FileRecord.{file_records, row_count}
use Rattle.xet_records.proofs.Record.{rows_whole}
use Rattle.xet_shards.specs.Write.Section.{total_rows}
use Rattle.xet_shards.specs.Content.Shard.{file_hash_of}
use Rattle.xet_shards.specs.ShardInMemory.ChunkLookup.{ShardWithLookup}
use Rattle.xet_shards.proofs.Content.Maps.{sum-insert}
use Rattle.xet_shards.proofs.shard_in_memory.MDBInMemoryShard.has_room_for.Goals as goal

pub overflow_sub-result : goal.overflow_sub-result
overflow_sub-result c =
    let file = c.args.file_info.now in
    let put_rows = sum-insert hash_cmp-IsTotalOrder hash_cmp-IsAntisymmetric row_count c.self.inside.files (file_hash_of file) file in
    omega (arith, put_rows, rows_whole file c.requires.whole)

pub returns-then-rows-most : goal.returns-then-rows-most
returns-then-rows-most c =
    let file = c.args.file_info.now in
    let put_rows = sum-insert hash_cmp-IsTotalOrder hash_cmp-IsAntisymmetric row_count c.self.inside.files (file_hash_of file) file in
    let seen = ap (λ (s : ShardWithLookup). total_rows file_records (values (insert s.content.files (file_hash_of file) file))) c.self.view_is in
    grind (arith, put_rows, seen, rows_whole file c.requires.whole)

pub returns : goal.returns
returns c =
    let file = c.args.file_info.now in
    let put_rows = sum-insert hash_cmp-IsTotalOrder hash_cmp-IsAntisymmetric row_count c.self.inside.files (file_hash_of file) file in
    let seen = ap (λ (s : ShardWithLookup). total_rows file_records (values (insert s.content.files (file_hash_of file) file))) c.self.view_is in
    grind (arith, put_rows, seen, rows_whole file c.requires.whole)
