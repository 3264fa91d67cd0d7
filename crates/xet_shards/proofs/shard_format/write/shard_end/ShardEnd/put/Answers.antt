use Rattle.std.proofs.Common.{◌≡◌, ◌+◌, ◌*◌, ◌++◌, length, flat_map, subst, arith}
use Rattle.std.proofs.lemmas.List.{length-append}
use Rattle.xet_shards.specs.declared.shard_format.write.shard_end.ShardEnd.{ShardEnd}
use Rattle.xet_shards.specs.Write.Layout.{shard_footer_bytes}
use Rattle.xet_shards.specs.Write.Puts.{Puts}
use Rattle.xet_shards.specs.Write.ShardEnd.{end_bytes}
use Rattle.xet_shards.specs.Write.Tables.{chunk_table_row_bytes}
use Rattle.xet_shards.proofs.Write.Puts.{puts_as, puts_then}
use Rattle.xet_shards.proofs.Write.Tables.{length-chunk_table_row_bytes}
use Rattle.xet_shards.proofs.shard_format.write.shard_end.ShardEnd.put.Goals as goal

length-end_bytes : (end : ShardEnd) → length (end_bytes end) ≡ length end.file_table.now + length end.xorb_table.items + 16 * length end.chunk_rows.items + length (shard_footer_bytes end.footer)
length-end_bytes end =
    let files = end.file_table.now in
    let xorbs = end.xorb_table.items in
    let rows = flat_map chunk_table_row_bytes end.chunk_rows.items in
    omega (arith, length-append ((files ++ xorbs) ++ rows) (shard_footer_bytes end.footer), length-append (files ++ xorbs) rows, length-append files xorbs, length-chunk_table_row_bytes end.chunk_rows.items)

pub put_rows-at-requires : goal.put_rows-at-requires
put_rows-at-requires c = omega (arith, c.requires, length-end_bytes c.args.self.now, c.as_slice.ensures.len, c.as_slice-2.ensures.len, c.put-at.ensures.end, c.put-at-2.ensures.end, c.put-at.auto.row, c.put-at-2.auto.row)

pub returns : goal.returns
returns c =
    let old = c.args.out.now in
    let first = puts_as old c.put-at.new.row c.args.at c.put-at.result _ c.args.self.now.file_table.now (λ i. c.args.self.now.file_table.now) c.put-at.ensures.end c.put-at.ensures.front c.put-at.ensures.rest in
    let second = puts_as c.put-at.new.row c.put-at-2.new.row c.put-at.result c.put-at-2.result _ c.args.self.now.xorb_table.items c.as_slice.ensures.value c.put-at-2.ensures.end c.put-at-2.ensures.front c.put-at-2.ensures.rest in
    let third = subst (λ rows. Puts c.put-at-2.new.row c.put_rows-at.new.out c.put-at-2.result c.put_rows-at.result (flat_map chunk_table_row_bytes rows)) c.as_slice-2.ensures.value c.put_rows-at.ensures.bytes in
    let fourth = puts_as c.put_rows-at.new.out c.put.new.row c.put_rows-at.result c.put.result c.to_bytes-footer.result (shard_footer_bytes c.args.self.now.footer) c.to_bytes-footer.ensures c.put.ensures.end c.put.ensures.front c.put.ensures.rest in
    puts_then old c.put_rows-at.new.out c.put.new.row c.args.at c.put_rows-at.result c.put.result _ _
    (puts_then old c.put-at-2.new.row c.put_rows-at.new.out c.args.at c.put-at-2.result c.put_rows-at.result _ _
    (puts_then old c.put-at.new.row c.put-at-2.new.row c.args.at c.put-at.result c.put-at-2.result _ _ first second) third) fourth
