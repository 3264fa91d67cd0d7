use Rattle.std.proofs.Common.{◌≡◌, ◌+◌, ◌*◌, take, flat_map}
use Rattle.xet_shards.specs.Write.Puts.{Puts}
use Rattle.xet_shards.specs.Write.Tables.{chunk_table_row_bytes}
use Rattle.xet_shards.proofs.shard_format.write.shard_end.put_rows.Given as goal

abbrev pub invariant-loop-row : goal.invariant-loop-row
invariant-loop-row l = record {
  size : l.end ≡ l.at + 16 * l.row-index;
  puts : Puts l.fn.out l.out l.at l.end (flat_map chunk_table_row_bytes (take l.row-index l.rows));
}
