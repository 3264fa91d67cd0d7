use Rattle.std.proofs.Common.{◌≡◌, ◌++◌, map, take}
use Rattle.xet_shards.specs.Write.Tables.{chunk_table_rows_from}
use Rattle.xet_shards.specs.Read.TableReading.{triple_of}
use Rattle.xet_shards.proofs.shard_format.read.truncated_hashes.push_hashes.Given as goal

abbrev pub invariant-loop-chunk : goal.invariant-loop-chunk
invariant-loop-chunk l = record {
  index : l.index ≡ l.chunk-index;
  items : l.hashes.items ≡ l.initial.hashes.items ++ map triple_of (chunk_table_rows_from l.start (take l.chunk-index l.chunks));
}
