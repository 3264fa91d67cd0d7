use Rattle.std.proofs.Common.{◌*◌, take, flat_map}
use Rattle.std.specs.Io.KnownBytes.{Appends}
use Rattle.xet_shards.specs.Write.Tables.{chunk_table_row_bytes}
use Rattle.xet_shards.proofs.shard_format.write.shard_end.write_chunk_rows.Given as goal

abbrev pub invariant-loop-block : goal.invariant-loop-block
invariant-loop-block g l = Appends (g.W.Write.contents l.initial.writer) (g.W.Write.contents l.writer) (flat_map chunk_table_row_bytes (take (64 * l.block) l.rows))
