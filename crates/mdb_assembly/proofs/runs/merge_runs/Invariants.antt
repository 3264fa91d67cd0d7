use Rattle.std.proofs.Common.{List, flat_map}
use Rattle.std.specs.Io.KnownBytes.{Appends}
use Rattle.xet_shards.specs.Write.Tables.{chunk_table_row_bytes}
use Rattle.xet_shards.specs.declared.shard_format.write.xorb_writer.ChunkTableRow.{ChunkTableRow}
use Rattle.mdb_assembly.proofs.runs.merge_runs.Given as goal

abbrev pub invariant-loop : goal.invariant-loop
invariant-loop g l = (rows : List ChunkTableRow)
    × Appends (g.W.Write.contents l.fn.output) (g.W.Write.contents l.output) (flat_map chunk_table_row_bytes rows)
