use Rattle.std.proofs.Common.{◌≡◌, ◌++◌, All, flat_map, length}
use Rattle.xet_shards.specs.Read.TableReading.{FitsTriple, triple_of}
use Rattle.xet_shards.specs.Write.Tables.{chunk_table_row_bytes}
use Rattle.shard_bytes.proofs.check.reordered.rows_of.Given as goal

abbrev pub invariant-loop-rest : goal.invariant-loop-rest
invariant-loop-rest l = record {
  bytes_are : l.table ≡ flat_map chunk_table_row_bytes l.rows.items ++ l.rest;
  widths : All (λ row. FitsTriple (triple_of row)) l.rows.items;
}

abbrev pub decreases-loop-rest : goal.decreases-loop-rest
decreases-loop-rest l = length l.rest
