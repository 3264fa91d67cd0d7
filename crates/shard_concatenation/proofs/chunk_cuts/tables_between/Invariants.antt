use Rattle.std.proofs.Common.{◌≡◌, List, All, map, flat_map, take}
use Rattle.xet_shards.specs.declared.shard_format.write.xorb_writer.ChunkTableRow.{ChunkTableRow}
use Rattle.shard_concatenation.specs.declared.chunk_merging.Cursor.{Cursor}
use Rattle.shard_concatenation.specs.Steps.ChunkMerging.{HoldsRows, rows_held}
use Rattle.shard_concatenation.specs.Steps.ChunkCuts.{rows_between, HoldInTables}
use Rattle.shard_concatenation.proofs.chunk_cuts.tables_between.Given as goal

abbrev pub invariant-loop-cursor : goal.invariant-loop-cursor
invariant-loop-cursor l = (held : List (Cursor × List ChunkTableRow)) → map (λ h. h.0) held ≡ l.cursors → All HoldsRows held
    → HoldInTables (rows_between l.low l.high (flat_map rows_held (take l.cursor-index held))) l.tables.items
