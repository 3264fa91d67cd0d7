use Rattle.std.proofs.Common.{◌≡◌, ◌+◌, ◌-◌, ◌<◌, ◌≤◌, ◌^◌, List, All, map, flat_map, length}
use Rattle.std.specs.Prelude.{IfSome, filter}
use Rattle.xet_shards.specs.declared.shard_format.write.xorb_writer.ChunkTableRow.{ChunkTableRow}
use Rattle.shard_concatenation.specs.declared.chunk_merging.Cursor.{Cursor}
use Rattle.shard_concatenation.specs.Steps.ChunkMerging.{HoldsRows, rows_held}
use Rattle.shard_concatenation.specs.Steps.ChunkCuts.{rows_before, is_until, end_of}
use Rattle.shard_concatenation.proofs.chunk_cuts.cuts_around.Given as goal

abbrev pub invariant-loop-bit : goal.invariant-loop-bit
invariant-loop-bit l = (l.before ≤ l.row) × (end_of l.high ≡ l.low + 2 ^ (64 - l.bit)) × (end_of l.high ≤ 2 ^ 64)
    × ((held : List (Cursor × List ChunkTableRow)) → map (λ h. h.0) held ≡ l.cursors → All HoldsRows held → length (flat_map rows_held held) < 2 ^ 64
    → (l.before ≡ length (rows_before l.low (flat_map rows_held held))) × IfSome l.high (λ word. l.row < length (rows_before word (flat_map rows_held held))) × (l.after ≡ length (filter (is_until l.high) (flat_map rows_held held))))
