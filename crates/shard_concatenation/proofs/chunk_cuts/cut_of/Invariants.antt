use Rattle.std.proofs.Common.{◌-◌, ◌*◌, ◌≤◌, List, length}
use Rattle.xet_shards.specs.declared.shard_format.write.xorb_writer.ChunkTableRow.{ChunkTableRow}
use Rattle.shard_concatenation.specs.Steps.ChunkMerging.{HoldsRows}
use Rattle.shard_concatenation.proofs.ChunkCuts.{IsSearched}
use Rattle.shard_concatenation.proofs.chunk_cuts.cut_of.Given as goal

abbrev pub invariant-loop-low : goal.invariant-loop-low
invariant-loop-low l = (l.low ≤ l.high) × (16 * l.high ≤ length l.cursor.rest.now)
    × ((rows : List ChunkTableRow) → HoldsRows (l.fn.cursor, rows) → IsSearched l.word rows l.low l.high)

abbrev pub decreases-loop-low : goal.decreases-loop-low
decreases-loop-low l = l.high - l.low
