use Rattle.shard_concatenation.proofs.ChunkCuts.{rows_counted_more}
use Rattle.shard_concatenation.proofs.chunk_cuts.row_count.Goals as goal

pub loop-cursor-preserved : goal.loop-cursor-preserved
loop-cursor-preserved c = λ held are hold small.
    rows_counted_more held c.args.cursors.now are hold c.loop-cursor.cursor-index _ c.loop-cursor-test.true c.loop-cursor.count c.saturating_add-count.result small
    (c.loop-cursor.invariant held are hold small) c.saturating_add-count.ensures
