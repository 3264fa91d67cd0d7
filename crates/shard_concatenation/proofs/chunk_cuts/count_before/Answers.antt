use Rattle.std.proofs.Common.{arith}
use Rattle.shard_concatenation.proofs.ChunkCuts.{counted_more}
use Rattle.shard_concatenation.proofs.chunk_cuts.count_before.Goals as goal

pub loop-cursor-preserved : goal.loop-cursor-preserved
loop-cursor-preserved c = λ held are hold small.
    counted_more held c.args.cursors.now are hold c.loop-cursor.cursor-index _ c.loop-cursor-test.true c.args.word c.loop-cursor.count c.cut_of.result c.saturating_add-count.result small
    (c.loop-cursor.invariant held are hold small) c.cut_of.ensures.within c.cut_of.ensures.cut (λ fits. omega (arith, c.saturating_add-count.ensures, fits))
