use Rattle.xet_c.proofs.Segments.{more_listed}
use Rattle.xet_c.proofs.segment.segments_of.Goals as goal

pub loop-index-preserved : goal.loop-index-preserved
loop-index-preserved c = more_listed c.args.entries.now c.args.rows.now c.loop-index.index _ c.loop-index.segments.items _ _ _ c.loop-index-test.true
    c.loop-index.invariant c.segment_of.ensures c.verification_of.ensures c.in_ok-push.ensures.items
