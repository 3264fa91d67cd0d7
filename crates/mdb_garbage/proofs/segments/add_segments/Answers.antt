use Rattle.std.proofs.Common.{◌<◌, ◌≤◌, length, rules, subst}
use Rattle.mdb_garbage.proofs.FileSegments.{adding_read, all_added}
use Rattle.mdb_garbage.proofs.segments.add_segments.Goals as goal

pub loop-index-preserved : goal.loop-index-preserved
loop-index-preserved c =
    let low : c.loop-index.index < length c.as_slice-segments.result.now = search rules in
    adding_read c.args.range c.args.file.now c.args.items.now.items c.loop-index.index _ _ c.loop-index.invariant c.as_slice-segments.result.now _ _ c.as_slice-segments.ensures low
    c.segment_of-segment.ensures c.in_ok-push_in_range.ensures

pub returns : goal.returns
returns c =
    let past : length c.as_slice-segments.result.now ≤ c.loop-index.index = search rules in
    all_added c.args.range c.args.file.now c.args.items.now.items c.loop-index.index c.loop-index.items.items c.loop-index.invariant
    (subst (λ l. length l ≤ c.loop-index.index) c.as_slice-segments.ensures past)
