use Rattle.std.proofs.Common.{◌<◌, ◌≤◌, length, rules, refl}
use Rattle.mdb_garbage.specs.Garbage.{IsOfSegment}
use Rattle.mdb_garbage.proofs.Additions.{up_to_start, up_to_more, up_to_all}
use Rattle.mdb_garbage.proofs.adding.add_segment_misfits.Goals as goal

pub loop-index-init : goal.loop-index-init
loop-index-init c = up_to_start (λ s. c.args.xorb.now.metadata.xorb_hash) (λ s. IsOfSegment s c.args.xorb.now) c.args.segments.now c.args.found.now.items

pub loop-index-preserved : goal.loop-index-preserved
loop-index-preserved c =
    let low : c.loop-index.index < length c.args.segments.now = search rules in
    up_to_more (λ s. c.args.xorb.now.metadata.xorb_hash) (λ s. IsOfSegment s c.args.xorb.now) c.args.segments.now c.loop-index.index _ _ _ _ _ _ low refl
    c.segment_misfit-misfit.ensures c.loop-index.invariant c.in_ok-add_misfit.ensures

pub returns : goal.returns
returns c =
    let past : length c.args.segments.now ≤ c.loop-index.index = search rules in
    up_to_all (λ s. c.args.xorb.now.metadata.xorb_hash) (λ s. IsOfSegment s c.args.xorb.now) c.args.segments.now c.loop-index.index _ _ past c.loop-index.invariant
