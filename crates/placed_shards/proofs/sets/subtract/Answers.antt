use Rattle.std.proofs.Common.{drop, map, Some, None, sym, ap, ◌∙◌, subst, append-nil}
use Rattle.placed_shards.specs.Steps.SetsSteps.{IsPass}
use Rattle.placed_shards.proofs.Subtracting.{IsSubtracting, subtracting_start, subtracting_on, subtracting_ends}
use Rattle.placed_shards.proofs.Uniting.{pushed_read}
use Rattle.placed_shards.proofs.sets.subtract.Goals as goal

pub loop-left-init : goal.loop-left-init
loop-left-init g c =
    let K = g.P.PlacedRecord.kind in
    rw c.new-left.ensures.items (subtracting_start K c.laws.ensures.laws (map K.as_read c.args.first.now) (map K.as_read c.args.second.now) c.requires.first c.requires.second)

pub returns-in-Done : goal.returns-in-Done
returns-in-Done g c =
    let K = g.P.PlacedRecord.kind in
    let firsts = map K.as_read c.args.first.now in
    let seconds = map K.as_read c.args.second.now in
    let done = subst (IsPass K c.args.first.now c.loop-left.at_1 c.args.second.now c.loop-left.at_2) c.in-Done.is c.next_pass.ensures in
    subtracting_ends K c.laws.ensures.laws firsts seconds (drop c.loop-left.at_1 firsts) (drop c.loop-left.at_2 seconds) (map K.as_read c.loop-left.left.items) c.loop-left.invariant done.0 done.1

pub loop-left-preserved-in-Drops : goal.loop-left-preserved-in-Drops
loop-left-preserved-in-Drops g c =
    let K = g.P.PlacedRecord.kind in
    let firsts = map K.as_read c.args.first.now in
    let seconds = map K.as_read c.args.second.now in
    let left = map K.as_read c.loop-left.left.items in
    let drops = subst (IsPass K c.args.first.now c.loop-left.at_1 c.args.second.now c.loop-left.at_2) c.in-Drops.is c.next_pass.ensures in
    subst (IsSubtracting K firsts seconds (drop c.in-Drops.next_1 firsts) (drop c.in-Drops.next_2 seconds)) (append-nil left)
    (subtracting_on K c.laws.ensures.laws firsts seconds (drop c.loop-left.at_1 firsts) (drop c.loop-left.at_2 seconds) left c.loop-left.invariant None (drop c.in-Drops.next_1 firsts) (drop c.in-Drops.next_2 seconds) tt drops)

pub loop-left-preserved : goal.loop-left-preserved
loop-left-preserved g c =
    let K = g.P.PlacedRecord.kind in
    let firsts = map K.as_read c.args.first.now in
    let seconds = map K.as_read c.args.second.now in
    let left = map K.as_read c.loop-left.left.items in
    let kept = K.as_read c.in-Leaves.record in
    let leaves = subst (IsPass K c.args.first.now c.loop-left.at_1 c.args.second.now c.loop-left.at_2) c.in-Leaves.is c.next_pass.ensures in
    let pushed = ap (map K.as_read) c.in_ok-push-in-Leaves.ensures.items ∙ pushed_read K c.laws.ensures.laws c.loop-left.left.items c.in-Leaves.record in
    subst (IsSubtracting K firsts seconds (drop c.in-Leaves.next_1 firsts) (drop c.in-Leaves.next_2 seconds)) (sym pushed)
    (subtracting_on K c.laws.ensures.laws firsts seconds (drop c.loop-left.at_1 firsts) (drop c.loop-left.at_2 seconds) left c.loop-left.invariant (Some kept) (drop c.in-Leaves.next_1 firsts) (drop c.in-Leaves.next_2 seconds)
    (c.laws.ensures.laws.as_read_stored c.in-Leaves.record c.is_stored.ensures.stored) leaves)
