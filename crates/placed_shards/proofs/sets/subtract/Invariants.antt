use Rattle.std.proofs.Common.{◌+◌, length, drop, map}
use Rattle.placed_shards.proofs.Subtracting.{IsSubtracting}
use Rattle.placed_shards.proofs.sets.subtract.Given as goal

abbrev pub invariant-loop-left : goal.invariant-loop-left
invariant-loop-left g l =
    let K = g.P.PlacedRecord.kind in
    IsSubtracting K (map K.as_read l.first) (map K.as_read l.second) (drop l.at_1 (map K.as_read l.first)) (drop l.at_2 (map K.as_read l.second)) (map K.as_read l.left.items)

abbrev pub decreases-loop-left : goal.decreases-loop-left
decreases-loop-left g l =
    let K = g.P.PlacedRecord.kind in
    length (drop l.at_1 (map K.as_read l.first)) + length (drop l.at_2 (map K.as_read l.second))
