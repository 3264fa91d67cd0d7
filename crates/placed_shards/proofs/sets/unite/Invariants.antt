use Rattle.std.proofs.Common.{◌+◌, length, drop, map}
use Rattle.placed_shards.proofs.Uniting.{IsUniting}
use Rattle.placed_shards.proofs.sets.unite.Given as goal

abbrev pub invariant-loop-made : goal.invariant-loop-made
invariant-loop-made g l =
    let K = g.P.PlacedRecord.kind in
    IsUniting K g.U.Union.makes (map K.as_read l.first) (map K.as_read l.second) (drop l.at_1 (map K.as_read l.first)) (drop l.at_2 (map K.as_read l.second)) (map K.as_read l.made.items) l.rows

abbrev pub decreases-loop-made : goal.decreases-loop-made
decreases-loop-made g l =
    let K = g.P.PlacedRecord.kind in
    length (drop l.at_1 (map K.as_read l.first)) + length (drop l.at_2 (map K.as_read l.second))
