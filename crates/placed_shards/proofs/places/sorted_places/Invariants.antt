use Rattle.std.proofs.Common.{◌-◌, length, map}
use Rattle.placed_shards.proofs.HashRuns.{HasPlacesUpTo}
use Rattle.placed_shards.proofs.places.sorted_places.Given as goal

abbrev pub invariant-loop-list : goal.invariant-loop-list
invariant-loop-list g l = HasPlacesUpTo g.P.PlacedRecord.kind (map g.P.Agreement.listed l.shards) l.list l.places.items

abbrev pub decreases-loop-list : goal.decreases-loop-list
decreases-loop-list g l = length l.shards - l.list
