use Rattle.std.proofs.Common.{◌-◌, length}
use Rattle.placed_shards.proofs.HashRuns.{IsAdding}
use Rattle.placed_shards.proofs.places.add_places.Given as goal

abbrev pub invariant-loop-index : goal.invariant-loop-index
invariant-loop-index g l = IsAdding g.P.PlacedRecord.kind l.list l.records l.index l.fn.places.items l.places.items

abbrev pub decreases-loop-index : goal.decreases-loop-index
decreases-loop-index g l = length l.records - l.index
