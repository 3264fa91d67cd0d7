use Rattle.std.proofs.Common.{◌-◌, length}
use Rattle.placed_shards.proofs.HashRuns.{IsRunning}
use Rattle.placed_shards.proofs.places.run_end.Given as goal

abbrev pub invariant-loop-end : goal.invariant-loop-end
invariant-loop-end l = IsRunning l.places l.from l.end l.hash

abbrev pub decreases-loop-end : goal.decreases-loop-end
decreases-loop-end l = length l.places - l.end
