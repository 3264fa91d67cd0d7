use Rattle.std.proofs.Common.{◌-◌, ◌≤◌, map}
use Rattle.placed_shards.specs.Steps.Differing.{AgreeAsRead}
use Rattle.placed_shards.proofs.Comparing.{IsComparing}
use Rattle.placed_shards.proofs.differing.differ_in_run.Given as goal

abbrev pub invariant-loop-at : goal.invariant-loop-at
invariant-loop-at g l =
    (l.at ≤ l.to) × IsComparing (AgreeAsRead g.P.PlacedRecord.kind g.P.Agreement.agree) (map g.P.Agreement.listed l.shards) l.places l.from l.at l.kept.items

abbrev pub decreases-loop-at : goal.decreases-loop-at
decreases-loop-at g l = l.to - l.at
