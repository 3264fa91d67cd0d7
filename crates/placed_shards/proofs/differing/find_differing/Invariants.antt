use Rattle.std.proofs.Common.{◌-◌, length, map}
use Rattle.placed_shards.specs.Steps.Differing.{AgreeAsRead}
use Rattle.placed_shards.proofs.DifferingFound.{HasCompared}
use Rattle.placed_shards.proofs.differing.find_differing.Given as goal

abbrev pub invariant-loop-from : goal.invariant-loop-from
invariant-loop-from g l = HasCompared (AgreeAsRead g.P.PlacedRecord.kind g.P.Agreement.agree) (map g.P.Agreement.listed l.shards) l.places.items l.from l.found.items

abbrev pub decreases-loop-from : goal.decreases-loop-from
decreases-loop-from g l = length l.places.items - l.from
