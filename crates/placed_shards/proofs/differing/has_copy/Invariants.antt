use Rattle.std.proofs.Common.{◌≡◌, Some, map, take}
use Rattle.std.specs.Prelude.{Contains}
use Rattle.placed_shards.specs.declared.places.Place.{Place}
use Rattle.placed_shards.specs.Steps.Differing.{record_at}
use Rattle.placed_shards.proofs.differing.has_copy.Given as goal

abbrev pub invariant-loop-one : goal.invariant-loop-one
invariant-loop-one g l = (k : Place) → Contains (take l.one-index l.kept) k → ¬ (record_at (map g.P.Agreement.listed l.shards) k ≡ Some l.other)
