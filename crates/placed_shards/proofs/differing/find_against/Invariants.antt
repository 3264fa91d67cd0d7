use Rattle.std.proofs.Common.{map, take}
use Rattle.placed_shards.specs.Steps.Differing.{AgreeAsRead, AgreesWithAll}
use Rattle.placed_shards.proofs.differing.find_against.Given as goal

abbrev pub invariant-loop-one : goal.invariant-loop-one
invariant-loop-one g l = AgreesWithAll (AgreeAsRead g.P.PlacedRecord.kind g.P.Agreement.agree) (map g.P.Agreement.listed l.shards) (take l.one-index l.kept) l.other
