use Rattle.std.proofs.Common.{◌≡◌, ◌++◌, map, take}
use Rattle.placed_shards.specs.Steps.Differing.{disagreement_of}
use Rattle.placed_shards.proofs.findings.add_all.Given as goal

abbrev pub invariant-loop-one : goal.invariant-loop-one
invariant-loop-one g l = l.found.items ≡ l.fn.found.items ++ map (disagreement_of g.P.Agreement.named) (take l.one-index l.differing)
