use Rattle.std.proofs.Common.{map, take}
use Rattle.std.specs.List.{AllZip}
use Rattle.placed_shards.specs.Steps.MergingSteps.{IsOpenedAlone}
use Rattle.placed_shards.proofs.findings.open_all.Given as goal

abbrev pub invariant-loop-input : goal.invariant-loop-input
invariant-loop-input l = AllZip (IsOpenedAlone l.selection) (take l.input-index (map (λ x. x.now) l.inputs)) l.opened.items
