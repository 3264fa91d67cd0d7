use Rattle.std.proofs.Common.{map}
use Rattle.placed_shards.specs.Findings.{HasFormedRecords}
use Rattle.placed_shards.proofs.OpenedInputs.{AreOpenedUpTo}
use Rattle.placed_shards.proofs.findings.find_malformed.Given as goal

abbrev pub invariant-loop-input : goal.invariant-loop-input
invariant-loop-input l = AreOpenedUpTo l.selection HasFormedRecords (map (λ x. x.now) l.inputs) l.input
