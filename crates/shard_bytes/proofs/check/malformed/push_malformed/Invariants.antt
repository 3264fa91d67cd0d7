use Rattle.shard_bytes.proofs.Malformed.{AddsBefore}
use Rattle.shard_bytes.proofs.check.malformed.push_malformed.Given as goal

abbrev pub invariant-loop-index : goal.invariant-loop-index
invariant-loop-index g l = AddsBefore g.P.Judged.formed l.records l.section l.index l.initial.findings.items l.findings.items
