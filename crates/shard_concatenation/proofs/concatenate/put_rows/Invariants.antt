use Rattle.shard_concatenation.proofs.PartFilling.{HasPutRows}
use Rattle.shard_concatenation.proofs.concatenate.put_rows.Given as goal

abbrev pub invariant-loop-section : goal.invariant-loop-section
invariant-loop-section l = HasPutRows l.sections l.section-index l.fn.out l.out l.at l.end
