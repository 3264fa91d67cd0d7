use Rattle.std.proofs.Common.{arith}
use Rattle.xet_c.proofs.Outcomes.{outcome_of_fill}
use Rattle.xet_c.proofs.write.xet_write.Goals as goal

pub returns : goal.returns
returns c = outcome_of_fill _ _ _ _ _ _ _ _ (omega arith) c.fill-filled.ensures c.answer.ensures
