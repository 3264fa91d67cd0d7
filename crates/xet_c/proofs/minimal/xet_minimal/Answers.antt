use Rattle.std.proofs.Common.{arith}
use Rattle.shard_bytes.specs.ResultSizes.{IsMinimalSize}
use Rattle.xet_c.proofs.Outcomes.{outcome_of_fill, size_given}
use Rattle.xet_c.proofs.minimal.xet_minimal.Goals as goal

pub returns-clause-minimal : goal.returns-clause-minimal
returns-clause-minimal c = outcome_of_fill _ _ _ _ _ _ _ _ (omega arith) c.fill-filled.ensures.minimal c.answer.ensures

pub returns-clause-size : goal.returns-clause-size
returns-clause-size c =
    let none : IsMinimalSize c.args.shard.now 0 = omega arith in
    size_given (IsMinimalSize c.args.shard.now) _ _ _ c.fill-filled.result c.fill-filled.ensures.size none c.answer.ensures
