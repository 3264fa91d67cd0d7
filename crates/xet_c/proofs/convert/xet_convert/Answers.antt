use Rattle.std.proofs.Common.{arith}
use Rattle.shard_bytes.specs.ResultSizes.{IsRewriteSize}
use Rattle.xet_c.proofs.Outcomes.{outcome_of_fill, size_given}
use Rattle.xet_c.proofs.convert.xet_convert.Goals as goal

pub returns-clause-written : goal.returns-clause-written
returns-clause-written c = outcome_of_fill _ _ _ _ _ _ _ _ (omega arith) c.fill-filled.ensures.written c.answer.ensures

pub returns-clause-size : goal.returns-clause-size
returns-clause-size c =
    let none : IsRewriteSize c.args.shard.now 0 = omega arith in
    size_given (IsRewriteSize c.args.shard.now) _ _ _ c.fill-filled.result c.fill-filled.ensures.size none c.answer.ensures
