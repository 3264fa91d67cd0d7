use Rattle.std.proofs.Common.{◌≡◌, arith}
use Rattle.shard_bytes.specs.ResultSizes.{IsRewriteSize}
use Rattle.xet_c.specs.Arguments.{c_hash}
use Rattle.xet_c.proofs.Outcomes.{outcome_of_fill, size_given}
use Rattle.xet_c.proofs.complete.xet_complete.Goals as goal

pub returns-clause-completed : goal.returns-clause-completed
returns-clause-completed c =
    let key : c_hash c.from.result ≡ c.args.key.now = λ i. record { words = c.from.ensures i } in
    (c.from.result, key, outcome_of_fill _ _ _ _ _ _ _ _ (omega arith) c.fill-filled.ensures.completed c.answer.ensures)

pub returns-clause-of_shard : goal.returns-clause-of_shard
returns-clause-of_shard c = λ s shard follows.
    let key : c_hash c.from.result ≡ c.args.key.now = λ i. record { words = c.from.ensures i } in
    (c.from.result, key, outcome_of_fill _ _ _ _ _ _ _ _ (omega arith) (c.fill-filled.ensures.of_shard s shard follows) c.answer.ensures)

pub returns-clause-size : goal.returns-clause-size
returns-clause-size c =
    let none : IsRewriteSize c.args.shard.now 0 = omega arith in
    size_given (IsRewriteSize c.args.shard.now) _ _ _ c.fill-filled.result c.fill-filled.ensures.size none c.answer.ensures
