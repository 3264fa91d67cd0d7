use Rattle.std.proofs.Common.{[], ◌∷◌, arith}
use Rattle.placed_shards.specs.MergeSizes.{IsResultSize}
use Rattle.xet_c.proofs.Outcomes.{outcome_of_fill, size_given}
use Rattle.xet_c.proofs.difference.xet_difference.Goals as goal

pub returns-clause-combined : goal.returns-clause-combined
returns-clause-combined c = outcome_of_fill _ _ _ _ _ _ _ _ (omega arith) c.fill-filled.ensures.combined c.answer.ensures

pub returns-clause-size : goal.returns-clause-size
returns-clause-size c =
    let none : IsResultSize (c.args.second.now ∷ []) 0 = omega arith in
    size_given (IsResultSize (c.args.second.now ∷ [])) _ _ _ c.fill-filled.result c.fill-filled.ensures.size none c.answer.ensures
