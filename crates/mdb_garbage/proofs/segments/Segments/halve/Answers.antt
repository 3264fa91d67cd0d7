use Rattle.mdb_garbage.specs.Garbage.{IsSegment}
use Rattle.mdb_garbage.proofs.Collecting.{collects_permuted, collects_within}
use Rattle.mdb_garbage.proofs.segments.Segments.halve.Goals as goal

pub returns-in-Some : goal.returns-in-Some
returns-in-Some c = λ files holds.
    collects_within (λ s. s.xorb) (IsSegment files) _ _ _ _ c.keep_in_range.ensures c.below-self.ensures.within
    (collects_permuted (λ s. s.xorb) (IsSegment files) _ _ _ c.sort_unstable.ensures.permutation holds)

pub returns-in_default : goal.returns-in_default
returns-in_default c = λ files holds. collects_permuted (λ s. s.xorb) (IsSegment files) _ _ _ c.sort_unstable.ensures.permutation holds
