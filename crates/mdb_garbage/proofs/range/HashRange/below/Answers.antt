use Rattle.std.proofs.Common.{rules, subst}
use Rattle.mdb_garbage.specs.CollectedRanges.{InRange}
use Rattle.mdb_garbage.proofs.Limits.{in_wider_range}
use Rattle.mdb_garbage.proofs.range.HashRange.below.Goals as goal

pub returns-then-lt-clause-within : goal.returns-then-lt-clause-within
returns-then-lt-clause-within c = λ hash within.
    in_wider_range c.args.self.from c.args.self.to c.args.to c.in-Some.limit hash c.in-Some.is (search rules) (subst (λ r. InRange r hash) c.up_to.ensures within)
