use Rattle.std.proofs.Common.{refl}
use Rattle.shard_concatenation.proofs.RangeParts.{ranges_concatenate}
use Rattle.shard_concatenation.proofs.laws.ranges_concatenate.Goals as goal

pub returns-clause-parts : goal.returns-clause-parts
returns-clause-parts c = ranges_concatenate

pub returns-clause-no_key : goal.returns-clause-no_key
returns-clause-no_key c = λ version join. refl
