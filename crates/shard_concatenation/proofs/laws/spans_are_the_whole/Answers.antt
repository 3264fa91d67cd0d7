use Rattle.shard_concatenation.proofs.WithinSpan.{spans_whole}
use Rattle.shard_concatenation.proofs.laws.spans_are_the_whole.Goals as goal

pub returns : goal.returns
returns c = λ sizes bytes sum. spans_whole sizes bytes sum
