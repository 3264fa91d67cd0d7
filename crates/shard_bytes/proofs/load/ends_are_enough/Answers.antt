use Rattle.shard_bytes.proofs.EndsAlone.{same_ends}
use Rattle.shard_bytes.proofs.load.ends_are_enough.Goals as goal

pub returns : goal.returns
returns c = same_ends
