use Rattle.xet_core_structures.proofs.Records.SmallerShards.{empty_is_shard, difference_is_shard}
use Rattle.xet_core_structures.proofs.laws.empty_and_differences_are_shards.Goals as goal

pub returns-clause-empty : goal.returns-clause-empty
returns-clause-empty c = empty_is_shard

pub returns-clause-difference : goal.returns-clause-difference
returns-clause-difference c = difference_is_shard
