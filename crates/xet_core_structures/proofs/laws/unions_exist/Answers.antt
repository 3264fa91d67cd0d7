use Rattle.xet_shards.proofs.Content.Overlays.{united_shard, union_exists, union_unique}
use Rattle.xet_core_structures.proofs.laws.unions_exist.Goals as goal

pub returns-clause-exists : goal.returns-clause-exists
returns-clause-exists c = λ a b. (united_shard a b, union_exists a b)

pub returns-clause-one : goal.returns-clause-one
returns-clause-one c = union_unique
