use Rattle.xet_shards.proofs.Content.KeyedShards.{keyed_is_shard, exported_is}
use Rattle.xet_core_structures.proofs.laws.exports.keyed_shards_are_exported.Goals as goal

pub returns-clause-shards : goal.returns-clause-shards
returns-clause-shards c = keyed_is_shard

pub returns-clause-bytes : goal.returns-clause-bytes
returns-clause-bytes c = exported_is
