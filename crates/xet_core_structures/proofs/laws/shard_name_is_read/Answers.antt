use Rattle.xet_shards.proofs.Content.Names.{shard_name-named, named-unique}
use Rattle.xet_core_structures.proofs.laws.shard_name_is_read.Goals as goal

pub returns-clause-named : goal.returns-clause-named
returns-clause-named c = shard_name-named

pub returns-clause-alone : goal.returns-clause-alone
returns-clause-alone c = named-unique
