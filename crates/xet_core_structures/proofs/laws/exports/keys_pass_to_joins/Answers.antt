use Rattle.xet_shards.proofs.Content.KeyedShards.{keyed_union, keyed_join, keyed_agree}
use Rattle.xet_core_structures.proofs.laws.exports.keys_pass_to_joins.Goals as goal

pub returns-clause-union : goal.returns-clause-union
returns-clause-union c = keyed_union

pub returns-clause-join : goal.returns-clause-join
returns-clause-join c = keyed_join

pub returns-clause-agree : goal.returns-clause-agree
returns-clause-agree c = keyed_agree
