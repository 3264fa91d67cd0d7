use Rattle.xet_shards.proofs.Content.ShardsWithoutAux.{without_aux-is_shard, values-without_aux, without_aux-agree, without_aux-join}
use Rattle.xet_core_structures.proofs.laws.exports.joins_without_auxiliary_rows.Goals as goal

pub returns-clause-shards : goal.returns-clause-shards
returns-clause-shards c = without_aux-is_shard

pub returns-clause-files : goal.returns-clause-files
returns-clause-files c = values-without_aux

pub returns-clause-agree : goal.returns-clause-agree
returns-clause-agree c = without_aux-agree

pub returns-clause-join : goal.returns-clause-join
returns-clause-join c = without_aux-join
