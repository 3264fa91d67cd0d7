use Rattle.xet_shards.proofs.Content.KeyedShards.{run_no_shorter}
use Rattle.xet_core_structures.proofs.laws.exports.joins_keep_runs.Goals as goal

pub returns-clause-xorbs : goal.returns-clause-xorbs
returns-clause-xorbs c = λ shards s c q xorb join member has. (join.xorbs q xorb).1 (s, member, has)

pub returns-clause-runs : goal.returns-clause-runs
returns-clause-runs c = run_no_shorter
