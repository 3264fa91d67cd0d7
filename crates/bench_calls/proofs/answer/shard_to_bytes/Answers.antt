use Rattle.bench_calls.proofs.Written.{some_shard}
use Rattle.bench_calls.proofs.answer.shard_to_bytes.Goals as goal

pub returns : goal.returns
returns c = some_shard c.to_bytes.result _ c.to_bytes.ensures.ok c.to_bytes.ensures.shard
