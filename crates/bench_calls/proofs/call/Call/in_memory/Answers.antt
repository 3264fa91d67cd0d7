use Rattle.std.proofs.Common.{sym, subst}
use Rattle.bench_calls.specs.Answers.{AreBytesOfSome}
use Rattle.bench_calls.proofs.call.Call.in_memory.Goals as goal

pub returns-in_ok-shard_to_bytes-in-Serialize : goal.returns-in_ok-shard_to_bytes-in-Serialize
returns-in_ok-shard_to_bytes-in-Serialize c times bytes same =
    rw c.in-Serialize.is (subst AreBytesOfSome (sym same) c.in_ok-shard_to_bytes-in-Serialize.ensures)
