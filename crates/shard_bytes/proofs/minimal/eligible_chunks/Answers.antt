use Rattle.shard_bytes.specs.Minimal.{RefusesMinimal}
use Rattle.shard_bytes.proofs.MemoryErrors.{from_memory}
use Rattle.shard_bytes.proofs.minimal.eligible_chunks.Goals as goal

pub returns-in-Err : goal.returns-in-Err
returns-in-Err c = from_memory (RefusesMinimal c.args.bytes.now) c.in-Err.error c.in_memory.result c.in_memory.ensures (λ _. (_, c.in-Err.ensures))
