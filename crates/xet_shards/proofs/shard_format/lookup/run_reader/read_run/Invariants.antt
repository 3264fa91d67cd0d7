use Rattle.std.proofs.Common.{◌≡◌}
use Rattle.xet_shards.specs.Steps.RunSteps.{HasReadRun}
use Rattle.xet_shards.proofs.shard_format.lookup.run_reader.read_run.Given as goal

abbrev pub invariant-loop-query_hash : goal.invariant-loop-query_hash
invariant-loop-query_hash g l =
    HasReadRun l.info.metadata.chunk_hash_hmac_key l.query_hashes l.left (g.S.ShardSource.meaning l.initial.source) (g.S.ShardSource.meaning l.source) l.length l.bytes
    × (l.length ≡ l.query_hash-index)
