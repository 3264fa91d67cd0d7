use Rattle.std.proofs.Common.{◌≡◌, map, take}
use Rattle.mdb_merging.proofs.rounds.keys_of.Given as goal

abbrev pub invariant-loop-shard : goal.invariant-loop-shard
invariant-loop-shard l = l.keys.items ≡ map (λ s. s.info.metadata.chunk_hash_hmac_key) (take l.shard-index l.shards)
