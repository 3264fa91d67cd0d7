use Rattle.std.proofs.Common.{◌≡◌, None, subst}
use Rattle.std.specs.Prelude.{◌↔◌}
use Rattle.xet_shards.specs.ShardInMemory.ChunkLookup.{ShardWithLookup}
use Rattle.xet_shards.specs.ShardInMemory.ChunkQuery.{HasNoChunk}
use Rattle.xet_shards.proofs.shard_in_memory.MDBInMemoryShard.chunk_hash_dedup_query.Goals as goal

pub returns-clause-none : goal.returns-clause-none
returns-clause-none c =
    subst (λ (s : ShardWithLookup). (c.chunk_hash_dedup_query.result ≡ None) ↔ HasNoChunk s.content.xorbs c.args.query_hashes.now) c.self.view_is c.chunk_hash_dedup_query.ensures.none
