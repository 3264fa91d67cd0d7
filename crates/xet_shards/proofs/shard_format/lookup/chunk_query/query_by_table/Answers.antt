use Rattle.std.proofs.Common.{arith}
use Rattle.xet_shards.proofs.Lookup.Tries.{query_read}
use Rattle.xet_shards.proofs.shard_format.lookup.chunk_query.query_by_table.Goals as goal

pub returns-clause-read : goal.returns-clause-read
returns-clause-read g c =
    query_read c.args.info.now.metadata c.in-Some.first.now c.in-Some.ensures.value (omega arith) c.in_ok-found.ensures.looks
    (omega (arith, c.get_xorb_info_index_by_chunk.array_long)) c.first_run.ensures
