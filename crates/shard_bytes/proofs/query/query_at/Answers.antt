use Rattle.std.proofs.Common.{◌≡◌, ap}
use Rattle.xet_base.specs.MemorySource.{in_memory}
use Rattle.xet_core_structures.specs.Source.{Source}
use Rattle.shard_bytes.proofs.Written.{as_written, direct_in_memory}
use Rattle.shard_bytes.proofs.query.query_at.Goals as goal

pub returns-clause-written : goal.returns-clause-written
returns-clause-written c s xorb is starts =
    let loaded = c.load_from_reader.new.source in
    let x : c.new-source.result.bytes.now ≡ c.args.bytes.now = ap (λ (s : Source). s.bytes) c.new-source.ensures in
    direct_in_memory c.args.hashes.now xorb c.args.index c.chunk_hash_dedup_query_direct.result loaded c.chunk_hash_dedup_query_direct.new.source
    (c.chunk_hash_dedup_query_direct.ensures.written s xorb
    (as_written s c.args.bytes.now (in_memory c.new-source.result) (in_memory loaded) c.in_ok-info.info is x c.in_ok-info.ensures.read) starts)
