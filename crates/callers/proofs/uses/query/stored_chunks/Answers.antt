use Rattle.std.proofs.Common.{◌≡◌, ap, sym, subst}
use Rattle.std.specs.FinMap as finite
use Rattle.xet_base.specs.MemorySource.{in_memory}
use Rattle.xet_core_structures.specs.KeyedHash.{no_key}
use Rattle.xet_core_structures.specs.Source.{Source}
use Rattle.xet_core_structures.specs.WrittenQueries.{RunAmong}
use Rattle.xet_core_structures.specs.WrittenShard.{IsBytesOf}
use Rattle.callers.proofs.Callers.{as_written, ok_in_memory}
use Rattle.callers.proofs.uses.query.stored_chunks.Goals as goal

pub returns : goal.returns
returns c s is =
    let loaded = c.load_from_reader.new.source in
    let x : c.new-source.result.bytes.now ≡ c.args.shard.now = ap (λ (s : Source). s.bytes) c.new-source.ensures in
    ok_in_memory c.chunk_hash_dedup_query.result (RunAmong no_key c.args.chunks.now (finite.values s.xorbs)) loaded c.chunk_hash_dedup_query.new.source
    (c.chunk_hash_dedup_query.ensures.written s
    (as_written s (in_memory c.new-source.result) (in_memory loaded) c.in_ok-info.info (subst (IsBytesOf s) (sym x) is) c.in_ok-info.ensures.read))
