use Rattle.std.proofs.Common.{◌≡◌, ap}
use Rattle.xet_base.specs.MemorySource.{in_memory}
use Rattle.xet_core_structures.specs.Source.{Source}
use Rattle.shard_bytes.specs.ChunkRows.{chunks_of}
use Rattle.shard_bytes.proofs.ChunkRows.{rows_read}
use Rattle.shard_bytes.proofs.Written.{as_written, list_in_memory}
use Rattle.shard_bytes.proofs.chunk_rows.chunk_rows.Goals as goal

pub returns-clause-any_bytes : goal.returns-clause-any_bytes
returns-clause-any_bytes c =
    let x : c.new-source.result.bytes.now ≡ c.args.bytes.now = ap (λ (s : Source). s.bytes) c.new-source.ensures in
    rows_read c.args.bytes.now c.in_ok-info.info c.new-source.result c.load_from_reader.new.source c.read_all_truncated_hashes.new.source x c.in_ok-info.ensures.read c.read_all_truncated_hashes.result
    c.read_all_truncated_hashes.ensures.table c.read_all_truncated_hashes.ensures.section

pub returns-clause-written : goal.returns-clause-written
returns-clause-written c s is =
    let loaded = c.load_from_reader.new.source in
    let x : c.new-source.result.bytes.now ≡ c.args.bytes.now = ap (λ (s : Source). s.bytes) c.new-source.ensures in
    list_in_memory (chunks_of s) c.read_all_truncated_hashes.result loaded c.read_all_truncated_hashes.new.source
    (c.read_all_truncated_hashes.ensures.written s
    (as_written s c.args.bytes.now (in_memory c.new-source.result) (in_memory loaded) c.in_ok-info.info is x c.in_ok-info.ensures.read))
