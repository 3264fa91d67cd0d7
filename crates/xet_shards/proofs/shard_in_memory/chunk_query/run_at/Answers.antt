use Rattle.std.proofs.Common.{◌-◌, length, ap, arith}
use Rattle.xet_records.specs.XorbRecord.{total_bytes}
use Rattle.xet_shards.proofs.ShardInMemory.ChunkQueries.{bytes_of_part}
use Rattle.xet_shards.proofs.shard_in_memory.chunk_query.run_at.Goals as goal

pub from_xorb_entries-segment-requires : goal.from_xorb_entries-segment-requires
from_xorb_entries-segment-requires c =
    let cs = c.as_slice.result.now in
    omega (arith, bytes_of_part cs c.args.index (length cs - c.args.index) c.run_length-length.result, ap total_bytes c.as_slice.ensures, c.requires.well_formed.bytes)
