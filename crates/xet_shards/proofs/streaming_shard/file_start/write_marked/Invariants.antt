use Rattle.std.proofs.Common.{◌≤◌, length, flat_map, ◌++◌}
use Rattle.std.specs.Io.KnownBytes.{Appends}
use Rattle.xet_records.specs.XorbRow.{xorb_header_row, chunk_row}
use Rattle.xet_shards.specs.StreamingShard.MinimalShard.{has_start}
use Rattle.xet_shards.proofs.StreamingShard.FileStarts.{AreLeft}
use Rattle.xet_shards.proofs.StreamingShard.MinimalShard.{marks_to}
use Rattle.xet_shards.proofs.streaming_shard.file_start.write_marked.Given as goal

abbrev pub invariant-loop-start : goal.invariant-loop-start
invariant-loop-start g l = record {
  within : l.done ≤ length l.xorb.chunks;
  left : AreLeft l.xorb l.fn.starts l.rest l.done l.start-index;
  written : Appends (g.W.Write.contents l.fn.writer) (g.W.Write.contents l.writer)
      (xorb_header_row l.xorb.metadata ++ flat_map chunk_row (marks_to (has_start l.fn.starts) l.xorb l.done));
}
