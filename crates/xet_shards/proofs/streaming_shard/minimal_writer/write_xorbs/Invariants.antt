use Rattle.std.proofs.Common.{false, List, map, take, flat_map}
use Rattle.std.specs.Fn.{FnReturnsAt}
use Rattle.std.specs.Io.KnownBytes.{Appends}
use Rattle.xet_records.specs.declared.xorb_structs.MDBXorbInfo.{MDBXorbInfo}
use Rattle.xet_records.specs.XorbRecord.{xorb_record_bytes}
use Rattle.xet_shards.specs.Write.Written.{HasWrittenFor}
use Rattle.xet_shards.specs.StreamingShard.MinimalShard.{has_start, mark_starts, IsKept}
use Rattle.xet_shards.proofs.streaming_shard.minimal_writer.write_xorbs.Given as goal

abbrev pub invariant-loop-xorb : goal.invariant-loop-xorb
invariant-loop-xorb g l =
    (kept : List MDBXorbInfo) × IsKept (FnReturnsAt g.F.Fn l.filter) (take l.xorb-index l.xorbs) kept
    × HasWrittenFor false l.written (map (mark_starts (has_start l.starts)) kept)
    × Appends (g.W.Write.contents l.fn.writer) (g.W.Write.contents l.writer) (flat_map xorb_record_bytes (map (mark_starts (has_start l.starts)) kept))
