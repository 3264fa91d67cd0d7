use Rattle.std.proofs.Common.{map, take, flat_map}
use Rattle.std.specs.Io.KnownBytes.{Appends}
use Rattle.xet_records.specs.FileRecord.{file_record_bytes}
use Rattle.xet_records.specs.View.{as_kept}
use Rattle.xet_shards.specs.Write.Written.{HasWritten}
use Rattle.xet_shards.proofs.streaming_shard.minimal_writer.write_files.Given as goal

abbrev pub invariant-loop-file : goal.invariant-loop-file
invariant-loop-file g l = record {
  written : HasWritten l.written (map (as_kept l.kept) (take l.file-index l.files));
  bytes : Appends (g.W.Write.contents l.initial.writer) (g.W.Write.contents l.writer) (flat_map file_record_bytes (map (as_kept l.kept) (take l.file-index l.files)));
}
