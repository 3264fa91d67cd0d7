use Rattle.std.proofs.Common.{take}
use Rattle.std.specs.Prelude.{map}
use Rattle.xet_records.specs.FileRecord.{as_read}
use Rattle.xet_shards.specs.Write.Written.{HasWritten}
use Rattle.placed_shards.proofs.collecting.collect_files.Given as goal

abbrev pub invariant-loop-file : goal.invariant-loop-file
invariant-loop-file l = record {
  stored : HasWritten l.written (take l.file-index l.files);
  read : HasWritten l.written (map as_read (take l.file-index l.files));
}
