use Rattle.std.proofs.Common.{◌≡◌, ◌+◌, ◌*◌, take, flat_map}
use Rattle.xet_records.specs.FileRecord.{file_record_bytes, file_records}
use Rattle.xet_shards.specs.Write.Section.{total_rows}
use Rattle.xet_shards.specs.Write.Puts.{Puts}
use Rattle.placed_shards.specs.StoredFiles.{files_as}
use Rattle.placed_shards.proofs.putting.put_files.Given as goal

abbrev pub invariant-loop-file : goal.invariant-loop-file
invariant-loop-file l = record {
  size : l.end ≡ l.at + 48 * total_rows file_records (take l.file-index l.files);
  puts : Puts l.fn.out l.out l.at l.end (flat_map file_record_bytes (files_as l.is_read (take l.file-index l.files)));
}
