use Rattle.std.proofs.Common.{refl}
use Rattle.xet_records.specs.FileRecord.{file_records}
use Rattle.xet_shards.proofs.Write.Written.{table_of_none}
use Rattle.xet_shards.proofs.shard_format.write.file_writer.WrittenFilesWrittenSection.new.Goals as goal

pub returns : goal.returns
returns c = record { table = table_of_none file_records c.new.result c.new.ensures.records c.new.ensures.rows c.new.ensures.bytes; bytes = refl }
