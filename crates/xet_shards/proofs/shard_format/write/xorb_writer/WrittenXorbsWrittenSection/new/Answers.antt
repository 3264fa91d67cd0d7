use Rattle.std.proofs.Common.{refl}
use Rattle.xet_records.specs.XorbRecord.{xorb_records}
use Rattle.xet_shards.proofs.Write.Written.{table_of_none}
use Rattle.xet_shards.proofs.shard_format.write.xorb_writer.WrittenXorbsWrittenSection.new.Goals as goal

pub returns : goal.returns
returns c = record {
  table = table_of_none xorb_records c.new.result c.new.ensures.records c.new.ensures.rows c.new.ensures.bytes;
  chunk_rows = λ _. c.new-2.ensures.items;
  bytes = refl;
  bytes_on_disk = refl;
}
