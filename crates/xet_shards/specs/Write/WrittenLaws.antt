-- What was collected for a chunk table serves also where none is written: a law that an export
-- cites.
use Rattle.std.specs.Prelude.{Bool, List, refl}
use Rattle.xet_records.specs.declared.xorb_structs.MDBXorbInfo.{MDBXorbInfo}
use Rattle.xet_shards.specs.declared.shard_format.write.written.WrittenXorbs.{WrittenXorbs}
use Rattle.xet_shards.specs.Write.Written.{HasWrittenFor, HasWrittenXorbs}

pub written_for : (chunk_table : Bool) (w : WrittenXorbs) (xorbs : List MDBXorbInfo)
    → HasWrittenXorbs w xorbs → HasWrittenFor chunk_table w xorbs
written_for chunk_table w xorbs have = record {
  table = have.table;
  chunk_rows = λ _. have.chunk_rows refl;
  bytes = have.bytes;
  bytes_on_disk = have.bytes_on_disk;
}
