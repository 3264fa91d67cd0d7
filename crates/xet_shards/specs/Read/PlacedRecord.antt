-- Records in memory as they are stored.
use Rattle.std.specs.Prelude.{◌≡◌, ℕ, List, ◌++◌}
use Rattle.xet_records.specs.RecordKind.{RecordKind}
use Rattle.xet_shards.specs.declared.shard_format.read.placed_record.PlacedRecord.{PlacedRecord}

-- a header, and bytes from the rows after it on, are those of a record as it is stored
pub record StoresRecord {H R : Type 0} (K : RecordKind H R) (p : PlacedRecord H) (r : R) : Type 0 where
  pub is_stored : K.IsStored r
  pub header_is : p.header ≡ K.header_of r
  pub rest : List ℕ
  pub rows_are : p.rows.now ≡ K.bytes_after r ++ rest
