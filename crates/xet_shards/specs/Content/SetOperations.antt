-- Union and difference of shards.
use Rattle.std.specs.Prelude.{◌≡◌, ◌≤◌, Some}
use Rattle.std.specs.Option.{option_or}
use Rattle.std.specs.FinMap.{get, values}
use Rattle.xet_base.specs.declared.merklehash.DataHash.{DataHash}
use Rattle.xet_records.specs.declared.file_structs.MDBFileInfo.{MDBFileInfo}
use Rattle.xet_records.specs.declared.xorb_structs.MDBXorbInfo.{MDBXorbInfo}
use Rattle.xet_records.specs.Merging.{Agree, IsSameFile}
use Rattle.xet_records.specs.FileRecord.{file_records}
use Rattle.xet_records.specs.XorbRecord.{xorb_records}
use Rattle.xet_shards.specs.Write.Section.{total_rows}
use Rattle.xet_shards.specs.Content.Shard.{Shard}
use Rattle.xet_shards.specs.Content.Joining.{unless_in, either_file}
use Rattle.xet_records.specs.Limits.{MAX_ROWS}

-- the records of both shards: of two files with the same hash, the first with the parts that only
-- the second has; of two xorbs with the same hash, the second
pub record IsUnion (a b c : Shard) : Type 0 where
  pub files : (q : DataHash) → get c.files q ≡ either_file (get a.files q) (get b.files q)
  pub xorbs : (q : DataHash) → get c.xorbs q ≡ option_or (get b.xorbs q) (get a.xorbs q)

-- the records of the second shard whose hashes the first does not have
pub record IsDifference (a b c : Shard) : Type 0 where
  pub files : (q : DataHash) → get c.files q ≡ unless_in a.files (get b.files) q
  pub xorbs : (q : DataHash) → get c.xorbs q ≡ unless_in a.xorbs (get b.xorbs) q

-- the rows of each map fit `u32`
pub record RowsFitU32 (s : Shard) : Type 0 where
  pub files : total_rows file_records (values s.files) ≤ MAX_ROWS
  pub xorbs : total_rows xorb_records (values s.xorbs) ≤ MAX_ROWS

-- files with the same hash have equally many segments, and the rows of the union fit `u32`
pub record CanUnite (a b : Shard) : Type 0 where
  pub same : (q : DataHash) → (r s : MDBFileInfo) → get a.files q ≡ Some r → get b.files q ≡ Some s
      → IsSameFile r.metadata s.metadata
  pub rows : (c : Shard) → IsUnion a b c → RowsFitU32 c

-- xorbs with the same hash are equal; files with the same hash have equal segments, and equal
-- optional parts wherever both have them
pub record ShardsAgree (a b : Shard) : Type 0 where
  pub files : (q : DataHash) → (r s : MDBFileInfo) → get a.files q ≡ Some r → get b.files q ≡ Some s
      → Agree r s
  pub xorbs : (q : DataHash) → (r s : MDBXorbInfo) → get a.xorbs q ≡ Some r → get b.xorbs q ≡ Some s
      → r ≡ s
