-- Steps towards what `ShardContents` defines, which only contracts inside the crate speak of.
use Rattle.std.specs.Prelude.{◌≡◌, ℕ, List, map}
use Rattle.xet_records.specs.declared.file_structs.MDBFileInfo.{MDBFileInfo}
use Rattle.xet_records.specs.declared.xorb_structs.MDBXorbInfo.{MDBXorbInfo}
use Rattle.xet_records.specs.RecordKind.{RecordKind}
use Rattle.xet_records.specs.XorbRecord.{xorb_records}
use Rattle.xet_shards.specs.declared.shard_format.ends.info.MDBShardInfo.{MDBShardInfo}
use Rattle.xet_shards.specs.Read.SectionReading.{files_of, IsSection}
use Rattle.xet_core_structures.specs.Records.ShardContents.{AreWritable, files_at, xorbs_at}

-- the bytes are a section: these are its records, as reading returns them, and they may be written
-- as a section whose hashes strictly ascend
pub record IsListOf {H R : Type 0} (K : RecordKind H R) (bytes : List ℕ) (found : List R)
    : Type 0 where
  pub stored : List R
  pub section : IsSection K bytes stored
  pub returned : map K.as_read stored ≡ found
  pub writable : AreWritable K found

-- the bytes have both sections, with the records of these lists
pub record HoldsLists (bytes : List ℕ) (info : MDBShardInfo) (fs : List MDBFileInfo)
    (xs : List MDBXorbInfo) : Type 0 where
  pub files : IsListOf (files_of info) (files_at bytes info) fs
  pub xorbs : IsListOf xorb_records (xorbs_at bytes info) xs
