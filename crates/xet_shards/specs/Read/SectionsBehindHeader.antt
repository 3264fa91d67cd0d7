-- The sections that bytes begin with, and the layout options that a header and a footer name.
use Rattle.std.specs.Prelude.{ℕ, List, drop, nat_lt}
use Rattle.xet_records.specs.declared.file_structs.MDBFileInfo.{MDBFileInfo}
use Rattle.xet_records.specs.declared.xorb_structs.MDBXorbInfo.{MDBXorbInfo}
use Rattle.xet_records.specs.FileRecord.{file_records_in}
use Rattle.xet_records.specs.Version.{version_of}
use Rattle.xet_records.specs.XorbRecord.{xorb_records}
use Rattle.xet_shards.specs.declared.shard_format.ends.info.MDBShardInfo.{MDBShardInfo}
use Rattle.xet_shards.specs.Ends.Ends.{HasHeader}
use Rattle.xet_shards.specs.Export.KeyedExport.{xorbs_after}
use Rattle.xet_shards.specs.Write.Layout.{LayoutOptions}
use Rattle.xet_shards.specs.Read.SectionReading.{IsSection}

-- the bytes begin with a header and the sections of these files and xorbs
pub record HasSections (bytes : List ℕ) (files : List MDBFileInfo) (xorbs : List MDBXorbInfo)
    : Type 0 where
  pub header : HasHeader bytes
  pub file_section : IsSection (file_records_in header.version) (drop 48 bytes) files
  pub xorb_section : IsSection xorb_records (drop (xorbs_after files) bytes) xorbs

-- the layout options that a header and a footer name: a table is in if it has a row
abbrev pub options_of : MDBShardInfo → LayoutOptions
options_of info = record {
  version = version_of info.header.version;
  file_table = nat_lt 0 info.metadata.file_lookup_num_entry;
  xorb_table = nat_lt 0 info.metadata.xorb_lookup_num_entry;
  chunk_table = nat_lt 0 info.metadata.chunk_lookup_num_entry;
  key = info.metadata.chunk_hash_hmac_key;
  creation = info.metadata.shard_creation_timestamp;
  expiry = info.metadata.shard_key_expiry;
}
