-- What a summary says.
use Rattle.std.specs.Prelude.{◌≡◌, ℕ, List, string_bytes, Option, None, Some, option_map, if◌then◌else◌}
use Rattle.xet_core_structures.specs.declared.shard_format.MDBShardInfo.{MDBShardInfo}
use Rattle.xet_core_structures.specs.Hash.{hash_eq}
use Rattle.xet_core_structures.specs.KeyedHash.{no_key}
use Rattle.mdb_records.specs.declared.hex.Hex.{Hex}
use Rattle.mdb_report.specs.declared.parts_bar.Parts.{Parts}
use Rattle.mdb_report.specs.declared.summary.Summary.{Summary}
use Rattle.mdb_report.specs.PartsBar.{columns}

-- the key of the chunk hashes, if they have one
abbrev pub key_in : MDBShardInfo → Option Hex
key_in info =
    option_map (λ k. record { 0 = k })
    (if hash_eq info.metadata.chunk_hash_hmac_key no_key
    then None
    else Some info.metadata.chunk_hash_hmac_key)

-- each part starts where the footer says, and ends where the next one starts
pub record ArePartsOf (info : MDBShardInfo) (bytes : ℕ) (parts : Parts) : Type 0 where
  pub header : parts.header.start ≡ 0
  pub header_end : parts.header.end ≡ parts.files.start
  pub files : parts.files.start ≡ info.metadata.file_info_offset
  pub files_end : parts.files.end ≡ parts.xorbs.start
  pub xorbs : parts.xorbs.start ≡ info.metadata.xorb_info_offset
  pub xorbs_end : parts.xorbs.end ≡ parts.file_table.start
  pub file_table : parts.file_table.start ≡ info.metadata.file_lookup_offset
  pub file_table_end : parts.file_table.end ≡ parts.xorb_table.start
  pub file_rows : parts.file_table.rows ≡ info.metadata.file_lookup_num_entry
  pub xorb_table : parts.xorb_table.start ≡ info.metadata.xorb_lookup_offset
  pub xorb_table_end : parts.xorb_table.end ≡ parts.chunk_table.start
  pub xorb_rows : parts.xorb_table.rows ≡ info.metadata.xorb_lookup_num_entry
  pub chunk_table : parts.chunk_table.start ≡ info.metadata.chunk_lookup_offset
  pub chunk_table_end : parts.chunk_table.end ≡ parts.footer.start
  pub chunk_rows : parts.chunk_table.rows ≡ info.metadata.chunk_lookup_num_entry
  pub footer : parts.footer.start ≡ info.metadata.footer_offset
  -- the footer ends with the shard
  pub footer_end : parts.footer.end ≡ bytes

-- the summary says what header and footer do, of the file with this name
pub record Summarizes (info : MDBShardInfo) (file : List ℕ) (bytes : ℕ) (summary : Summary)
    : Type 0 where
  pub name : summary.shard.now ≡ file
  pub size : summary.bytes ≡ bytes
  pub version : summary.version ≡ info.header.version
  pub parts : ArePartsOf info bytes summary.parts
  -- the whole bar of 60 letters, which shows where the parts are
  pub bar : string_bytes summary.bar ≡ columns summary.parts bytes 60
  pub key : summary.key ≡ key_in info
  pub created : summary.created.seconds ≡ info.metadata.shard_creation_timestamp
  pub expires : summary.expires.seconds ≡ info.metadata.shard_key_expiry
  pub stored : summary.stored_bytes ≡ info.metadata.stored_bytes
  pub stored_on_disk : summary.stored_bytes_on_disk ≡ info.metadata.stored_bytes_on_disk
  pub materialized : summary.materialized_bytes ≡ info.metadata.materialized_bytes
