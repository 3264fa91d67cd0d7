-- The bytes of a shard: header, sections, tables and footer.
use Rattle.std.specs.Prelude.{ℕ, ◌+◌, Bool, true, List, [], ◌∷◌, ◌++◌, length, flat_map, sum_by, Option, unwrap_or, if◌then◌else◌}
use Rattle.std.specs.FinMap.{values}
use Rattle.xet_base.specs.Bytes.{u64_bytes}
use Rattle.xet_base.specs.Hash.{hash_bytes}
use Rattle.xet_records.specs.declared.file_structs.MDBFileInfo.{MDBFileInfo}
use Rattle.xet_records.specs.declared.xorb_structs.MDBXorbInfo.{MDBXorbInfo}
use Rattle.xet_records.specs.declared.record_reader.FormatVersion.{FormatVersion}
use Rattle.xet_records.specs.declared.record_reader.FormatVersion.TheVariants.{V3}
use Rattle.xet_records.specs.Version.{number_of}
use Rattle.xet_records.specs.FileRecord.{file_records, size_of_file}
use Rattle.xet_records.specs.XorbRecord.{xorb_records}
use Rattle.xet_shards.specs.declared.shard_format.ends.header.MDBShardFileHeader.{MDBShardFileHeader}
use Rattle.xet_shards.specs.declared.shard_format.ends.footer.MDBShardFileFooter.{MDBShardFileFooter}
use Rattle.xet_shards.specs.declared.shard_format.ends.info.MDBShardInfo.{MDBShardInfo}
-- what a writer chooses beside the records: the version, which tables are in, the key of the chunk
-- hashes and two timestamps
pub use Rattle.xet_shards.specs.declared.shard_format.ends.options.LayoutOptions.{LayoutOptions}
use Rattle.xet_shards.specs.Content.Shard.{Shard}
use Rattle.xet_shards.specs.Write.Section.{section_bytes}
use Rattle.xet_shards.specs.Write.Tables.{starts, chunk_table, table_bytes, chunk_table_bytes}

-- the 32 bytes that every shard begins with: `HFRepoMetaData`, a zero byte and seventeen more
abbrev pub header_tag : List ℕ
header_tag =
    72 ∷ 70 ∷ 82 ∷ 101 ∷ 112 ∷ 111 ∷ 77 ∷ 101 ∷ 116 ∷ 97 ∷ 68 ∷ 97 ∷ 116 ∷ 97 ∷ 0 ∷ 85 ∷ 105 ∷ 103
    ∷ 69 ∷ 106 ∷ 123 ∷ 129 ∷ 87 ∷ 131 ∷ 165 ∷ 189 ∷ 217 ∷ 92 ∷ 205 ∷ 209 ∷ 74 ∷ 169 ∷ []

-- the header: the tag, whatever the value holds, its version and its footer size
unfoldable pub shard_header_bytes : MDBShardFileHeader → List ℕ
shard_header_bytes h = (header_tag ++ u64_bytes h.version) ++ u64_bytes h.footer_size

-- the words of a footer before the key: its version, the offsets of the sections and the tables,
-- and the numbers of rows of the tables
abbrev pub offsets_of : MDBShardFileFooter → List ℕ
offsets_of f =
    f.version ∷ f.file_info_offset ∷ f.xorb_info_offset ∷ f.file_lookup_offset
    ∷ f.file_lookup_num_entry ∷ f.xorb_lookup_offset ∷ f.xorb_lookup_num_entry
    ∷ f.chunk_lookup_offset ∷ f.chunk_lookup_num_entry ∷ []

-- the words of a footer between the key and the reserved words: creation and expiry
abbrev pub timestamps_of : MDBShardFileFooter → List ℕ
timestamps_of f = f.shard_creation_timestamp ∷ f.shard_key_expiry ∷ []

-- the words of a footer after the reserved words: three byte counts, and the offset of the footer
abbrev pub sums_of : MDBShardFileFooter → List ℕ
sums_of f = f.stored_bytes_on_disk ∷ f.materialized_bytes ∷ f.stored_bytes ∷ f.footer_offset ∷ []

-- the footer: its fields in order
unfoldable pub shard_footer_bytes : MDBShardFileFooter → List ℕ
shard_footer_bytes f =
    (((flat_map u64_bytes (offsets_of f) ++ hash_bytes f.chunk_hash_hmac_key)
    ++ flat_map u64_bytes (timestamps_of f))
    ++ flat_map u64_bytes f._buffer)
    ++ flat_map u64_bytes (sums_of f)

-- the footer of `Default`
abbrev pub default_footer : MDBShardFileFooter
default_footer = record {
  version = 1;
  file_info_offset = 0;
  xorb_info_offset = 0;
  file_lookup_offset = 0;
  file_lookup_num_entry = 0;
  xorb_lookup_offset = 0;
  xorb_lookup_num_entry = 0;
  chunk_lookup_offset = 0;
  chunk_lookup_num_entry = 0;
  chunk_hash_hmac_key = record { word0 = 0; word1 = 0; word2 = 0; word3 = 0 };
  shard_creation_timestamp = 0;
  shard_key_expiry = 18446744073709551615;
  _buffer = 0 ∷ 0 ∷ 0 ∷ 0 ∷ 0 ∷ 0 ∷ [];
  stored_bytes_on_disk = 0;
  materialized_bytes = 0;
  stored_bytes = 0;
  footer_offset = 0;
}

-- a list, or the empty list if it is not in
abbrev pub if_included : {X : Type 0} → Bool → List X → List X
if_included is_in xs = if is_in then xs else []

-- the header of a version: the tag, the number of the version, and the 200 bytes of a footer as the
-- footer size
abbrev pub header_value : FormatVersion → MDBShardFileHeader
header_value version =
    record { tag = header_tag; version = number_of version; footer_size = 200 }

-- the footer: offsets are sums of lengths, counts those of the tables that are in, byte counts sums
-- over the records
abbrev pub footer_value : List MDBFileInfo → List MDBXorbInfo → LayoutOptions → MDBShardFileFooter
footer_value files xorbs options =
    let xorb_info = 48 + length (section_bytes file_records files) in
    let file_lookup = xorb_info + length (section_bytes xorb_records xorbs) in
    let xorb_lookup =
    file_lookup + length (if_included options.file_table (table_bytes file_records files)) in
    let chunk_lookup =
    xorb_lookup + length (if_included options.xorb_table (table_bytes xorb_records xorbs)) in
    record {
      version = 1;
      file_info_offset = 48;
      xorb_info_offset = xorb_info;
      file_lookup_offset = file_lookup;
      file_lookup_num_entry = length (if_included options.file_table (starts file_records files));
      xorb_lookup_offset = xorb_lookup;
      xorb_lookup_num_entry = length (if_included options.xorb_table (starts xorb_records xorbs));
      chunk_lookup_offset = chunk_lookup;
      chunk_lookup_num_entry = length (if_included options.chunk_table (chunk_table xorbs));
      chunk_hash_hmac_key = options.key;
      shard_creation_timestamp = options.creation;
      shard_key_expiry = options.expiry;
      _buffer = 0 ∷ 0 ∷ 0 ∷ 0 ∷ 0 ∷ 0 ∷ [];
      stored_bytes_on_disk = sum_by (λ (x : MDBXorbInfo). x.metadata.num_bytes_on_disk) xorbs;
      materialized_bytes = sum_by size_of_file files;
      stored_bytes = sum_by (λ (x : MDBXorbInfo). x.metadata.num_bytes_in_xorb) xorbs;
      footer_offset = chunk_lookup + length (if_included options.chunk_table (chunk_table_bytes xorbs));
    }

-- all the bytes of a list of files and a list of xorbs with layout options
unfoldable pub layout_of : List MDBFileInfo → List MDBXorbInfo → LayoutOptions → List ℕ
layout_of files xorbs options =
    (((((shard_header_bytes (header_value options.version) ++ section_bytes file_records files)
    ++ section_bytes xorb_records xorbs)
    ++ if_included options.file_table (table_bytes file_records files))
    ++ if_included options.xorb_table (table_bytes xorb_records xorbs))
    ++ if_included options.chunk_table (chunk_table_bytes xorbs))
    ++ shard_footer_bytes (footer_value files xorbs options)

-- what a reader of these bytes finds in header and footer
abbrev pub info_of : List MDBFileInfo → List MDBXorbInfo → LayoutOptions → MDBShardInfo
info_of files xorbs options =
    record { header = header_value options.version; metadata = footer_value files xorbs options }

-- version 3, all tables, no key, no creation, and an expiry or none
abbrev pub plain_options : Option ℕ → LayoutOptions
plain_options expiry = record {
  version = V3;
  file_table = true;
  xorb_table = true;
  chunk_table = true;
  key = record { word0 = 0; word1 = 0; word2 = 0; word3 = 0 };
  creation = 0;
  expiry = unwrap_or expiry 18446744073709551615;
}

-- the bytes of a shard, its records in ascending order of their hashes
abbrev pub layout : Shard → Option ℕ → List ℕ
layout s expiry = layout_of (values s.files) (values s.xorbs) (plain_options expiry)

-- what a reader of the bytes of a shard finds in header and footer
abbrev pub info_value : Shard → Option ℕ → MDBShardInfo
info_value s expiry = info_of (values s.files) (values s.xorbs) (plain_options expiry)

-- a version, all tables, no key, no creation, and an expiry or none
abbrev pub plain_options_in : FormatVersion → Option ℕ → LayoutOptions
plain_options_in version expiry = record (plain_options expiry) { version = version }

-- the bytes of a shard in a version, its records in ascending order of their hashes
abbrev pub layout_in : FormatVersion → Shard → Option ℕ → List ℕ
layout_in version s expiry =
    layout_of (values s.files) (values s.xorbs) (plain_options_in version expiry)

-- what a reader of the bytes of a shard in a version finds in header and footer
abbrev pub info_value_in : FormatVersion → Shard → Option ℕ → MDBShardInfo
info_value_in version s expiry =
    info_of (values s.files) (values s.xorbs) (plain_options_in version expiry)
