-- What a shard that is not written yet will be written as.
use Rattle.std.specs.Prelude.{◌≡◌, ⊤, ℕ, false, List}
use Rattle.std.specs.List.{list_any}
use Rattle.xet_records.specs.declared.file_structs.MDBFileInfo.{MDBFileInfo}
use Rattle.xet_records.specs.declared.xorb_structs.MDBXorbInfo.{MDBXorbInfo}
use Rattle.xet_records.specs.declared.record_reader.FormatVersion.{FormatVersion}
use Rattle.xet_records.specs.declared.record_reader.FormatVersion.TheVariants.{V2, V3}
use Rattle.xet_records.specs.FileRecord.{file_records, has_aux_ext}
use Rattle.xet_records.specs.XorbRecord.{xorb_records}
use Rattle.xet_shards.specs.declared.shard_format.ends.options.LayoutOptions.{LayoutOptions}
use Rattle.xet_shards.specs.Write.Layout.{layout_of}
use Rattle.xet_shards.specs.Write.WithOptions.{Ascends}
use Rattle.xet_core_structures.specs.TwoShards.ByteResults.{keyed_options}
use Rattle.placed_shards.specs.declared.placed_shard.PlacedShard.{PlacedShard}
use Rattle.placed_shards.specs.declared.range.HashRange.{HashRange}
use Rattle.placed_shards.specs.Ranges.{is_within, records_passing}
use Rattle.placed_shards.specs.StoredFiles.{files_as}

-- the records of a shard, as they will be written, and the options of its layout
pub record Content : Type 0 where
  pub files : List MDBFileInfo
  pub xorbs : List MDBXorbInfo
  pub options : LayoutOptions

-- what a shard that is not written yet will be written as
abbrev pub content : PlacedShard → Content
content s = record {
  files = files_as s.as_read s.files.items;
  xorbs = s.xorbs.items;
  options = s.options;
}

-- hashes of files, and those of xorbs, strictly ascend
pub record AscendBoth (c : Content) : Type 0 where
  pub files : Ascends file_records c.files
  pub xorbs : Ascends xorb_records c.xorbs

-- the options of a layout in a version
abbrev pub options_in : FormatVersion → Content → LayoutOptions
options_in version c = record c.options { version = version }

-- the bytes of a shard in a version
abbrev pub content_layout : FormatVersion → Content → List ℕ
content_layout version c = layout_of c.files c.xorbs (options_in version c)

-- a version has all files of a shard: version 2 has none with an auxiliary row
abbrev pub HasFilesIn : FormatVersion → Content → Type 0
HasFilesIn V2 c = list_any (λ r. has_aux_ext r.metadata.file_flags) c.files ≡ false
HasFilesIn V3 c = ⊤

-- the records of a shard whose hashes are in a range
abbrev pub content_within : HashRange → Content → Content
content_within range c =
    record c {
      files = records_passing file_records (is_within range) c.files;
      xorbs = records_passing xorb_records (is_within range) c.xorbs;
    }

-- the records of a shard, with all tables, its key, creation 0 and no expiry
abbrev pub with_all_tables : Content → Content
with_all_tables c = record c { options = keyed_options c.options.key }
