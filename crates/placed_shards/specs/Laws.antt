-- What laws of shards speak of.
use Rattle.std.specs.Prelude.{◌≡◌, ◌≤◌, ◌&&◌, length, map, nat_lt}
use Rattle.xet_base.specs.declared.merklehash.DataHash.{DataHash}
use Rattle.xet_records.specs.declared.record_reader.FormatVersion.{FormatVersion}
use Rattle.xet_records.specs.FileRecord.{file_records, as_read}
use Rattle.xet_records.specs.Limits.{MAX_ROWS}
use Rattle.xet_records.specs.Merging.{IncludesBits}
use Rattle.xet_records.specs.XorbRecord.{xorb_records}
use Rattle.xet_shards.specs.declared.shard_format.ends.options.LayoutOptions.{LayoutOptions}
use Rattle.xet_shards.specs.Export.KeyedExport.{keyed_xorbs}
use Rattle.xet_shards.specs.Write.Section.{total_rows}
use Rattle.xet_shards.specs.Write.Tables.{chunk_table}
use Rattle.xet_shards.specs.Write.WithOptions.{FitsSection}
use Rattle.xet_core_structures.specs.Records.RecordPairs.{with_hash}
use Rattle.xet_core_structures.specs.Trees.ExportTrees.{FitsOptions}
use Rattle.placed_shards.specs.Agreement.{AgreeIfBoth}
use Rattle.placed_shards.specs.Content.{Content, AscendBoth, HasFilesIn, options_in}
use Rattle.placed_shards.specs.Findings.{HasFormedRecords}

-- the records of a shard, with the chunk hashes of its xorbs under a key
abbrev pub with_keyed_hashes : DataHash → Content → Content
with_keyed_hashes key c = record c { xorbs = keyed_xorbs key c.xorbs }

-- a well-formed shard: hashes ascend, all records are such as a shard may have, and the rows of each
-- section fit
pub record IsWellFormedShard (c : Content) : Type 0 where
  pub ascend : AscendBoth c
  pub formed : HasFormedRecords c
  pub file_rows : total_rows file_records c.files ≤ MAX_ROWS
  pub xorb_rows : total_rows xorb_records c.xorbs ≤ MAX_ROWS

-- of two files with one hash the first shard's has each flag that the second's has
abbrev pub HasFlagsOf : Content → Content → Type 0
HasFlagsOf c d =
    (q : DataHash)
    → AgreeIfBoth (λ r s. IncludesBits r.metadata.file_flags s.metadata.file_flags)
    (with_hash file_records c.files q) (with_hash file_records d.files q)

-- a shard that can be written in a version and opened again: its records may be stored, hashes
-- ascend, rows and options fit, and the version has all its files
pub record IsWritable (version : FormatVersion) (c : Content) : Type 0 where
  pub files_fit : FitsSection file_records c.files
  pub xorbs_fit : FitsSection xorb_records c.xorbs
  pub ascend : AscendBoth c
  pub has_files : HasFilesIn version c
  pub options_fit : FitsOptions c.options

-- the options that the bytes of a shard in a version name: a table is in only if it has a row
abbrev pub options_named : FormatVersion → Content → LayoutOptions
options_named version c =
    record (options_in version c) {
      file_table = c.options.file_table && nat_lt 0 (length c.files);
      xorb_table = c.options.xorb_table && nat_lt 0 (length c.xorbs);
      chunk_table = c.options.chunk_table && nat_lt 0 (length (chunk_table c.xorbs));
    }

-- what is opened of the bytes of a shard in a version: its files as reading returns them, its
-- xorbs, and the options that the bytes name
abbrev pub opened_again : FormatVersion → Content → Content
opened_again version c =
    record {
      files = map as_read c.files;
      xorbs = c.xorbs;
      options = options_named version c;
    }

-- files are as reading returns them
abbrev pub AreAsRead : Content → Type 0
AreAsRead c = map as_read c.files ≡ c.files
