-- Files and xorbs that are written with layout options.
use Rattle.std.specs.Prelude.{◌≡◌, ℕ, ◌≤◌, List, map, All, true}
use Rattle.std.specs.List.Sorted.{IsStrictlySortedBy}
use Rattle.xet_base.specs.Hash.{hash_cmp}
use Rattle.xet_records.specs.declared.file_structs.MDBFileInfo.{MDBFileInfo}
use Rattle.xet_records.specs.declared.xorb_structs.MDBXorbInfo.{MDBXorbInfo}
use Rattle.xet_records.specs.RecordKind.{RecordKind}
use Rattle.xet_records.specs.FileRecord.{file_records, file_records_in}
use Rattle.xet_records.specs.Version.{version_of}
use Rattle.xet_records.specs.XorbRecord.{xorb_records}
use Rattle.xet_shards.specs.declared.shard_format.ends.footer.MDBShardFileFooter.{MDBShardFileFooter}
use Rattle.xet_shards.specs.declared.shard_format.ends.info.MDBShardInfo.{MDBShardInfo}
use Rattle.xet_shards.specs.Write.Section.{total_rows}
use Rattle.xet_shards.specs.Write.Tables.{hash_in}
use Rattle.xet_shards.specs.Write.Layout.{LayoutOptions, footer_value, layout_of}
use Rattle.xet_records.specs.Limits.{MAX_ROWS}

-- stored records, whose rows fit `u32`
pub record FitsSection {H R : Type 0} (K : RecordKind H R) (records : List R) : Type 0 where
  pub stored : All K.IsStored records
  pub rows : total_rows K records ≤ MAX_ROWS

-- the hashes of records strictly ascend
abbrev pub Ascends : {H R : Type 0} → RecordKind H R → List R → Type 0
Ascends K records = IsStrictlySortedBy hash_cmp (map (hash_in K) records)

-- the bytes are those of such files and xorbs with layout options, and the footer is theirs
pub record IsBytesWithOptions (files : List MDBFileInfo) (xorbs : List MDBXorbInfo) (options : LayoutOptions)
    (bytes : List ℕ) (footer : MDBShardFileFooter) : Type 0 where
  pub files_fit : FitsSection (file_records_in options.version) files
  pub xorbs_fit : FitsSection xorb_records xorbs
  pub bytes_are : bytes ≡ layout_of files xorbs options
  pub footer_is : footer ≡ footer_value files xorbs options

-- the bytes are those of files and xorbs with layout options that include the file table, and the
-- footer is theirs; the hashes of the files strictly ascend, and the header has the options'
-- version
pub record IsBytesWithFileTable (files : List MDBFileInfo) (xorbs : List MDBXorbInfo) (options : LayoutOptions)
    (bytes : List ℕ) (info : MDBShardInfo) : Type 0 where
  pub with_options : IsBytesWithOptions files xorbs options bytes info.metadata
  pub version : version_of info.header.version ≡ options.version
  pub ascends : Ascends file_records files
  pub table : options.file_table ≡ true
