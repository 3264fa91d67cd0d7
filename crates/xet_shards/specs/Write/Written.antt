-- What is gathered while a section is written, and what is written after the sections.
use Rattle.std.specs.Prelude.{◌≡◌, Bool, true, ℕ, ◌+◌, List, ◌++◌, length, sum_by}
use Rattle.xet_records.specs.declared.file_structs.MDBFileInfo.{MDBFileInfo}
use Rattle.xet_records.specs.declared.xorb_structs.MDBXorbInfo.{MDBXorbInfo}
use Rattle.xet_records.specs.RecordKind.{RecordKind}
use Rattle.xet_records.specs.FileRecord.{file_records, row_count, size_of_file}
use Rattle.xet_records.specs.XorbRecord.{xorb_records}
use Rattle.xet_shards.specs.declared.shard_format.write.written.RecordTable.{RecordTable}
use Rattle.xet_shards.specs.declared.shard_format.write.written.WrittenFiles.{WrittenFiles}
use Rattle.xet_shards.specs.declared.shard_format.write.written.WrittenXorbs.{WrittenXorbs}
use Rattle.xet_shards.specs.Content.Shard.{file_hash_of}
use Rattle.xet_shards.specs.Write.Section.{total_rows}
use Rattle.xet_shards.specs.Write.Tables.{start_row, table_bytes, chunk_table_rows, chunk_table_bytes}
use Rattle.xet_shards.specs.Write.Layout.{LayoutOptions, if_included, footer_value, shard_footer_bytes}

-- the second table is the first with the row of one more record, which has this word and so many
-- rows
pub record AddsRecord (before after : RecordTable) (word more : ℕ) : Type 0 where
  pub records : after.records ≡ before.records + 1
  pub rows : after.rows ≡ before.rows + more
  pub bytes : after.bytes.items ≡ before.bytes.items ++ start_row (word, before.rows)

-- the number, the rows and the table of these records
pub record IsTableOf {H R : Type 0} (K : RecordKind H R) (table : RecordTable) (stored : List R)
    : Type 0 where
  pub records : table.records ≡ length stored
  pub rows : table.rows ≡ total_rows K stored
  pub bytes : table.bytes.items ≡ table_bytes K stored

-- a file with this first word of its hash, so many rows and so many bytes
pub record IsFileOf (first total size : ℕ) (file : MDBFileInfo) : Type 0 where
  pub word : (file_hash_of file).word0 ≡ first
  pub rows : row_count file ≡ total
  pub bytes : size_of_file file ≡ size

-- the table and the bytes of these files
pub record HasWritten (w : WrittenFiles) (files : List MDBFileInfo) : Type 0 where
  pub table : IsTableOf file_records w.table files
  pub bytes : w.materialized_bytes ≡ sum_by size_of_file files

-- the table and the bytes of these xorbs; and the rows of the chunk table, in section order, if it
-- is to be written
pub record HasWrittenFor (chunk_table : Bool) (w : WrittenXorbs) (xorbs : List MDBXorbInfo)
    : Type 0 where
  pub table : IsTableOf xorb_records w.table xorbs
  pub chunk_rows : chunk_table ≡ true → w.chunk_rows.items ≡ chunk_table_rows xorbs
  pub bytes : w.stored_bytes ≡ sum_by (λ x. x.metadata.num_bytes_in_xorb) xorbs
  pub bytes_on_disk : w.stored_bytes_on_disk ≡ sum_by (λ x. x.metadata.num_bytes_on_disk) xorbs

-- the table, the bytes and the rows of the chunk table of these xorbs
abbrev pub HasWrittenXorbs : WrittenXorbs → List MDBXorbInfo → Type 0
HasWrittenXorbs w xorbs = HasWrittenFor true w xorbs

-- the bytes of a layout after its sections: the tables that are in, and the footer
abbrev pub end_of_layout : List MDBFileInfo → List MDBXorbInfo → LayoutOptions → List ℕ
end_of_layout files xorbs options =
    ((if_included options.file_table (table_bytes file_records files)
    ++ if_included options.xorb_table (table_bytes xorb_records xorbs))
    ++ if_included options.chunk_table (chunk_table_bytes xorbs))
    ++ shard_footer_bytes (footer_value files xorbs options)
