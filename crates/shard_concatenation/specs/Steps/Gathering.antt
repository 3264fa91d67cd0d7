-- Steps towards gathering the parts of shards, which only contracts inside the crate speak of.
use Rattle.std.specs.Prelude.{◌≡◌, ◌+◌, ◌*◌, ◌/◌, ◌<◌, ◌^◌, List, map, flat_map, length, sum_by, All}
use Rattle.std.specs.List.Sorted.{IsPermutation}
use Rattle.xet_records.specs.declared.file_structs.MDBFileInfo.{MDBFileInfo}
use Rattle.xet_records.specs.declared.xorb_structs.MDBXorbInfo.{MDBXorbInfo}
use Rattle.xet_records.specs.FileRecord.{file_records, size_of_file}
use Rattle.xet_records.specs.XorbRecord.{xorb_records}
use Rattle.xet_shards.specs.declared.shard_format.ends.footer.MDBShardFileFooter.{MDBShardFileFooter}
use Rattle.shard_concatenation.specs.declared.chunk_merging.Cursor.{Cursor}
use Rattle.shard_concatenation.specs.declared.gathering.Totals.{Totals}
use Rattle.shard_concatenation.specs.declared.part_split.SplitShard.{SplitShard}
use Rattle.shard_concatenation.specs.declared.section_parts.SectionPart.{SectionPart}
use Rattle.shard_concatenation.specs.Concatenation.{ShardPart, files_in, xorbs_in}
use Rattle.shard_concatenation.specs.Steps.SectionsSteps.{HoldSections}
use Rattle.shard_concatenation.specs.Steps.ChunkMerging.{HoldsRows, rows_held}
use Rattle.xet_shards.specs.Write.Section.{total_rows}
use Rattle.xet_shards.specs.declared.shard_format.write.xorb_writer.ChunkTableRow.{ChunkTableRow}
use Rattle.xet_shards.specs.Write.Tables.{chunk_table_rows}

-- the new sums are the old ones and the numbers of one part more
pub record AddsPart (old : Totals) (split : SplitShard) (new : Totals) : Type 0 where
  pub files : new.files ≡ old.files + split.footer.file_lookup_num_entry
  pub file_rows : new.file_rows ≡ old.file_rows + length split.files.now / 48
  pub xorbs : new.xorbs ≡ old.xorbs + split.footer.xorb_lookup_num_entry
  pub xorb_rows : new.xorb_rows ≡ old.xorb_rows + length split.xorbs.now / 48
  pub materialized_bytes : new.materialized_bytes ≡ old.materialized_bytes + split.footer.materialized_bytes
  pub stored_bytes : new.stored_bytes ≡ old.stored_bytes + split.footer.stored_bytes
  pub stored_bytes_on_disk : new.stored_bytes_on_disk ≡ old.stored_bytes_on_disk + split.footer.stored_bytes_on_disk

-- the sums with one part more fit their widths
pub record FitWith (totals : Totals) (split : SplitShard) : Type 0 where
  pub files : totals.files + split.footer.file_lookup_num_entry < 2 ^ 32
  pub file_rows : totals.file_rows + length split.files.now / 48 < 2 ^ 32
  pub xorbs : totals.xorbs + split.footer.xorb_lookup_num_entry < 2 ^ 32
  pub xorb_rows : totals.xorb_rows + length split.xorbs.now / 48 < 2 ^ 32
  pub materialized_bytes : totals.materialized_bytes + split.footer.materialized_bytes < 2 ^ 64
  pub stored_bytes : totals.stored_bytes + split.footer.stored_bytes < 2 ^ 64
  pub stored_bytes_on_disk : totals.stored_bytes_on_disk + split.footer.stored_bytes_on_disk < 2 ^ 64

-- the sums are the numbers of these records and of their rows, and their sizes in bytes
pub record HasTotals (totals : Totals) (files : List MDBFileInfo) (xorbs : List MDBXorbInfo) : Type 0 where
  pub files_are : totals.files ≡ length files
  pub file_rows : totals.file_rows ≡ total_rows file_records files
  pub xorbs_are : totals.xorbs ≡ length xorbs
  pub xorb_rows : totals.xorb_rows ≡ total_rows xorb_records xorbs
  pub materialized_bytes : totals.materialized_bytes ≡ sum_by size_of_file files
  pub stored_bytes : totals.stored_bytes ≡ sum_by (λ (x : MDBXorbInfo). x.metadata.num_bytes_in_xorb) xorbs
  pub stored_bytes_on_disk : totals.stored_bytes_on_disk ≡ sum_by (λ (x : MDBXorbInfo). x.metadata.num_bytes_on_disk) xorbs

-- sections have as many bytes of rows as the sums count, 48 a row, and so have their tables, 12 a record
pub record HasSizes (files xorbs : List SectionPart) (totals : Totals) : Type 0 where
  pub file_rows : sum_by (λ s. length s.rows.now) files ≡ 48 * totals.file_rows
  pub xorb_rows : sum_by (λ s. length s.rows.now) xorbs ≡ 48 * totals.xorb_rows
  pub file_table : sum_by (λ s. length s.table.now) files ≡ 12 * totals.files
  pub xorb_table : sum_by (λ s. length s.table.now) xorbs ≡ 12 * totals.xorbs

-- the cursors have before them, in some order, the rows of the chunk table of these xorbs
pub record HoldTables (cursors : List Cursor) (xorbs : List MDBXorbInfo) : Type 0 where
  pub held : List (Cursor × List ChunkTableRow)
  pub cursors_are : map (λ h. h.0) held ≡ cursors
  pub hold : All HoldsRows held
  pub moved : IsPermutation (chunk_table_rows xorbs) (flat_map rows_held held)

-- sections, cursors and sums are those of these parts
pub record HasGathered (files xorbs : List SectionPart) (cursors : List Cursor) (totals : Totals) (parts : List ShardPart) : Type 0 where
  pub files_held : HoldSections file_records files (map (λ part. part.files) parts)
  pub xorbs_held : HoldSections xorb_records xorbs (map (λ part. part.xorbs) parts)
  pub tables_held : HoldTables cursors (xorbs_in parts)
  pub totals_are : HasTotals totals (files_in parts) (xorbs_in parts)

-- a footer is at the end of these sections, their tables and a chunk table with as many rows as it counts
pub record IsFooterOf (totals : Totals) (footer : MDBShardFileFooter) : Type 0 where
  pub chunks : footer.chunk_lookup_num_entry + totals.xorbs ≡ totals.xorb_rows
  pub offset : footer.footer_offset ≡ 144 + 48 * totals.file_rows + 48 * totals.xorb_rows + 12 * totals.files + 12 * totals.xorbs + 16 * footer.chunk_lookup_num_entry
  pub buffer : length footer._buffer ≡ 6
  pub small : footer.footer_offset < 2 ^ 40
