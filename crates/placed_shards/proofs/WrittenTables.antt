-- The bytes of a shard that is written with both tables have the tables of its records.
use Rattle.std.proofs.Common.{◌≡◌, ℕ, ◌+◌, ◌*◌, ◌≤◌, true, List, ◌++◌, length, drop, sym, ap, ◌∙◌, arith, append_assoc}
use Rattle.std.proofs.lemmas.List.{length-append}
use Rattle.xet_base.proofs.Lists.{front_is, rest_is}
use Rattle.xet_records.specs.declared.file_structs.MDBFileInfo.{MDBFileInfo}
use Rattle.xet_records.specs.declared.record_reader.FormatVersion.{FormatVersion}
use Rattle.xet_records.specs.declared.xorb_structs.MDBXorbInfo.{MDBXorbInfo}
use Rattle.xet_records.specs.FileRecord.{file_records}
use Rattle.xet_records.specs.XorbRecord.{xorb_records}
use Rattle.xet_shards.specs.declared.shard_format.ends.options.LayoutOptions.{LayoutOptions}
use Rattle.xet_shards.specs.Write.Layout.{footer_value, header_value, if_included, info_of, layout_of, shard_footer_bytes, shard_header_bytes}
use Rattle.xet_shards.specs.Write.Section.{section_bytes, total_rows}
use Rattle.xet_shards.specs.Write.Tables.{starts, table_bytes, chunk_table_bytes}
use Rattle.xet_shards.specs.Write.WithOptions.{FitsSection}
use Rattle.xet_shards.proofs.Write.Layouts.{length-file_section, length-shard_header_bytes, length-xorb_section}
use Rattle.xet_shards.proofs.Write.Written.{bytes_of_table}
use Rattle.placed_shards.specs.ByTables.{HasOwnTables}
use Rattle.placed_shards.specs.Content.{Content, content_layout, options_in}
use Rattle.placed_shards.specs.RangeRows.{file_table, xorb_table, last_file_row, last_xorb_row, last_row}

-- where a section ends
rows_between : (start end rows : ℕ) → end ≡ start + (48 * rows + 48) → rows ≤ 4294967295 → last_row start end ≡ rows
rows_between start end rows end_is few = omega (arith, end_is, few)

module _ (files : List MDBFileInfo) (xorbs : List MDBXorbInfo) (options : LayoutOptions) (files_fit : FitsSection file_records files) (xorbs_fit : FitsSection xorb_records xorbs)
    (with_files : options.file_table ≡ true) (with_xorbs : options.xorb_table ≡ true) where
  abbrev header : List ℕ
  header = shard_header_bytes (header_value options.version)

  abbrev first : List ℕ
  first = section_bytes file_records files

  abbrev second : List ℕ
  second = section_bytes xorb_records xorbs

  abbrev file_rows : List ℕ
  file_rows = if_included options.file_table (table_bytes file_records files)

  abbrev xorb_rows : List ℕ
  xorb_rows = if_included options.xorb_table (table_bytes xorb_records xorbs)

  abbrev end : List ℕ
  end = if_included options.chunk_table (chunk_table_bytes xorbs) ++ shard_footer_bytes (footer_value files xorbs options)

  abbrev bytes : List ℕ
  bytes = layout_of files xorbs options

  file_rows_behind : bytes ≡ ((header ++ first) ++ second) ++ (file_rows ++ (xorb_rows ++ end))
  unfolding layout_of
  file_rows_behind = simp append_assoc

  xorb_rows_behind : bytes ≡ (((header ++ first) ++ second) ++ file_rows) ++ (xorb_rows ++ end)
  xorb_rows_behind = file_rows_behind ∙ sym (append_assoc ((header ++ first) ++ second) file_rows (xorb_rows ++ end))

  size_before : length ((header ++ first) ++ second) ≡ 48 + length first + length second
  size_before = omega (arith, length-append (header ++ first) second, length-append header first, length-shard_header_bytes (header_value options.version))

  file_table_is : file_table bytes (info_of files xorbs options) ≡ table_bytes file_records files
  file_table_is =
      let count = length (if_included options.file_table (starts file_records files)) in
      let there = rest_is (48 + length first + length second) bytes ((header ++ first) ++ second) (file_rows ++ (xorb_rows ++ end)) size_before file_rows_behind in
      front_is (12 * count) (drop (48 + length first + length second) bytes) file_rows (xorb_rows ++ end) (bytes_of_table file_records options.file_table files) there
      ∙ ap (λ b. if_included b (table_bytes file_records files)) with_files

  xorb_table_is : xorb_table bytes (info_of files xorbs options) ≡ table_bytes xorb_records xorbs
  xorb_table_is =
      let count = length (if_included options.xorb_table (starts xorb_records xorbs)) in
      let at = 48 + length first + length second + length file_rows in
      let size : length (((header ++ first) ++ second) ++ file_rows) ≡ at = length-append ((header ++ first) ++ second) file_rows ∙ ap (λ n. n + length file_rows) size_before in
      let there = rest_is at bytes (((header ++ first) ++ second) ++ file_rows) (xorb_rows ++ end) size xorb_rows_behind in
      front_is (12 * count) (drop at bytes) xorb_rows end (bytes_of_table xorb_records options.xorb_table xorbs) there
      ∙ ap (λ b. if_included b (table_bytes xorb_records xorbs)) with_xorbs

  last_file_is : last_file_row (info_of files xorbs options) ≡ total_rows file_records files
  last_file_is = rows_between 48 (48 + length first) (total_rows file_records files) (ap (λ n. 48 + n) (length-file_section files (λ i r within. (files_fit.stored i r within).widths))) files_fit.rows

  last_xorb_is : last_xorb_row (info_of files xorbs options) ≡ total_rows xorb_records xorbs
  last_xorb_is = rows_between (48 + length first) (48 + length first + length second) (total_rows xorb_records xorbs) (ap (λ n. 48 + length first + n) (length-xorb_section xorbs)) xorbs_fit.rows

-- so it has its own tables in each version
pub written_tables : (version : FormatVersion) (c : Content) → FitsSection file_records c.files → FitsSection xorb_records c.xorbs → c.options.file_table ≡ true → c.options.xorb_table ≡ true
    → HasOwnTables (content_layout version c) (info_of c.files c.xorbs (options_in version c)) c
written_tables version c files_fit xorbs_fit with_files with_xorbs =
    let o = options_in version c in
    record {
      files = record { rows = file_table_is c.files c.xorbs o files_fit xorbs_fit with_files with_xorbs; last_is = last_file_is c.files c.xorbs o files_fit xorbs_fit with_files with_xorbs };
      xorbs = record { rows = xorb_table_is c.files c.xorbs o files_fit xorbs_fit with_files with_xorbs; last_is = last_xorb_is c.files c.xorbs o files_fit xorbs_fit with_files with_xorbs };
    }
