-- The numbers of a shard's footer are within 64 bits.
use Rattle.std.proofs.Common.{Bool, List, ℕ, ◌+◌, ◌^◌, ◌<◌, ◌≤◌, length, Option, refl, arith}
use Rattle.std.specs.Prelude.{All, IfSome, unwrap_or}
use Rattle.std.specs.FinMap.{values}
use Rattle.std.proofs.lemmas.List.Elements.{All-from_recursion}
use Rattle.xet_base.specs.Hash.{IsHash}
use Rattle.xet_records.specs.declared.file_structs.MDBFileInfo.{MDBFileInfo}
use Rattle.xet_records.specs.declared.xorb_structs.MDBXorbInfo.{MDBXorbInfo}
use Rattle.xet_records.specs.XorbRecord.{xorb_records, IsStoredXorb}
use Rattle.xet_records.specs.FileRecord.{file_records, FitsRecord}
use Rattle.xet_shards.specs.Content.Shard.{Shard, IsShard}
use Rattle.xet_shards.specs.Write.Tables.{starts, chunk_table, table_bytes, chunk_table_bytes}
use Rattle.xet_shards.specs.Write.Layout.{LayoutOptions, if_included, footer_value, plain_options, info_value, offsets_of, timestamps_of, sums_of}
use Rattle.xet_shards.specs.Ends.Ends.{FitsFooter}
use Rattle.xet_shards.proofs.ShardInMemory.Files.{files_bound, length-le-rows}
use Rattle.xet_shards.proofs.Write.Layouts.{length-file_section, length-xorb_section}
use Rattle.xet_shards.proofs.Write.Sections.{FitsSection, files_fit, xorbs_fit}
use Rattle.xet_shards.proofs.Write.Tables.{length-starts, length-table_bytes}
use Rattle.xet_shards.proofs.ShardInMemory.Xorbs.{xorbs_bound}
use Rattle.xet_shards.proofs.Write.XorbLayouts.{length-chunk_table, length-chunk_table_bytes, xorb_rows-chunks}

-- a table that is in, or none
in_at_most : {X : Type 0} (b : Bool) (xs : List X) → length (if_included b xs) ≤ length xs
in_at_most b xs = grind arith

-- those of any records that fit their sections, with any layout options
pub fits_with_options : (files : List MDBFileInfo) (xorbs : List MDBXorbInfo) (options : LayoutOptions) → FitsSection file_records files → FitsSection xorb_records xorbs → IsHash options.key
    → options.creation < 2 ^ 64 → options.expiry < 2 ^ 64 → FitsFooter (footer_value files xorbs options)
fits_with_options files xorbs options files_in xorbs_in key creation expiry =
    let f = footer_value files xorbs options in
    let widths : All FitsRecord files = λ k r below. (files_in.stored k r below).widths in
    let few_files : length files ≤ 4294967295 = omega (arith, length-le-rows files, files_in.rows) in
    let chunks : length (chunk_table xorbs) + length xorbs ≤ 4294967295 = omega (arith, xorbs_in.rows, length-chunk_table xorbs, xorb_rows-chunks xorbs) in
    let xorb_info : f.xorb_info_offset ≤ 2 ^ 40 = omega (arith, length-file_section files widths, files_in.rows) in
    let file_lookup : f.file_lookup_offset ≤ 2 ^ 41 = omega (arith, xorb_info, length-xorb_section xorbs, xorbs_in.rows) in
    let xorb_lookup : f.xorb_lookup_offset ≤ 2 ^ 42 = omega (arith, file_lookup, in_at_most options.file_table (table_bytes file_records files), length-table_bytes file_records files, few_files) in
    let chunk_lookup : f.chunk_lookup_offset ≤ 2 ^ 43 = omega (arith, xorb_lookup, in_at_most options.xorb_table (table_bytes xorb_records xorbs), length-table_bytes xorb_records xorbs, chunks) in
    let footer : f.footer_offset ≤ 2 ^ 44 = omega (arith, chunk_lookup, in_at_most options.chunk_table (chunk_table_bytes xorbs), length-chunk_table_bytes xorbs, length-chunk_table xorbs, chunks) in
    let file_count : f.file_lookup_num_entry < 2 ^ 64 = omega (arith, in_at_most options.file_table (starts file_records files), length-starts file_records files, few_files) in
    let xorb_count : f.xorb_lookup_num_entry < 2 ^ 64 = omega (arith, in_at_most options.xorb_table (starts xorb_records xorbs), length-starts xorb_records xorbs, chunks) in
    let chunk_count : f.chunk_lookup_num_entry < 2 ^ 64 = omega (arith, in_at_most options.chunk_table (chunk_table xorbs), chunks) in
    let Fits : ℕ → Type 0 = λ n. n < 2 ^ 64 in
    record {
      offsets = All-from_recursion Fits (offsets_of f) (omega arith, (omega arith, (omega (arith, xorb_info), (omega (arith, file_lookup), (file_count, (omega (arith, xorb_lookup), (xorb_count, (omega (arith, chunk_lookup), (chunk_count, tt)))))))));
      key = key;
      timestamps = All-from_recursion Fits (timestamps_of f) (creation, (expiry, tt));
      buffer_size = refl;
      buffer = All-from_recursion Fits f._buffer (omega arith, (omega arith, (omega arith, (omega arith, (omega arith, (omega arith, tt))))));
      sums = All-from_recursion Fits (sums_of f) (omega (arith, xorbs_in.rows, xorbs_bound IsStoredXorb (λ x. x.metadata.num_bytes_on_disk) (λ r is. omega (arith, is.widths.metadata.num_bytes_on_disk)) xorbs xorbs_in.stored), (omega (arith, files_in.rows, files_bound files widths), (omega (arith, xorbs_in.rows, xorbs_bound IsStoredXorb (λ x. x.metadata.num_bytes_in_xorb) (λ r is. omega (arith, is.widths.metadata.num_bytes_in_xorb)) xorbs xorbs_in.stored), (omega (arith, footer), tt))));
    }

expiry_fits : (expiry : Option ℕ) → IfSome expiry (λ e. e < 2 ^ 64) → unwrap_or expiry 18446744073709551615 < 2 ^ 64
expiry_fits expiry fits = grind arith

pub fits_written : (s : Shard) (expiry : Option ℕ) → IsShard s → IfSome expiry (λ e. e < 2 ^ 64) → FitsFooter (info_value s expiry).metadata
fits_written s expiry shard fits =
    fits_with_options (values s.files) (values s.xorbs) (plain_options expiry) (files_fit s shard) (xorbs_fit s shard)
    (record { word0 = omega arith; word1 = omega arith; word2 = omega arith; word3 = omega arith }) (omega arith) (expiry_fits expiry fits)
