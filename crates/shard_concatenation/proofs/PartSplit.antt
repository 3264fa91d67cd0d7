-- The parts of the bytes of a layout with all tables.
use Rattle.std.proofs.Common.{◌≡◌, ℕ, ◌+◌, ◌-◌, ◌*◌, ◌%◌, List, ◌++◌, length, flat_map, drop, refl, sym, ap, ◌∙◌, subst, append_assoc, arith}
use Rattle.std.specs.Prelude.{All, slice_range}
use Rattle.std.proofs.Math.Nat.{mul-mod_right}
use Rattle.std.proofs.lemmas.List.{length-append}
use Rattle.xet_base.specs.declared.merklehash.DataHash.{DataHash}
use Rattle.xet_base.proofs.Lists.{front_is, rest_is}
use Rattle.xet_records.specs.declared.record_reader.FormatVersion.{FormatVersion}
use Rattle.xet_records.specs.declared.record_reader.FormatVersion.TheVariants.{V2, V3}
use Rattle.xet_records.specs.FileRecord.{FitsRecord, file_records, file_bookend}
use Rattle.xet_records.specs.Version.{number_of, version_of}
use Rattle.xet_records.specs.FileRow.{header_row}
use Rattle.xet_records.specs.XorbRecord.{xorb_records, xorb_bookend}
use Rattle.xet_records.specs.XorbRow.{xorb_header_row}
use Rattle.xet_records.proofs.Lengths.{length-header_row, length-xorb_header_row}
use Rattle.xet_shards.specs.declared.shard_format.ends.footer.MDBShardFileFooter.{MDBShardFileFooter}
use Rattle.xet_shards.specs.declared.shard_format.ends.info.MDBShardInfo.{MDBShardInfo}
use Rattle.shard_concatenation.specs.declared.part_split.SplitShard.{SplitShard}
use Rattle.xet_shards.specs.Ends.Ends.{HasHeaderAndFooter}
use Rattle.shard_concatenation.specs.Concatenation.{ShardPart, options_in, bytes_of_part, IsPartUnder}
use Rattle.shard_concatenation.specs.Steps.SectionsSteps.{HasRanges, IsSplit, IsSplitOf}
use Rattle.xet_shards.specs.declared.shard_format.ends.options.LayoutOptions.{LayoutOptions}
use Rattle.xet_shards.specs.Write.Layout.{footer_value, header_value, info_of, shard_header_bytes, shard_footer_bytes, layout_of}
use Rattle.xet_shards.specs.Write.Section.{total_rows, section_bytes}
use Rattle.xet_shards.specs.Write.Tables.{table_bytes, chunk_table_bytes}
use Rattle.xet_shards.proofs.Ends.EndsUnique.{only_info, ends_of_layout}
use Rattle.xet_shards.proofs.Write.Layouts.{length-shard_header_bytes, length-file_section, length-xorb_section}
use Rattle.xet_shards.proofs.Write.Sections.{fits_ever}
use Rattle.xet_shards.proofs.Write.Tables.{length-starts, length-table_bytes}

version_of-number : (version : FormatVersion) → version_of (number_of version) ≡ version
version_of-number V2 = refl
version_of-number V3 = refl

-- a part between two others
pub slice_range-middle : (xs front mid rest : List ℕ) (a b : ℕ) → xs ≡ front ++ (mid ++ rest) → length front ≡ a → a + length mid ≡ b → slice_range xs a b ≡ mid
slice_range-middle xs front mid rest a b are begins ends =
    front_is (b - a) (drop a xs) mid rest (omega (arith, ends)) (rest_is a xs front (mid ++ rest) begins are)

module _ (part : ShardPart) where
  abbrev options : LayoutOptions
  options = options_in part

  abbrev header : List ℕ
  header = shard_header_bytes (header_value part.version)

  abbrev file_section : List ℕ
  file_section = section_bytes file_records part.files

  abbrev xorb_section : List ℕ
  xorb_section = section_bytes xorb_records part.xorbs

  abbrev file_table : List ℕ
  file_table = table_bytes file_records part.files

  abbrev xorb_table : List ℕ
  xorb_table = table_bytes xorb_records part.xorbs

  abbrev chunk_table : List ℕ
  chunk_table = chunk_table_bytes part.xorbs

  abbrev footer : MDBShardFileFooter
  footer = footer_value part.files part.xorbs options

  abbrev end : List ℕ
  end = shard_footer_bytes footer

  at_files : bytes_of_part part ≡ header ++ (flat_map file_records.record_bytes part.files ++ (header_row file_bookend ++ (xorb_section ++ (file_table ++ (xorb_table ++ (chunk_table ++ end))))))
  unfolding layout_of section_bytes
  at_files = simp (append_assoc)

  at_xorbs : bytes_of_part part ≡ (header ++ file_section) ++ (flat_map xorb_records.record_bytes part.xorbs ++ (xorb_header_row xorb_bookend ++ (file_table ++ (xorb_table ++ (chunk_table ++ end)))))
  unfolding layout_of section_bytes
  at_xorbs = simp (append_assoc)

  at_file_table : bytes_of_part part ≡ ((header ++ file_section) ++ xorb_section) ++ (file_table ++ (xorb_table ++ (chunk_table ++ end)))
  unfolding layout_of
  at_file_table = simp (append_assoc)

  at_xorb_table : bytes_of_part part ≡ (((header ++ file_section) ++ xorb_section) ++ file_table) ++ (xorb_table ++ (chunk_table ++ end))
  unfolding layout_of
  at_xorb_table = simp (append_assoc)

  at_chunk_table : bytes_of_part part ≡ ((((header ++ file_section) ++ xorb_section) ++ file_table) ++ xorb_table) ++ (chunk_table ++ end)
  unfolding layout_of
  at_chunk_table = simp (append_assoc)

  head : length header ≡ 48
  head = length-shard_header_bytes (header_value part.version)

  length-files : length file_section ≡ length (flat_map file_records.record_bytes part.files) + 48
  unfolding section_bytes
  length-files = length-append (flat_map file_records.record_bytes part.files) (header_row file_bookend) ∙ ap (λ n. length (flat_map file_records.record_bytes part.files) + n) (length-header_row file_bookend)

  length-xorbs : length xorb_section ≡ length (flat_map xorb_records.record_bytes part.xorbs) + 48
  unfolding section_bytes
  length-xorbs = length-append (flat_map xorb_records.record_bytes part.xorbs) (xorb_header_row xorb_bookend) ∙ ap (λ n. length (flat_map xorb_records.record_bytes part.xorbs) + n) (length-xorb_header_row xorb_bookend)

  one : length (header ++ file_section) ≡ footer.xorb_info_offset
  one = length-append header file_section ∙ ap (λ n. n + length file_section) head

  two : length ((header ++ file_section) ++ xorb_section) ≡ footer.file_lookup_offset
  two = length-append (header ++ file_section) xorb_section ∙ ap (λ n. n + length xorb_section) one

  three : length (((header ++ file_section) ++ xorb_section) ++ file_table) ≡ footer.xorb_lookup_offset
  three = length-append ((header ++ file_section) ++ xorb_section) file_table ∙ ap (λ n. n + length file_table) two

  four : length ((((header ++ file_section) ++ xorb_section) ++ file_table) ++ xorb_table) ≡ footer.chunk_lookup_offset
  four = length-append (((header ++ file_section) ++ xorb_section) ++ file_table) xorb_table ∙ ap (λ n. n + length xorb_table) three

  split_of_layout : (split : SplitShard) → split.version ≡ part.version → IsSplit (bytes_of_part part) footer split → IsSplitOf part split
  split_of_layout split version is = record {
    version_is = version;
    files = is.files ∙ slice_range-middle (bytes_of_part part) header (flat_map file_records.record_bytes part.files) _ 48 (footer.xorb_info_offset - 48) at_files head (omega (arith, length-files));
    xorbs = is.xorbs ∙ slice_range-middle (bytes_of_part part) (header ++ file_section) (flat_map xorb_records.record_bytes part.xorbs) _ footer.xorb_info_offset (footer.file_lookup_offset - 48) at_xorbs one (omega (arith, length-xorbs));
    file_table = is.file_table ∙ slice_range-middle (bytes_of_part part) ((header ++ file_section) ++ xorb_section) file_table _ footer.file_lookup_offset footer.xorb_lookup_offset at_file_table two refl;
    xorb_table = is.xorb_table ∙ slice_range-middle (bytes_of_part part) (((header ++ file_section) ++ xorb_section) ++ file_table) xorb_table _ footer.xorb_lookup_offset footer.chunk_lookup_offset at_xorb_table three refl;
    chunk_table = is.chunk_table ∙ slice_range-middle (bytes_of_part part) ((((header ++ file_section) ++ xorb_section) ++ file_table) ++ xorb_table) chunk_table end footer.chunk_lookup_offset footer.footer_offset at_chunk_table four refl;
    footer_is = is.footer_is;
  }

  -- the offsets of its footer are in order
  ranges_of_layout : All FitsRecord part.files → HasRanges (length (bytes_of_part part)) footer
  ranges_of_layout fit = record {
    files = omega (arith, one, length-append header file_section, head, length-files);
    xorbs = omega (arith, two, length-append (header ++ file_section) xorb_section, one, length-xorbs);
    file_rows =
        let rows : footer.xorb_info_offset ≡ 48 * (total_rows file_records part.files + 2) = omega (arith, length-file_section part.files fit) in
        ap (λ n. n % 48) rows ∙ mul-mod_right 48 (total_rows file_records part.files + 2);
    xorb_rows =
        let rows : footer.file_lookup_offset ≡ 48 * (total_rows file_records part.files + total_rows xorb_records part.xorbs + 3) =
        omega (arith, length-file_section part.files fit, length-xorb_section part.xorbs) in
        ap (λ n. n % 48) rows ∙ mul-mod_right 48 (total_rows file_records part.files + total_rows xorb_records part.xorbs + 3);
    file_table = omega (arith, length-table_bytes file_records part.files, length-starts file_records part.files);
    xorb_table = omega (arith, length-table_bytes xorb_records part.xorbs, length-starts xorb_records part.xorbs);
    chunk_table = omega arith;
    end = omega (arith, ap length at_chunk_table, length-append ((((header ++ file_section) ++ xorb_section) ++ file_table) ++ xorb_table) (chunk_table ++ end), length-append chunk_table end, four);
  }

-- the bytes of a part have its header and footer
pub ends_of_part : (key : DataHash) (part : ShardPart) (bytes : List ℕ) → IsPartUnder key part → bytes ≡ bytes_of_part part → HasHeaderAndFooter bytes (info_of part.files part.xorbs (options_in part))
ends_of_part key part bytes fits are =
    subst (λ bs. HasHeaderAndFooter bs (info_of part.files part.xorbs (options_in part))) (sym are) (ends_of_layout part.files part.xorbs (options_in part) fits.widths)

pub ranges_of_part : (key : DataHash) (part : ShardPart) (bytes : List ℕ) (info : MDBShardInfo) → IsPartUnder key part → bytes ≡ bytes_of_part part → HasHeaderAndFooter bytes info → HasRanges (length bytes) info.metadata
ranges_of_part key part bytes info fits are ends =
    let same = only_info bytes info (info_of part.files part.xorbs (options_in part)) ends (ends_of_part key part bytes fits are) in
    let widths : All FitsRecord part.files = λ k r below. ((fits_ever file_records part.version part.files fits.files_fit).stored k r below).widths in
    subst (λ bs. HasRanges (length bs) info.metadata) (sym are) (subst (λ (i : MDBShardInfo). HasRanges (length (bytes_of_part part)) i.metadata) (sym same) (ranges_of_layout part widths))

-- the pieces of a part's bytes are its sections, tables and footer
pub split_of_part : (key : DataHash) (part : ShardPart) (bytes : List ℕ) (info : MDBShardInfo) (split : SplitShard) → IsPartUnder key part → bytes ≡ bytes_of_part part → HasHeaderAndFooter bytes info
    → IsSplit bytes info.metadata split → split.version ≡ version_of info.header.version → IsSplitOf part split
split_of_part key part bytes info split fits are ends is version =
    let other = subst (λ bs. HasHeaderAndFooter bs (record { header = header_value part.version; metadata = footer_value part.files part.xorbs (options_in part) })) (sym are) (ends_of_layout part.files part.xorbs (options_in part) fits.widths) in
    let same = only_info bytes info (record { header = header_value part.version; metadata = footer_value part.files part.xorbs (options_in part) }) ends other in
    split_of_layout part split (version ∙ ap (λ (i : MDBShardInfo). version_of i.header.version) same ∙ version_of-number part.version) (subst (λ bs. IsSplit bs (footer_value part.files part.xorbs (options_in part)) split) are (subst (λ (i : MDBShardInfo). IsSplit bytes i.metadata split) same is))
