-- Of intact bytes no finding but a note is true, and of whole bytes none at all.
use Rattle.std.proofs.Common.{◌≡◌, Bool, true, false, ℕ, ◌+◌, ◌-◌, ◌≤◌, List, [], ◌∷◌, ◌++◌, length, map, flat_map, take, drop, refl, sym, ap, ◌∙◌, subst, append_assoc, arith}
use Rattle.std.specs.Prelude.{All}
use Rattle.std.specs.FinMap.{FinMap, entries, values}
use Rattle.std.specs.List.{slice_range}
use Rattle.std.proofs.lemmas.List.{length-append, length-map, get_or-map, map-id, take-take}
use Rattle.std.proofs.lemmas.List.Elements.{All-weaker, All-contains}
use Rattle.xet_base.proofs.Lists.{rest_is}
use Rattle.xet_records.specs.FileRow.{header_row}
use Rattle.xet_records.specs.XorbRow.{xorb_header_row}
use Rattle.xet_records.proofs.RecordKinds.{xorb_laws, version_known}
use Rattle.xet_core_structures.specs.declared.file_structs.MDBFileInfo.{MDBFileInfo}
use Rattle.xet_core_structures.specs.declared.xorb_structs.MDBXorbInfo.{MDBXorbInfo}
use Rattle.xet_core_structures.specs.declared.shard_format.MDBShardFileFooter.{MDBShardFileFooter}
use Rattle.xet_core_structures.specs.declared.shard_format.MDBShardInfo.{MDBShardInfo}
use Rattle.xet_core_structures.specs.Ends.{HasHeaderAndFooter, last_bytes}
use Rattle.xet_core_structures.specs.FileRecord.{IsWellFormed, file_records, file_records_in, file_record_bytes, file_bookend}
use Rattle.xet_core_structures.specs.WithOptions.{FitsSection}
use Rattle.xet_core_structures.specs.KeyedExport.{xorbs_after}
use Rattle.xet_core_structures.specs.KeyedHash.{no_key}
use Rattle.xet_core_structures.specs.Layout.{if_included, footer_value, header_value, info_of, layout_of, shard_footer_bytes, shard_header_bytes}
use Rattle.xet_core_structures.specs.SectionReading.{files_of, IsSection}
use Rattle.xet_core_structures.specs.XorbRecord.{IsXorb, xorb_records, xorb_record_bytes, xorb_bookend}
use Rattle.xet_core_structures.specs.declared.merklehash.DataHash.{DataHash}
use Rattle.xet_core_structures.specs.Hash.{hash_cmp}
use Rattle.xet_core_structures.specs.Records.ShardContents.{Holds, HoldsShard, IsSectionOf, files_at, xorbs_at}
use Rattle.xet_core_structures.specs.Shard.{Shard}
use Rattle.placed_shards.proofs.Items.{has_at}
use Rattle.xet_core_structures.proofs.Records.ListMaps.{list_map, section_of_list, values-list_map}
use Rattle.xet_records.specs.Limits.{MAX_ROWS}
use Rattle.xet_shards.specs.declared.shard_writer.LayoutOptions.{LayoutOptions}
use Rattle.xet_shards.specs.Read.SectionsBehindHeader.{HasSections, options_of}
use Rattle.xet_shards.specs.Write.Section.{section_bytes, total_rows}
use Rattle.xet_shards.specs.declared.shard_writer.ChunkTableRow.{ChunkTableRow}
use Rattle.xet_shards.specs.Write.Tables.{hash_in, chunk_table, chunk_table_bytes, chunk_table_row_bytes, table_bytes}
use Rattle.xet_shards.proofs.Ends.EndsUnique.{only_info, not_unsupported, not_too_short}
use Rattle.xet_shards.proofs.Ends.Loading.{header_of, one_version}
use Rattle.xet_shards.proofs.Export.KeyedExport.{footer_last}
use Rattle.xet_shards.proofs.Read.SectionsOfBytes.{only_sections, form_again}
use Rattle.xet_shards.proofs.Read.Readback.{all_as_read}
use Rattle.xet_shards.proofs.Read.SectionHashes.{ascend_adjacent}
use Rattle.xet_shards.proofs.Read.WholeSections.{version_again, layout_ends, files_not_cut, files_not_refused, xorbs_not_cut, xorbs_not_refused}
use Rattle.xet_shards.proofs.Write.Layouts.{length-file_section, length-shard_header_bytes}
use Rattle.xet_shards.proofs.Write.Sections.{files_laws, fits_ever, section_there}
use Rattle.shard_bytes.proofs.Checking.{header_in}
use Rattle.shard_bytes.proofs.Formats.{unsupported_so}
use Rattle.shard_bytes.proofs.Reordered.{own_slice, other_slice, other_size, part_before, same_end, same_front, table_fits, table_is, reordering_of_itself, reordering_of_none, with_own}
use Rattle.shard_bytes.specs.declared.check.Section.TheVariants.{Files, Xorbs}
use Rattle.shard_bytes.specs.declared.check.Part.{Part}
use Rattle.shard_bytes.specs.declared.check.Part.TheVariants.{Header, FileSection, XorbSection, FileTable, XorbTable, ChunkTable, Footer}
use Rattle.shard_bytes.specs.declared.check.Finding.{Finding}
use Rattle.shard_bytes.specs.declared.check.Finding.TheVariants.{Unsupported, TooShort, Cut, Refused, OutOfOrder, Malformed, Differs, Reordered, Size}
use Rattle.shard_bytes.specs.Checking.{IsContent, IsWhole, IsIntact, IsReadAs, IsReordering, IsReorderedTable, IsOutOfOrder, IsAlikePart, IsFinding, IsNote, HoldsSomeShard, layout_with}
use Rattle.shard_bytes.specs.Exporting.{FollowsHeader}

-- what holds of each value of a map holds of its entries
of_entries : {R : Type 0} (Is : R → Type 0) (m : FinMap hash_cmp R) → All Is (values m) → All (λ e. Is e.1) (entries m)
of_entries Is m each = λ k e below.
    subst Is (get_or-map (λ (d : DataHash × _). d.1) (entries m) k e e.1 below) (each k e.1 (omega (arith, below, length-map (entries m) (λ (d : DataHash × _). d.1))))

-- bytes have the header and the footer of others whose first and last bytes are the same
ends_same : (xs ys : List ℕ) (info : MDBShardInfo) → length xs ≡ length ys → take 48 xs ≡ take 48 ys → last_bytes xs ≡ last_bytes ys → HasHeaderAndFooter ys info → HasHeaderAndFooter xs info
ends_same xs ys info size first last ends = record {
  size = omega (arith, size, ends.size);
  tag = ends.tag;
  header_version = ends.header_version;
  header = first ∙ ends.header;
  footer_size = ends.footer_size;
  footer_version = ends.footer_version;
  footer_widths = ends.footer_widths;
  footer = last ∙ ends.footer;
}

-- a layout whose chunk table has any rows
module _ (files : List MDBFileInfo) (xorbs : List MDBXorbInfo) (options : LayoutOptions) (rows : List ChunkTableRow) where
  abbrev after_xorbs : List ℕ
  after_xorbs =
      if_included options.file_table (table_bytes file_records files) ++ (if_included options.xorb_table (table_bytes xorb_records xorbs)
      ++ (if_included options.chunk_table (flat_map chunk_table_row_bytes rows) ++ shard_footer_bytes (footer_value files xorbs options)))

  abbrev after_files : List ℕ
  after_files = section_bytes xorb_records xorbs ++ after_xorbs

  from_48 : layout_with files xorbs options rows ≡ shard_header_bytes (header_value options.version) ++ (section_bytes file_records files ++ after_files)
  unfolding layout_with
  from_48 = simp (append_assoc)

  files_from : drop 48 (layout_with files xorbs options rows) ≡ flat_map file_record_bytes files ++ (header_row file_bookend ++ after_files)
  unfolding section_bytes
  files_from =
      rest_is 48 (layout_with files xorbs options rows) (shard_header_bytes (header_value options.version)) (section_bytes file_records files ++ after_files) (length-shard_header_bytes (header_value options.version)) from_48
      ∙ append_assoc (flat_map file_record_bytes files) (header_row file_bookend) after_files

  xorbs_from : drop (48 + length (section_bytes file_records files)) (layout_with files xorbs options rows) ≡ flat_map xorb_record_bytes xorbs ++ (xorb_header_row xorb_bookend ++ after_xorbs)
  unfolding section_bytes
  xorbs_from =
      rest_is (48 + length (section_bytes file_records files)) (layout_with files xorbs options rows) (shard_header_bytes (header_value options.version) ++ section_bytes file_records files) after_files
      (length-append (shard_header_bytes (header_value options.version)) (section_bytes file_records files) ∙ ap (λ n. n + length (section_bytes file_records files)) (length-shard_header_bytes (header_value options.version)))
      (from_48 ∙ sym (append_assoc (shard_header_bytes (header_value options.version)) (section_bytes file_records files) after_files))
      ∙ append_assoc (flat_map xorb_record_bytes xorbs) (xorb_header_row xorb_bookend) after_xorbs

  sections_in : FitsSection (file_records_in options.version) files → FitsSection xorb_records xorbs → HasSections (layout_with files xorbs options rows) files xorbs
  sections_in files_fit xorbs_fit =
      let bytes = layout_with files xorbs options rows in
      let fits = fits_ever file_records options.version files files_fit in
      let size : 48 + length (section_bytes file_records files) ≡ xorbs_after files = omega (arith, length-file_section files (λ k r below. (fits.stored k r below).widths)) in
      record {
        header = header_of bytes _ (header_value options.version) from_48 (options.version, refl);
        file_section =
            subst (λ v. IsSection (file_records_in v) (drop 48 bytes) files) (sym (version_known options.version))
            (section_there (file_records_in options.version) (files_laws options.version) files files_fit (drop 48 bytes) after_files files_from);
        xorb_section =
            subst (λ n. IsSection xorb_records (drop n bytes) xorbs) size
            (section_there xorb_records xorb_laws xorbs xorbs_fit (drop (48 + length (section_bytes file_records files)) bytes) after_xorbs xorbs_from);
      }

  ends_in : IsContent files xorbs options → IsReordering (chunk_table xorbs) rows → HasHeaderAndFooter (layout_with files xorbs options rows) (info_of files xorbs options)
  ends_in content reordering =
      let own = layout_of files xorbs options in
      let other = layout_with files xorbs options rows in
      let footer = footer_value files xorbs options in
      let size = other_size files xorbs options rows reordering in
      let at : length own - 200 ≡ footer.footer_offset = omega (arith, footer_last files xorbs options) in
      let below : 48 ≤ footer.chunk_lookup_offset = omega arith in
      ends_same other own (info_of files xorbs options) size
      (sym (take-take 48 footer.chunk_lookup_offset other below) ∙ ap (take 48) (same_front files xorbs options rows reordering) ∙ take-take 48 footer.chunk_lookup_offset own below)
      (ap (λ n. drop n other) (ap (λ n. n - 200) size ∙ at) ∙ same_end files xorbs options rows reordering ∙ ap (λ n. drop n own) (sym at))
      (layout_ends files xorbs options content.files_fit content.xorbs_fit content.key content.creation content.expiry)

-- the chunk table of a layout, and that of one in which it has other rows
tables_alike : (xorbs : List MDBXorbInfo) (rows : List ChunkTableRow) (b : Bool) (own other : List ℕ) → FitsSection xorb_records xorbs → IsReordering (chunk_table xorbs) rows
    → own ≡ if_included b (chunk_table_bytes xorbs) → other ≡ if_included b (flat_map chunk_table_row_bytes rows) → IsReorderedTable own other
tables_alike xorbs rows true own other fit reordering own_is other_is = record {
  rows = chunk_table xorbs;
  others = rows;
  written_are = own_is ∙ table_is xorbs;
  found_are = other_is;
  widths = table_fits xorbs fit;
  reordering = reordering;
}
tables_alike xorbs rows false own other fit reordering own_is other_is =
    record { rows = []; others = []; written_are = own_is; found_are = other_is; widths = λ k r below. absurd (omega (arith, below)); reordering = reordering_of_none }

module _ (bytes : List ℕ) (w : IsIntact bytes) where
  abbrev info : MDBShardInfo
  info = info_of w.files w.xorbs w.options

  abbrev own : List ℕ
  own = layout_of w.files w.xorbs w.options

  abbrev footer : MDBShardFileFooter
  footer = footer_value w.files w.xorbs w.options

  ends : HasHeaderAndFooter bytes info
  ends = subst (λ bs. HasHeaderAndFooter bs info) (sym w.bytes_are) (ends_in w.files w.xorbs w.options w.rows w.content w.reordering)

  have : HasSections bytes w.files w.xorbs
  have = subst (λ bs. HasSections bs w.files w.xorbs) (sym w.bytes_are) (sections_in w.files w.xorbs w.options w.rows w.content.files_fit w.content.xorbs_fit)

  -- what the library writes of the records is the layout
  written_is : layout_of w.files w.xorbs (options_of info) ≡ own
  written_is = form_again w.files w.xorbs w.options

  -- the footer is that of the layout with the layout options that it names
  footer_is : footer ≡ footer_value w.files w.xorbs (options_of info)
  footer_is =
      let again = layout_ends w.files w.xorbs (options_of info) files_again w.content.xorbs_fit w.content.key w.content.creation w.content.expiry in
      let once = layout_ends w.files w.xorbs w.options w.content.files_fit w.content.xorbs_fit w.content.key w.content.creation w.content.expiry in
      ap (λ (i : MDBShardInfo). i.metadata)
      (only_info own info (info_of w.files w.xorbs (options_of info)) once (subst (λ bs. HasHeaderAndFooter bs (info_of w.files w.xorbs (options_of info))) written_is again))
    where
      files_again : FitsSection (file_records_in (options_of info).version) w.files
      files_again = subst (λ v. FitsSection (file_records_in v) w.files) (sym (version_again w.files w.xorbs w.options)) w.content.files_fit

  size_same : length bytes ≡ length (layout_of w.files w.xorbs (options_of info))
  size_same = ap length w.bytes_are ∙ other_size w.files w.xorbs w.options w.rows w.reordering ∙ ap length (sym written_is)

  before : (a b : ℕ) → a ≤ b → b ≤ footer.chunk_lookup_offset → slice_range bytes a b ≡ slice_range own a b
  before a b ascend below = ap (λ bs. slice_range bs a b) w.bytes_are ∙ part_before w.files w.xorbs w.options w.rows w.reordering a b ascend below

  alike_own : (part : Part) → IsAlikePart part bytes info own footer
  alike_own Header = before 0 48 (omega arith) (omega arith)
  alike_own FileSection = before 48 footer.xorb_info_offset (omega arith) (omega arith)
  alike_own XorbSection = before footer.xorb_info_offset footer.file_lookup_offset (omega arith) (omega arith)
  alike_own FileTable = before footer.file_lookup_offset footer.xorb_lookup_offset (omega arith) (omega arith)
  alike_own XorbTable = before footer.xorb_lookup_offset footer.chunk_lookup_offset (omega arith) (omega arith)
  alike_own ChunkTable =
      tables_alike w.xorbs w.rows w.options.chunk_table _ _ w.content.xorbs_fit w.reordering (own_slice w.files w.xorbs w.options w.rows)
      (ap (λ bs. slice_range bs footer.chunk_lookup_offset footer.footer_offset) w.bytes_are ∙ other_slice w.files w.xorbs w.options w.rows w.reordering)
  alike_own Footer = refl

  alike : (part : Part) → IsAlikePart part bytes info (layout_of w.files w.xorbs (options_of info)) (footer_value w.files w.xorbs (options_of info))
  alike part = subst (λ p. p) (λ i. IsAlikePart part bytes info (sym written_is i) (footer_is i)) (alike_own part)

  -- however they are read
  module _ (other : MDBShardInfo) (files : List MDBFileInfo) (xorbs : List MDBXorbInfo) (read : IsReadAs bytes other files xorbs) where
    same_info : other ≡ info
    same_info = only_info bytes other info read.ends ends

    same_records : (files ≡ w.files) × (xorbs ≡ w.xorbs)
    same_records = only_sections bytes files w.files xorbs w.xorbs read.sections have

    pub read_written : layout_of files xorbs (options_of other) ≡ own
    read_written = (λ i. layout_of (same_records.0 i) (same_records.1 i) (options_of (same_info i))) ∙ written_is

    read_alike : (part : Part) → IsAlikePart part bytes other (layout_of files xorbs (options_of other)) (footer_value files xorbs (options_of other))
    read_alike part =
        subst (λ p. p)
        (λ i. IsAlikePart part bytes (sym same_info i) (layout_of (sym same_records.0 i) (sym same_records.1 i) (options_of (sym same_info i))) (footer_value (sym same_records.0 i) (sym same_records.1 i) (options_of (sym same_info i))))
        (alike part)

    read_size : length bytes ≡ length (layout_of files xorbs (options_of other))
    read_size = size_same ∙ ap length (written_is ∙ sym read_written)

    files_ordered : (n : ℕ) → ¬ IsOutOfOrder n (map (hash_in file_records) files)
    files_ordered n out =
        let here = subst (IsOutOfOrder n) (ap (map (hash_in file_records)) same_records.0) out in
        here.not_less no_key (ascend_adjacent (map (hash_in file_records) w.files) n no_key w.content.files_ascend here.some here.below)

    xorbs_ordered : (n : ℕ) → ¬ IsOutOfOrder n (map (hash_in xorb_records) xorbs)
    xorbs_ordered n out =
        let here = subst (IsOutOfOrder n) (ap (map (hash_in xorb_records)) same_records.1) out in
        here.not_less no_key (ascend_adjacent (map (hash_in xorb_records) w.xorbs) n no_key w.content.xorbs_ascend here.some here.below)

  only_note : (f : Finding) → IsFinding bytes f → IsNote f
  only_note (Unsupported reason) so = absurd (not_unsupported bytes info ends (unsupported_so bytes reason so))
  only_note TooShort so = absurd (not_too_short bytes info ends so)
  only_note (Cut Files) (i, e, header, cut) = absurd (files_not_cut bytes w.files w.xorbs have header cut)
  only_note (Cut Xorbs) (i, e, header, (files, there, cut)) = absurd (xorbs_not_cut bytes w.files w.xorbs have header files there cut)
  only_note (Refused Files) (i, e, header, over) = absurd (files_not_refused bytes w.files w.xorbs have header over)
  only_note (Refused Xorbs) (i, e, header, (files, there, over)) = absurd (xorbs_not_refused bytes w.files w.xorbs have header files there over)
  only_note (OutOfOrder Files n) (other, files, xorbs, read, out) = absurd (files_ordered other files xorbs read n out)
  only_note (OutOfOrder Xorbs n) (other, files, xorbs, read, out) = absurd (xorbs_ordered other files xorbs read n out)
  only_note (Malformed Files n) (other, files, xorbs, read, (r, at, bad)) = absurd (bad (All-contains IsWellFormed files r (subst (All IsWellFormed) (sym (same_records other files xorbs read).0) w.content.files_formed) (has_at files n r at)))
  only_note (Malformed Xorbs n) (other, files, xorbs, read, (r, at, bad)) = absurd (bad (All-contains IsXorb xorbs r (subst (All IsXorb) (sym (same_records other files xorbs read).1) w.content.xorbs_formed) (has_at xorbs n r at)))
  only_note (Differs part) (other, files, xorbs, read, differs) = absurd (differs (read_alike other files xorbs read part))
  only_note Reordered so = tt
  only_note (Size n) (other, files, xorbs, read, (is, differs)) = absurd (differs (read_size other files xorbs read ∙ sym is))

  -- so true findings are notes
  pub nothing_lost : (findings : List Finding) → All (IsFinding bytes) findings → All IsNote findings
  nothing_lost findings each = All-weaker (IsFinding bytes) IsNote only_note findings each

  -- and the bytes hold the shard of the records
  abbrev the_shard : Shard
  the_shard = record { files = list_map file_records w.files; xorbs = list_map xorb_records w.xorbs }

  in_version : IsSection (files_of info) (drop 48 bytes) w.files
  in_version = subst (λ v. IsSection (file_records_in v) (drop 48 bytes) w.files) (one_version bytes have.header (header_in bytes info ends)) have.file_section

  xorbs_there : IsSection xorb_records (drop info.metadata.xorb_info_offset bytes) w.xorbs
  xorbs_there =
      let fits = fits_ever file_records w.options.version w.files w.content.files_fit in
      let size : 48 + length (section_bytes file_records w.files) ≡ xorbs_after w.files = omega (arith, length-file_section w.files (λ k r below. (fits.stored k r below).widths)) in
      subst (λ n. IsSection xorb_records (drop n bytes) w.xorbs) (sym size) have.xorb_section

  holds_it : Holds bytes info the_shard
  holds_it = record {
    files = section_of_list (files_of info) w.files w.content.files_ascend (files_at bytes info) w.files in_version (all_as_read w.files w.content.files_formed);
    xorbs = section_of_list xorb_records w.xorbs w.content.xorbs_ascend (xorbs_at bytes info) w.xorbs xorbs_there (map-id w.xorbs);
  }

  holds_the_shard : HoldsShard w.options.key the_shard bytes
  holds_the_shard = record {
    shard = record {
      files = record {
        keyed = holds_it.files.keyed;
        well_formed = of_entries IsWellFormed (list_map file_records w.files) (subst (All IsWellFormed) (sym (values-list_map file_records w.files w.content.files_ascend)) w.content.files_formed);
      };
      file_rows = subst (λ rs. total_rows file_records rs ≤ MAX_ROWS) (sym (values-list_map file_records w.files w.content.files_ascend)) w.content.files_fit.rows;
      xorbs = record {
        keyed = holds_it.xorbs.keyed;
        well_formed = of_entries IsXorb (list_map xorb_records w.xorbs) (subst (All IsXorb) (sym (values-list_map xorb_records w.xorbs w.content.xorbs_ascend)) w.content.xorbs_formed);
      };
      xorb_rows = subst (λ rs. total_rows xorb_records rs ≤ MAX_ROWS) (sym (values-list_map xorb_records w.xorbs w.content.xorbs_ascend)) w.content.xorbs_fit.rows;
    };
    has = record { info = info; ends = ends; holds = holds_it };
    under = refl;
  }

  pub holds_one : HoldsSomeShard bytes
  holds_one = (w.options.key, the_shard, holds_the_shard)

  -- whose sections follow the header
  pub follows_one : (key : DataHash) × (s : Shard) × HoldsShard key s bytes × FollowsHeader s bytes
  follows_one = (
    w.options.key,
    the_shard,
    holds_the_shard,
    record {
      header = have.header;
      files = section_of_list (file_records_in have.header.version) w.files w.content.files_ascend (drop 48 bytes) w.files have.file_section (all_as_read w.files w.content.files_formed);
      xorbs = subst (λ rs. IsSectionOf xorb_records (drop (xorbs_after rs) bytes) the_shard.xorbs) (sym (values-list_map file_records w.files w.content.files_ascend))
          (section_of_list xorb_records w.xorbs w.content.xorbs_ascend (drop (xorbs_after w.files) bytes) w.xorbs have.xorb_section (map-id w.xorbs));
    },
  )

module _ (bytes : List ℕ) (w : IsWhole bytes) where
  -- whole bytes are intact
  abbrev pub intact_too : IsIntact bytes
  intact_too = record {
    files = w.files;
    xorbs = w.xorbs;
    options = w.options;
    rows = chunk_table w.xorbs;
    content = w.content;
    reordering = reordering_of_itself w.xorbs;
    bytes_are = w.bytes_are ∙ sym (with_own w.files w.xorbs w.options);
  }

  not_reordered : ¬ IsFinding bytes Reordered
  not_reordered (other, files, xorbs, read, (there, differs)) =
      let f = footer_value files xorbs (options_of other) in
      differs (ap (λ bs. slice_range bs f.chunk_lookup_offset f.footer_offset) (w.bytes_are ∙ sym (read_written bytes intact_too other files xorbs read)))

  no_finding : (f : Finding) → IsNote f → ¬ IsFinding bytes f
  no_finding Reordered note so = not_reordered so
  no_finding f note so = absurd note

  -- each list of true findings is empty
  pub nothing_wrong : (findings : List Finding) → All (IsFinding bytes) findings → findings ≡ []
  nothing_wrong [] each = refl
  nothing_wrong (f ∷ fs) each =
      let so = each 0 f (omega arith) in
      absurd (no_finding f (only_note bytes intact_too f so) so)
