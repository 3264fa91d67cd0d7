-- Bytes have the sections of one shard, and are its layout if all parts are.
use Rattle.std.proofs.Common.{◌≡◌, ℕ, ◌+◌, ◌-◌, ◌<◌, ◌≤◌, Bool, true, false, List, [], ◌∷◌, ◌++◌, length, flat_map, drop, refl, sym, ap, ◌∙◌, subst, arith}
use Rattle.std.specs.Prelude.{nat_lt}
use Rattle.std.specs.List.{slice_range}
use Rattle.std.proofs.lemmas.Bool.Decides.{nat_tests}
use Rattle.std.proofs.lemmas.List.Folds.{drop_split}
use Rattle.xet_records.specs.declared.file_structs.MDBFileInfo.{MDBFileInfo}
use Rattle.xet_records.specs.declared.xorb_structs.MDBXorbInfo.{MDBXorbInfo}
use Rattle.xet_records.specs.FileRecord.{file_records, file_records_in}
use Rattle.xet_records.specs.XorbRecord.{xorb_records}
use Rattle.xet_records.proofs.RecordKinds.{xorb_laws, version_known}
use Rattle.xet_shards.specs.declared.shard_format.ends.footer.MDBShardFileFooter.{MDBShardFileFooter}
use Rattle.xet_shards.specs.declared.shard_format.ends.info.MDBShardInfo.{MDBShardInfo}
use Rattle.xet_shards.specs.Ends.Ends.{HasHeaderAndFooter, FitsFooter}
use Rattle.xet_shards.specs.Write.WithOptions.{FitsSection}
use Rattle.xet_shards.specs.Export.KeyedExport.{xorbs_after}
use Rattle.xet_shards.specs.Write.Layout.{LayoutOptions, if_included, footer_value, info_of, layout_of, shard_footer_bytes}
use Rattle.xet_shards.specs.Read.SectionsBehindHeader.{HasSections, options_of}
use Rattle.xet_shards.specs.Read.SectionReading.{IsSection}
use Rattle.xet_shards.specs.Write.Tables.{ChunkTableRow, starts, chunk_table, table_bytes, chunk_table_bytes, chunk_table_row_bytes}
use Rattle.xet_shards.proofs.Ends.EndsUnique.{ends_of_layout}
use Rattle.xet_shards.proofs.Export.KeyedExport.{footer_last}
use Rattle.xet_shards.proofs.Ends.Loading.{one_version}
use Rattle.xet_shards.proofs.Write.Sections.{files_laws}
use Rattle.xet_shards.proofs.Read.SectionUnique.{only_list}

-- bytes have the sections of one list each
pub only_sections : (bytes : List ℕ) (fs gs : List MDBFileInfo) (xs ys : List MDBXorbInfo) → HasSections bytes fs xs → HasSections bytes gs ys → (fs ≡ gs) × (xs ≡ ys)
only_sections bytes fs gs xs ys a b =
    let version = b.header.version in
    let files = only_list (file_records_in version) (files_laws version) (drop 48 bytes) fs gs
    (subst (λ v. IsSection (file_records_in v) (drop 48 bytes) fs) (one_version bytes a.header b.header) a.file_section) b.file_section in
    (files, only_list xorb_records xorb_laws (drop (xorbs_after gs) bytes) xs ys (subst (λ rs. IsSection xorb_records (drop (xorbs_after rs) bytes) xs) files a.xorb_section) b.xorb_section)

-- sections may hold what they hold
pub sections_fit : (bytes : List ℕ) (files : List MDBFileInfo) (xorbs : List MDBXorbInfo) → (have : HasSections bytes files xorbs)
    → FitsSection (file_records_in have.header.version) files × FitsSection xorb_records xorbs
sections_fit bytes files xorbs have = (
  record { stored = have.file_section.records.are_stored; rows = have.file_section.records.rows },
  record { stored = have.xorb_section.records.are_stored; rows = have.xorb_section.records.rows },
)

-- bytes that are the same from one offset up to another, and after that one, are so from the first one on
more_same : (xs ys : List ℕ) (a b : ℕ) → a ≤ b → slice_range xs a b ≡ slice_range ys a b → drop b xs ≡ drop b ys → drop a xs ≡ drop a ys
more_same xs ys a b below here rest = drop_split xs a b below ∙ (λ i. here i ++ rest i) ∙ sym (drop_split ys a b below)

-- bytes with all parts of a layout, its footer and its size are this layout
module _ (bytes : List ℕ) (info : MDBShardInfo) (files : List MDBFileInfo) (xorbs : List MDBXorbInfo) (options : LayoutOptions) (ends : HasHeaderAndFooter bytes info) (same : info.metadata ≡ footer_value files xorbs options)
    (size : length bytes ≡ length (layout_of files xorbs options)) where
  abbrev written_bytes : List ℕ
  written_bytes = layout_of files xorbs options

  abbrev footer : MDBShardFileFooter
  footer = footer_value files xorbs options

  same_end : drop footer.footer_offset bytes ≡ drop footer.footer_offset written_bytes
  same_end =
      let other = ends_of_layout files xorbs options (subst FitsFooter same ends.footer_widths) in
      let at : length written_bytes - 200 ≡ footer.footer_offset = omega (arith, footer_last files xorbs options) in
      ap (λ n. drop n bytes) (sym at ∙ ap (λ n. n - 200) (sym size)) ∙ ends.footer ∙ ap shard_footer_bytes same ∙ sym other.footer ∙ ap (λ n. drop n written_bytes) at

  abbrev SamePart : ℕ → ℕ → Type 0
  SamePart a b = slice_range bytes a b ≡ slice_range written_bytes a b

  pub is_layout : SamePart 0 48 → SamePart 48 footer.xorb_info_offset → SamePart footer.xorb_info_offset footer.file_lookup_offset → SamePart footer.file_lookup_offset footer.xorb_lookup_offset
      → SamePart footer.xorb_lookup_offset footer.chunk_lookup_offset → SamePart footer.chunk_lookup_offset footer.footer_offset → bytes ≡ written_bytes
  is_layout header file_section xorb_section file_table xorb_table chunk_table =
      more_same bytes written_bytes 0 48 (omega arith) header
      (more_same bytes written_bytes 48 footer.xorb_info_offset (omega arith) file_section
      (more_same bytes written_bytes footer.xorb_info_offset footer.file_lookup_offset (omega arith) xorb_section
      (more_same bytes written_bytes footer.file_lookup_offset footer.xorb_lookup_offset (omega arith) file_table
      (more_same bytes written_bytes footer.xorb_lookup_offset footer.chunk_lookup_offset (omega arith) xorb_table
      (more_same bytes written_bytes footer.chunk_lookup_offset footer.footer_offset (omega arith) chunk_table same_end)))))

nat_lt-positive : (n : ℕ) → 0 < n → nat_lt 0 n ≡ true
nat_lt-positive n some = grind (arith, nat_tests)

-- a table without rows may be in or not
module _ (files : List MDBFileInfo) (xorbs : List MDBXorbInfo) where
  file_flag : (b : Bool) (rs : List MDBFileInfo) (options : LayoutOptions) → layout_of rs xorbs (record options { file_table = nat_lt 0 (length (if_included b (starts file_records rs))) }) ≡ layout_of rs xorbs (record options { file_table = b })
  unfolding layout_of table_bytes
  file_flag false rs options = refl
  file_flag true [] options = refl
  file_flag true (r ∷ rs) options = ap (λ t. layout_of (r ∷ rs) xorbs (record options { file_table = t })) (nat_lt-positive (length (starts file_records (r ∷ rs))) (omega arith))

  xorb_flag : (b : Bool) (xs : List MDBXorbInfo) (options : LayoutOptions) → layout_of files xs (record options { xorb_table = nat_lt 0 (length (if_included b (starts xorb_records xs))) }) ≡ layout_of files xs (record options { xorb_table = b })
  unfolding layout_of table_bytes
  xorb_flag false xs options = refl
  xorb_flag true [] options = refl
  xorb_flag true (x ∷ xs) options = ap (λ t. layout_of files (x ∷ xs) (record options { xorb_table = t })) (nat_lt-positive (length (starts xorb_records (x ∷ xs))) (omega arith))

  no_chunk_bytes : chunk_table xorbs ≡ [] → chunk_table_bytes xorbs ≡ []
  unfolding chunk_table_bytes
  no_chunk_bytes none = ap (flat_map chunk_table_row_bytes) none

  no_chunks : (options : LayoutOptions) → chunk_table xorbs ≡ [] → layout_of files xorbs (record options { chunk_table = false }) ≡ layout_of files xorbs (record options { chunk_table = true })
  unfolding layout_of
  no_chunks options none = let bytes = no_chunk_bytes none in rw (none, bytes) refl

  chunk_flag : (b : Bool) (rows : List ChunkTableRow) (options : LayoutOptions) → chunk_table xorbs ≡ rows
      → layout_of files xorbs (record options { chunk_table = nat_lt 0 (length (if_included b (chunk_table xorbs))) }) ≡ layout_of files xorbs (record options { chunk_table = b })
  chunk_flag false rows options is = refl
  chunk_flag true [] options is = ap (λ (rows : List ChunkTableRow). layout_of files xorbs (record options { chunk_table = nat_lt 0 (length rows) })) is ∙ no_chunks options is
  chunk_flag true (r ∷ rows) options is =
      ap (λ t. layout_of files xorbs (record options { chunk_table = t })) (nat_lt-positive (length (chunk_table xorbs)) (omega (arith, ap length is)))

  -- so a layout is that with the layout options that its header and footer name
  pub form_again : (options : LayoutOptions) → layout_of files xorbs (options_of (info_of files xorbs options)) ≡ layout_of files xorbs options
  form_again options =
      let f = nat_lt 0 (length (if_included options.file_table (starts file_records files))) in
      let x = nat_lt 0 (length (if_included options.xorb_table (starts xorb_records xorbs))) in
      let c = nat_lt 0 (length (if_included options.chunk_table (chunk_table xorbs))) in
      ap (λ v. layout_of files xorbs (record options { version = v; file_table = f; xorb_table = x; chunk_table = c })) (version_known options.version)
      ∙ file_flag options.file_table files (record options { xorb_table = x; chunk_table = c })
      ∙ xorb_flag options.xorb_table xorbs (record options { chunk_table = c })
      ∙ chunk_flag options.chunk_table (chunk_table xorbs) options refl
