-- An export of bytes in which a shard follows the header holds the shard that is exported of it.
use Rattle.std.proofs.Common.{◌≡◌, inl, inr, ℕ, ◌+◌, ◌^◌, ◌<◌, ◌≤◌, Bool, true, false, List, [], ◌∷◌, length, map, drop, Option, None, Some, refl, sym, ap, ◌∙◌, subst, arith}
use Rattle.std.specs.Prelude.{slice_get, option_to_list}
use Rattle.std.specs.FinMap.{values}
use Rattle.std.proofs.lemmas.List.{map-id}
use Rattle.std.proofs.lemmas.List.Elements.{All-nil}
use Rattle.xet_base.specs.Hash.{IsHash, hash_cmp}
use Rattle.xet_base.specs.KeyedHash.{no_key}
use Rattle.xet_core_structures.specs.declared.error.CoreError.{CoreError}
use Rattle.xet_core_structures.specs.declared.error.CoreError.TheVariants.{OutOfMemory}
use Rattle.xet_core_structures.specs.declared.file_structs.MDBFileInfo.{MDBFileInfo}
use Rattle.xet_core_structures.specs.declared.xorb_structs.MDBXorbInfo.{MDBXorbInfo}
use Rattle.xet_core_structures.specs.declared.shard_format.MDBShardInfo.{MDBShardInfo}
use Rattle.xet_core_structures.specs.Ends.{HasHeaderAndFooter}
use Rattle.xet_core_structures.specs.Ends.FormatCase.{unsupported_format, too_few_bytes}
use Rattle.xet_core_structures.specs.Errors.{IsWriteError}
use Rattle.xet_core_structures.specs.FileRecord.{as_read, file_records, file_records_in}
use Rattle.xet_core_structures.specs.KeyedExport.{export_options, keyed_xorbs, xorbs_after, ExportCase}
use Rattle.xet_core_structures.specs.KeyedExport.ExportCase.{no_sections, not_written}
use Rattle.xet_core_structures.specs.KeyedExport.SectionsCase.{bad_header, bad_files, bad_xorbs}
use Rattle.xet_core_structures.specs.KeyedShards.{keyed_shard}
use Rattle.xet_core_structures.specs.Layout.{if_included, info_of, layout_of}
use Rattle.xet_core_structures.specs.Records.ShardContents.{HasShard, HoldsShard, IsSectionOf}
use Rattle.xet_core_structures.specs.SectionReading.{IsSection}
use Rattle.xet_core_structures.specs.SectionReading.SectionCase.{not_read, passes_limit}
use Rattle.xet_core_structures.specs.Shard.{Shard, IsShard}
use Rattle.xet_core_structures.specs.Source.ReadCase.{out_of_memory, out_of_bytes}
use Rattle.xet_core_structures.specs.Trees.ExportTrees.{shard_with_aux_if}
use Rattle.xet_core_structures.specs.View.{without_aux, all_with_aux_if}
use Rattle.xet_core_structures.specs.WithOptions.{FitsSection}
use Rattle.xet_core_structures.specs.XorbRecord.{xorb_records}
use Rattle.xet_core_structures.proofs.Records.ShardContents.{rows_handed}
use Rattle.xet_core_structures.proofs.Records.SmallerShards.{empty_is_shard}
use Rattle.xet_records.specs.declared.file_structs.rows.HashRow.{HashRow}
use Rattle.xet_records.specs.declared.record_reader.FormatVersion.TheVariants.{V3}
use Rattle.xet_records.specs.FileRow.{clear}
use Rattle.xet_records.proofs.RecordKinds.{file_laws}
use Rattle.xet_shards.specs.declared.shard_writer.LayoutOptions.{LayoutOptions}
use Rattle.xet_shards.specs.Read.SectionsBehindHeader.{HasSections}
use Rattle.xet_shards.specs.Write.Section.{total_rows}
use Rattle.xet_shards.proofs.Content.FilesWithoutAux.{section-with_aux_if}
use Rattle.xet_shards.proofs.Content.KeyedHashes.{keyed_section}
use Rattle.xet_shards.proofs.Content.KeyedShards.{keyed_is_shard, values-keyed}
use Rattle.xet_shards.proofs.Content.Maps.{values-empty}
use Rattle.xet_shards.proofs.Content.ShardsWithoutAux.{values-without_aux, without_aux-is_shard}
use Rattle.xet_shards.proofs.Ends.EndsUnique.{only_info}
use Rattle.xet_shards.proofs.Read.SectionsOfBytes.{only_sections}
use Rattle.xet_shards.proofs.Read.Readback.{file_section_in, xorb_section_in}
use Rattle.xet_shards.proofs.Read.WholeSections.{layout_ends, files_not_cut, files_not_refused, xorbs_not_cut, xorbs_not_refused}
use Rattle.xet_shards.proofs.Write.Sections.{fits_ever}
use Rattle.shard_bytes.specs.declared.export.Export.{Export}
use Rattle.shard_bytes.specs.Exporting.{ExportsBytes, FollowsHeader, HoldsExport, RefusesExport, exported_shard, shard_with_files_if}
use Rattle.shard_bytes.specs.ResultSizes.{IsRewriteSize}
use Rattle.shard_bytes.proofs.Checking.{header_in}
use Rattle.shard_bytes.proofs.Walks.{not_refused}
use Rattle.shard_bytes.proofs.RewriteSizes.{size_of_export}

-- reading a file and leaving out its auxiliary row can be exchanged
metadata_row : (m : Option HashRow)
    → slice_get (map clear (option_to_list (slice_get (option_to_list m) 0))) 0 ≡ slice_get (option_to_list (slice_get (map clear (option_to_list m)) 0)) 0
metadata_row None = refl
metadata_row (Some row) = refl

read_without_aux : (r : MDBFileInfo) → as_read (without_aux r) ≡ without_aux (as_read r)
read_without_aux r = λ i. record (as_read (without_aux r)) { metadata_ext = metadata_row r.metadata_ext i }

all_without_aux : (files : List MDBFileInfo) → map as_read (map without_aux files) ≡ map without_aux (map as_read files)
all_without_aux [] = refl
all_without_aux (r ∷ rs) = λ i. read_without_aux r i ∷ all_without_aux rs i

-- so the files that are exported are read as those of the shard with auxiliary rows or without, or as none
files_wanted : (aux : Bool) (s : Shard) (files : List MDBFileInfo) → map as_read files ≡ values s.files → map as_read (all_with_aux_if aux files) ≡ values (shard_with_aux_if aux s).files
files_wanted true s files are = are
files_wanted false s files are = all_without_aux files ∙ ap (map without_aux) are ∙ sym (values-without_aux s)

files_left : (wanted : Bool) (s : Shard) (files : List MDBFileInfo) → map as_read files ≡ values s.files → map as_read (if_included wanted files) ≡ values (shard_with_files_if wanted s).files
files_left true s files are = are
files_left false s files are = sym (values-empty MDBFileInfo hash_cmp)

-- and the xorbs stay
xorbs_wanted : (aux : Bool) (s : Shard) → values s.xorbs ≡ values (shard_with_aux_if aux s).xorbs
xorbs_wanted true s = refl
xorbs_wanted false s = refl

xorbs_left : (wanted : Bool) (s : Shard) → values s.xorbs ≡ values (shard_with_files_if wanted s).xorbs
xorbs_left true s = refl
xorbs_left false s = refl

-- files that may be in a section may be, or none
included_fits : (wanted : Bool) (files : List MDBFileInfo) → FitsSection file_records files → FitsSection (file_records_in V3) (if_included wanted files)
included_fits true files fits = record { stored = fits.stored; rows = fits.rows }
included_fits false files fits = record { stored = All-nil (file_records_in V3).IsStored; rows = omega arith }

-- what is exported of a shard is a shard
wanted_is_shard : (aux : Bool) (s : Shard) → IsShard s → IsShard (shard_with_aux_if aux s)
wanted_is_shard true s shard = shard
wanted_is_shard false s shard = without_aux-is_shard s shard

left_is_shard : (wanted : Bool) (s : Shard) → IsShard s → IsShard (shard_with_files_if wanted s)
left_is_shard true s shard = shard
left_is_shard false s shard = record { files = empty_is_shard.files; file_rows = empty_is_shard.file_rows; xorbs = shard.xorbs; xorb_rows = shard.xorb_rows }

module _ (x : Export) (s : Shard) (shard : IsShard s) where
  abbrev aux : Bool
  aux = x.parts.aux_ext

  abbrev whole_keyed : Shard
  whole_keyed = keyed_shard x.key (shard_with_aux_if aux s)

  exported_is_shard : IsShard (exported_shard x s)
  exported_is_shard = left_is_shard x.parts.files whole_keyed (keyed_is_shard x.key (shard_with_aux_if aux s) (wanted_is_shard aux s shard))

  module _ (files : List MDBFileInfo) (xorbs : List MDBXorbInfo) (files_are : map as_read files ≡ values s.files) (xorbs_are : xorbs ≡ values s.xorbs) where
    abbrev options : LayoutOptions
    options = export_options x.key x.now x.valid_seconds x.parts.files x.parts.xorb_table x.parts.chunk_table

    abbrev out_files : List MDBFileInfo
    out_files = if_included x.parts.files (all_with_aux_if aux files)

    abbrev out_xorbs : List MDBXorbInfo
    out_xorbs = keyed_xorbs x.key xorbs

    files_returned : map as_read out_files ≡ values (exported_shard x s).files
    files_returned = files_left x.parts.files whole_keyed (all_with_aux_if aux files) (files_wanted aux s files files_are)

    xorbs_returned : map (λ r. r) out_xorbs ≡ values (exported_shard x s).xorbs
    xorbs_returned =
        map-id out_xorbs ∙ ap (keyed_xorbs x.key) (xorbs_are ∙ xorbs_wanted aux s) ∙ sym (values-keyed x.key (shard_with_aux_if aux s)) ∙ xorbs_left x.parts.files whole_keyed

    holds_export : FitsSection (file_records_in V3) out_files → FitsSection xorb_records out_xorbs
        → HasHeaderAndFooter (layout_of out_files out_xorbs options) (info_of out_files out_xorbs options) → HoldsExport x s (layout_of out_files out_xorbs options)
    holds_export files_fit xorbs_fit ends = record {
      holds = record {
        shard = exported_is_shard;
        has = record {
          info = info_of out_files out_xorbs options;
          ends = ends;
          holds = record {
            files = record { stored = out_files; section = file_section_in out_files out_xorbs options files_fit; returned = files_returned; keyed = exported_is_shard.files.keyed };
            xorbs = record { stored = out_xorbs; section = xorb_section_in out_files out_xorbs options xorbs_fit; returned = xorbs_returned; keyed = exported_is_shard.xorbs.keyed };
          };
        };
        under = refl;
      };
      creation = refl;
      expiry = refl;
    }

-- a shard that follows the header is what an export reads
module _ (s : Shard) (bytes : List ℕ) (follows : FollowsHeader s bytes) where
  abbrev pub stored_files : List MDBFileInfo
  stored_files = follows.files.stored

  abbrev pub stored_xorbs : List MDBXorbInfo
  stored_xorbs = follows.xorbs.stored

  pub sections : HasSections bytes stored_files stored_xorbs
  sections =
      let after : xorbs_after (values s.files) ≡ xorbs_after stored_files = omega (arith, ap (total_rows file_records) follows.files.returned, rows_handed file_records file_laws stored_files) in
      record {
        header = follows.header;
        file_section = follows.files.section;
        xorb_section = subst (λ n. IsSection xorb_records (drop n bytes) stored_xorbs) after follows.xorbs.section;
      }

  -- and only memory can be lacking when they are read
  pub only_memory : (e : CoreError) → ¬ IsWriteError e → ExportCase bytes e → e ≡ OutOfMemory
  only_memory e read (no_sections (bad_header (unsupported_format is (inl (long, other))))) = absurd (other follows.header.tag)
  only_memory e read (no_sections (bad_header (unsupported_format is (inr (long, other))))) = absurd (other follows.header.version follows.header.version_is)
  only_memory e read (no_sections (bad_header (too_few_bytes is (inl short)))) = absurd (omega (arith, short, follows.header.size))
  only_memory e read (no_sections (bad_header (too_few_bytes is (inr (short, tag))))) = absurd (omega (arith, short, follows.header.size))
  only_memory e read (no_sections (bad_files header (not_read (out_of_memory is)))) = is
  only_memory e read (no_sections (bad_files header (not_read (out_of_bytes is short)))) = absurd (files_not_cut bytes stored_files stored_xorbs sections header short)
  only_memory e read (no_sections (bad_files header (passes_limit is refused))) = absurd (files_not_refused bytes stored_files stored_xorbs sections header refused)
  only_memory e read (no_sections (bad_xorbs header files there (not_read (out_of_memory is)))) = is
  only_memory e read (no_sections (bad_xorbs header files there (not_read (out_of_bytes is short)))) = absurd (xorbs_not_cut bytes stored_files stored_xorbs sections header files there short)
  only_memory e read (no_sections (bad_xorbs header files there (passes_limit is refused))) = absurd (xorbs_not_refused bytes stored_files stored_xorbs sections header files there refused)
  only_memory e read (not_written header write) = absurd (read write)

  pub export_held : (x : Export) (out : List ℕ) → IsShard s → IsHash x.key → x.now < 2 ^ 64 → ExportsBytes x bytes out → HoldsExport x s out
  export_held x out shard key now e =
      let same = only_sections bytes e.files stored_files e.xorbs stored_xorbs (record { header = e.header; file_section = e.file_section; xorb_section = e.xorb_section }) sections in
      let xorbs_are : e.xorbs ≡ values s.xorbs = same.1 ∙ sym (map-id stored_xorbs) ∙ follows.xorbs.returned in
      let in_time : ¬ (2 ^ 64 ≤ x.now + x.valid_seconds) = λ late. e.can (inr late) in
      let read = fits_ever file_records e.header.version e.files (record { stored = e.file_section.records.are_stored; rows = e.file_section.records.rows }) in
      let files_fit = included_fits x.parts.files (all_with_aux_if x.parts.aux_ext e.files) (section-with_aux_if x.parts.aux_ext e.files read) in
      let xorbs_fit = keyed_section x.key e.xorbs (record { stored = e.xorb_section.records.are_stored; rows = e.xorb_section.records.rows }) in
      subst (HoldsExport x s) (sym e.written)
      (holds_export x s shard e.files e.xorbs (ap (map as_read) same.0 ∙ follows.files.returned) xorbs_are files_fit xorbs_fit
      (layout_ends (if_included x.parts.files (all_with_aux_if x.parts.aux_ext e.files)) (keyed_xorbs x.key e.xorbs)
      (export_options x.key x.now x.valid_seconds x.parts.files x.parts.xorb_table x.parts.chunk_table) files_fit xorbs_fit key now (omega (arith, in_time))))

  -- and it is exported unless an allocation fails, if it has no key and the expiry fits 64 bits
  module _ (x : Export) (holds : HoldsShard no_key s bytes) (fits : x.now + x.valid_seconds < 2 ^ 64) where
    abbrev info : MDBShardInfo
    info = holds.has.info

    abbrev ends : HasHeaderAndFooter bytes info
    ends = holds.has.ends

    pub only_out_of_memory : (e : CoreError) → RefusesExport x bytes e → e ≡ OutOfMemory
    only_out_of_memory e (inl is) = is
    only_out_of_memory e (inr (read, inl load)) = absurd (not_refused bytes info ends e load)
    only_out_of_memory e (inr (read, inr (other, there, inl (is, inl keyed)))) =
        absurd (keyed (ap (λ (i : MDBShardInfo). i.metadata.chunk_hash_hmac_key) (only_info bytes other info there ends) ∙ holds.under))
    only_out_of_memory e (inr (read, inr (other, there, inl (is, inr late)))) = absurd (omega (arith, fits, late))
    only_out_of_memory e (inr (read, inr (other, there, inr (can, case)))) = only_memory e read case

-- sections to which the footer leads follow the header, if its offsets say so
pub follows_by_footer : (s : Shard) (bytes : List ℕ) (has : HasShard s bytes) → has.info.metadata.file_info_offset ≡ 48 → has.info.metadata.xorb_info_offset ≡ xorbs_after (values s.files) → FollowsHeader s bytes
follows_by_footer s bytes has files_at xorbs_at = record {
  header = header_in bytes has.info has.ends;
  files = subst (λ n. IsSectionOf (file_records_in (header_in bytes has.info has.ends).version) (drop n bytes) s.files) files_at has.holds.files;
  xorbs = subst (λ n. IsSectionOf xorb_records (drop n bytes) s.xorbs) xorbs_at has.holds.xorbs;
}

-- the files of an export, and its size
module _ (x : Export) (bytes out : List ℕ) (e : ExportsBytes x bytes out) where
  abbrev pub files_out : List MDBFileInfo
  files_out = if_included x.parts.files (all_with_aux_if x.parts.aux_ext e.files)

  abbrev pub xorbs_out : List MDBXorbInfo
  xorbs_out = keyed_xorbs x.key e.xorbs

  abbrev pub options_out : LayoutOptions
  options_out = export_options x.key x.now x.valid_seconds x.parts.files x.parts.xorb_table x.parts.chunk_table

  pub export_in_3 : FitsSection file_records files_out
  export_in_3 =
      let read = fits_ever file_records e.header.version e.files (record { stored = e.file_section.records.are_stored; rows = e.file_section.records.rows }) in
      let fit = included_fits x.parts.files (all_with_aux_if x.parts.aux_ext e.files) (section-with_aux_if x.parts.aux_ext e.files read) in
      record { stored = fit.stored; rows = fit.rows }

  pub export_size : IsRewriteSize bytes (length out)
  export_size =
      subst (λ (zs : List ℕ). IsRewriteSize bytes (length zs)) (sym e.written)
      (size_of_export bytes e.header.version e.files e.xorbs e.file_section e.xorb_section x.parts.aux_ext options_out)
