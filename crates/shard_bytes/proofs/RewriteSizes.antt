-- How large it is what is written again of the records in one byte string.
use Rattle.std.proofs.Common.{ℕ, ◌+◌, ◌*◌, ◌≤◌, Bool, true, false, List, length, flat_map, drop, ap, arith}
use Rattle.std.specs.List.{All}
use Rattle.std.proofs.lemmas.List.{length-append, length-drop}
use Rattle.xet_records.specs.declared.file_structs.MDBFileInfo.{MDBFileInfo}
use Rattle.xet_records.specs.declared.record_reader.FormatVersion.{FormatVersion}
use Rattle.xet_records.specs.declared.xorb_structs.MDBXorbInfo.{MDBXorbInfo}
use Rattle.xet_records.specs.FileRecord.{file_records, file_records_in, FitsRecord}
use Rattle.xet_records.specs.RecordKind.{RecordKind}
use Rattle.xet_records.specs.View.{all_with_aux_if}
use Rattle.xet_records.specs.XorbRecord.{xorb_records}
use Rattle.xet_records.proofs.Lengths.{length-all_record_bytes}
use Rattle.xet_records.proofs.RecordKinds.{KindLaws, xorb_laws, length-record_bytes}
use Rattle.xet_shards.specs.declared.shard_format.ends.options.LayoutOptions.{LayoutOptions}
use Rattle.xet_shards.specs.Export.KeyedExport.{exported_bytes, keyed_xorbs, xorbs_after}
use Rattle.xet_shards.specs.Read.SectionReading.{IsSection}
use Rattle.xet_shards.specs.Write.Layout.{if_included, layout_of}
use Rattle.xet_shards.specs.Write.Section.{total_rows}
use Rattle.xet_shards.specs.Write.Tables.{chunk_table}
use Rattle.xet_shards.specs.Write.WithOptions.{FitsSection}
use Rattle.xet_shards.proofs.Content.FilesWithoutAux.{rows-without_aux, section-with_aux_if}
use Rattle.xet_shards.proofs.Content.KeyedHashes.{keyed_total}
use Rattle.xet_shards.proofs.ShardInMemory.Files.{length-le-rows}
use Rattle.xet_shards.proofs.Write.Sections.{fits_ever}
use Rattle.xet_shards.proofs.Write.XorbLayouts.{length-with_options, length-chunk_table, xorb_rows-chunks}
use Rattle.shard_bytes.specs.ResultSizes.{IsRewriteSize}

-- bytes have at least 48 for each row of a section that they begin with, and for its bookend
section_size : {H R : Type 0} (K : RecordKind H R) → KindLaws K → (bytes : List ℕ) (stored : List R) → IsSection K bytes stored → 48 * (total_rows K stored + 1) ≤ length bytes
section_size K laws bytes stored is =
    omega (
      arith,
      ap length is.records.bytes_are,
      length-append (flat_map K.record_bytes stored) is.rest,
      length-all_record_bytes K.record_bytes K.row_count K.IsStored (length-record_bytes K laws) stored is.records.are_stored,
      ap length is.bookend.bytes_are,
      length-append (K.header_bytes is.bookend.header) is.bookend.rest,
      laws.header_size is.bookend.header,
    )

-- what is included is no more than what may be
if_included-size : {X : Type 0} (b : Bool) (xs : List X) → length (if_included b xs) ≤ length xs
if_included-size true xs = omega arith
if_included-size false xs = omega arith

if_included-rows : (b : Bool) (files : List MDBFileInfo) → total_rows file_records (if_included b files) ≤ total_rows file_records files
if_included-rows true files = omega arith
if_included-rows false files = omega arith

with_aux_if-rows : (aux : Bool) (files : List MDBFileInfo) → total_rows file_records (all_with_aux_if aux files) ≤ total_rows file_records files
with_aux_if-rows true files = omega arith
with_aux_if-rows false files = rows-without_aux files

if_included-fits : (b : Bool) (files : List MDBFileInfo) → All FitsRecord files → All FitsRecord (if_included b files)
if_included-fits true files fit = fit
if_included-fits false files fit = λ k r below. absurd (omega (arith, below))

-- both sections of these records are in the bytes, one after the other
module _ (bytes : List ℕ) (version : FormatVersion) (files : List MDBFileInfo) (xorbs : List MDBXorbInfo) (file_section : IsSection (file_records_in version) (drop 48 bytes) files)
    (xorb_section : IsSection xorb_records (drop (xorbs_after files) bytes) xorbs) where
  pub rows_there : 48 * (total_rows file_records files + total_rows xorb_records xorbs + 3) ≤ length bytes
  rows_there =
      omega (arith, length-drop (xorbs_after files) bytes, section_size xorb_records xorb_laws (drop (xorbs_after files) bytes) xorbs xorb_section)

  pub files_fit : FitsSection file_records files
  files_fit = fits_ever file_records version files (record { stored = file_section.records.are_stored; rows = file_section.records.rows })

  -- no more rows are written, and at most 16 bytes of tables for each
  rewrite_size : (others : List MDBFileInfo) (keyed : List MDBXorbInfo) (options : LayoutOptions) → All FitsRecord others → total_rows file_records others ≤ total_rows file_records files
      → total_rows xorb_records keyed ≤ total_rows xorb_records xorbs → IsRewriteSize bytes (length (layout_of others keyed options))
  rewrite_size others keyed options fit fewer_files fewer_xorbs = omega (
    arith,
    length-with_options others keyed options fit,
    if_included-size options.file_table others,
    if_included-size options.xorb_table keyed,
    length-chunk_table keyed,
    xorb_rows-chunks keyed,
    chunk_rows options.chunk_table,
    length-le-rows others,
    fewer_files,
    fewer_xorbs,
    rows_there,
  )
    where
      chunk_rows : (b : Bool) → length (if_included b (chunk_table keyed)) ≤ length (chunk_table keyed)
      chunk_rows b = if_included-size b (chunk_table keyed)

  pub size_of_export : (aux : Bool) (options : LayoutOptions) → IsRewriteSize bytes (length (exported_bytes (all_with_aux_if aux files) xorbs options))
  size_of_export aux options =
      let wanted = all_with_aux_if aux files in
      rewrite_size (if_included options.file_table wanted) (keyed_xorbs options.key xorbs) options
      (if_included-fits options.file_table wanted (λ k r below. ((section-with_aux_if aux files files_fit).stored k r below).widths))
      (omega (arith, if_included-rows options.file_table wanted, with_aux_if-rows aux files))
      (omega (arith, keyed_total options.key xorbs))

  pub size_of_version : (options : LayoutOptions) → IsRewriteSize bytes (length (layout_of files xorbs options))
  size_of_version options = rewrite_size files xorbs options (λ k r below. (files_fit.stored k r below).widths) (omega arith) (omega arith)
