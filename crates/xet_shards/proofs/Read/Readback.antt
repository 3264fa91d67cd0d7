-- What is read from the bytes of a shard.
use Rattle.std.proofs.Common.{◌≡◌, ◌⊎◌, Ok, Err, ℕ, List, [], ◌∷◌, ◌++◌, ◌+◌, length, map, flat_map, drop, Option, refl, sym, ap, ◌∙◌, subst, arith, rules}
use Rattle.std.specs.Prelude.{All, MatchResult}
use Rattle.std.specs.FinMap.{values}
use Rattle.std.specs.declared.result.Result.{Result}
use Rattle.std.specs.declared.vec.Vec.{Vec}
use Rattle.std.proofs.lemmas.List.{append_assoc, length-append}
use Rattle.std.proofs.lemmas.List.Elements.{All-drop}
use Rattle.xet_base.specs.declared.error.CoreError.{CoreError}
use Rattle.xet_base.specs.declared.error.CoreError.TheVariants.{OutOfMemory}
use Rattle.xet_base.specs.Source.{Source, DeviceFailure, bytes_left}
use Rattle.xet_base.proofs.Lists.{rest_is}
use Rattle.xet_records.specs.declared.file_structs.rows.HashRow.{HashRow}
use Rattle.xet_records.specs.declared.record_reader.FormatVersion.{FormatVersion}
use Rattle.xet_records.specs.declared.file_structs.MDBFileInfo.{MDBFileInfo}
use Rattle.xet_records.specs.declared.xorb_structs.MDBXorbInfo.{MDBXorbInfo}
use Rattle.xet_records.specs.RecordKind.{RecordKind}
use Rattle.xet_records.proofs.RecordKinds.{KindLaws, xorb_laws, version_known}
use Rattle.xet_shards.specs.declared.shard_format.ends.info.MDBShardInfo.{MDBShardInfo}
use Rattle.xet_shards.specs.Write.WrittenShard.{IsBytesOf}
use Rattle.xet_records.specs.FileRow.{header_row, clear}
use Rattle.xet_records.specs.Part.{rows_of, with_parts}
use Rattle.xet_records.proofs.Parts.{All-part, with_parts-rows_of}
use Rattle.xet_records.specs.FileRecord.{file_record_bytes, file_bookend, as_read, IsWellFormed, file_records, file_records_in}
use Rattle.xet_records.specs.XorbRow.{xorb_header_row}
use Rattle.xet_records.specs.XorbRecord.{xorb_record_bytes, xorb_bookend, xorb_records}
use Rattle.xet_shards.specs.Content.Shard.{Shard, IsShard}
use Rattle.xet_shards.specs.Write.Section.{section_bytes}
use Rattle.xet_shards.specs.Write.Tables.{table_bytes, chunk_table_bytes}
use Rattle.xet_shards.specs.Write.Layout.{LayoutOptions, if_included, shard_header_bytes, header_value, shard_footer_bytes, footer_value, layout_of, layout_in, info_value_in, plain_options_in}
use Rattle.xet_shards.specs.Read.SectionReading.{files_of, IsSection, StreamsSection, SectionNotStreamed, SectionFailure, IsRefusedSection, IsTruncatedSection}
use Rattle.xet_shards.proofs.Write.Sections.{FitsSection, files_laws, section_there, files_fit_in, xorbs_fit}
use Rattle.xet_shards.proofs.Write.Layouts.{length-shard_header_bytes}
use Rattle.xet_shards.proofs.Read.SectionUnique.{only_list, section_or_passes, section_or_cut}

-- reserved words that are zero stay as they are
clear_rows : (rows : List HashRow) → All (λ row. row._unused ≡ 0 ∷ 0 ∷ []) rows → map clear rows ≡ rows
clear_rows [] are = refl
clear_rows (row ∷ rows) are =
    λ i. record { hash = row.hash; _unused = sym (are 0 row (omega arith)) i } ∷ clear_rows rows (All-drop (λ (other : HashRow). other._unused ≡ 0 ∷ 0 ∷ []) 1 (row ∷ rows) are) i

-- so a well-formed record is returned as it is
pub one_as_read : (r : MDBFileInfo) → IsWellFormed r → as_read r ≡ r
one_as_read r good =
    (λ i. with_parts r.metadata r.segments (λ part. clear_rows (rows_of part r) (All-part (λ row. row._unused ≡ 0 ∷ 0 ∷ []) (λ p. rows_of p r) good.clear part) i)) ∙ with_parts-rows_of r

pub all_as_read : (rs : List MDBFileInfo) → All IsWellFormed rs → map as_read rs ≡ rs
all_as_read [] good = refl
all_as_read (r ∷ rs) good = λ i. one_as_read r (good 0 r (omega arith)) i ∷ all_as_read rs (All-drop IsWellFormed 1 (r ∷ rs) good) i

-- a shard's bytes from the file section on
module _ (files : List MDBFileInfo) (xorbs : List MDBXorbInfo) (options : LayoutOptions) where
  abbrev pub after_xorbs : List ℕ
  after_xorbs =
      if_included options.file_table (table_bytes file_records files) ++ (if_included options.xorb_table (table_bytes xorb_records xorbs)
      ++ (if_included options.chunk_table (chunk_table_bytes xorbs) ++ shard_footer_bytes (footer_value files xorbs options)))

  abbrev pub after_section : List ℕ
  after_section = section_bytes xorb_records xorbs ++ after_xorbs

  pub layout_from_48 : layout_of files xorbs options ≡ shard_header_bytes (header_value options.version) ++ (section_bytes file_records files ++ after_section)
  unfolding layout_of
  layout_from_48 = simp (append_assoc)

  pub section_at_48 : drop 48 (layout_of files xorbs options) ≡ flat_map file_record_bytes files ++ (header_row file_bookend ++ after_section)
  unfolding section_bytes
  section_at_48 =
      rest_is 48 (layout_of files xorbs options) (shard_header_bytes (header_value options.version)) (section_bytes file_records files ++ after_section) (length-shard_header_bytes (header_value options.version)) layout_from_48
      ∙ append_assoc (flat_map file_record_bytes files) (header_row file_bookend) after_section

  pub xorbs_at : drop (48 + length (section_bytes file_records files)) (layout_of files xorbs options) ≡ flat_map xorb_record_bytes xorbs ++ (xorb_header_row xorb_bookend ++ after_xorbs)
  unfolding section_bytes
  xorbs_at =
      rest_is (48 + length (section_bytes file_records files)) (layout_of files xorbs options) (shard_header_bytes (header_value options.version) ++ section_bytes file_records files) after_section
      (length-append (shard_header_bytes (header_value options.version)) (section_bytes file_records files) ∙ ap (λ n. n + length (section_bytes file_records files)) (length-shard_header_bytes (header_value options.version)))
      (layout_from_48 ∙ sym (append_assoc (shard_header_bytes (header_value options.version)) (section_bytes file_records files) after_section))
      ∙ append_assoc (flat_map xorb_record_bytes xorbs) (xorb_header_row xorb_bookend) after_xorbs

  -- both sections are in the bytes, whatever the layout options
  pub file_section_in : FitsSection (file_records_in options.version) files → IsSection (file_records_in options.version) (drop 48 (layout_of files xorbs options)) files
  file_section_in fits = section_there (file_records_in options.version) (files_laws options.version) files fits (drop 48 (layout_of files xorbs options)) after_section section_at_48

  pub xorb_section_in : FitsSection xorb_records xorbs → IsSection xorb_records (drop (48 + length (section_bytes file_records files)) (layout_of files xorbs options)) xorbs
  xorb_section_in fits = section_there xorb_records xorb_laws xorbs fits (drop (48 + length (section_bytes file_records files)) (layout_of files xorbs options)) after_xorbs xorbs_at

pub section_of_shard : (version : FormatVersion) (s : Shard) (expiry : Option ℕ) → FitsSection (file_records_in version) (values s.files)
    → IsSection (file_records_in version) (drop 48 (layout_in version s expiry)) (values s.files)
section_of_shard version s expiry fits = file_section_in (values s.files) (values s.xorbs) (plain_options_in version expiry) fits

pub xorb_section_of_shard : (version : FormatVersion) (s : Shard) (expiry : Option ℕ) → IsShard s
    → IsSection xorb_records (drop (48 + length (section_bytes file_records (values s.files))) (layout_in version s expiry)) (values s.xorbs)
xorb_section_of_shard version s expiry shard = xorb_section_in (values s.files) (values s.xorbs) (plain_options_in version expiry) (xorbs_fit s shard)

-- the file section in the bytes of a shard, read in the version of their header
pub section_written : {s : Shard} {bytes : List ℕ} {info : MDBShardInfo} → (is : IsBytesOf s bytes) → info ≡ info_value_in is.version s is.expiry
    → IsSection (files_of info) (drop info.metadata.file_info_offset bytes) (values s.files)
section_written {s} {bytes} is info_is =
    let there = section_of_shard is.version s is.expiry (files_fit_in is.version s is.shard is.files) in
    let in_bytes = subst (λ bs. IsSection (file_records_in is.version) (drop 48 bs) (values s.files)) (sym is.bytes_are) there in
    let known = subst (λ v. IsSection (file_records_in v) (drop 48 bytes) (values s.files)) (sym (version_known is.version)) in_bytes in
    subst (λ (i : MDBShardInfo). IsSection (files_of i) (drop i.metadata.file_info_offset bytes) (values s.files)) (sym info_is) known

-- the xorb section in them
pub xorb_section_written : {s : Shard} {bytes : List ℕ} {info : MDBShardInfo} → (is : IsBytesOf s bytes) → info ≡ info_value_in is.version s is.expiry
    → IsSection xorb_records (drop info.metadata.xorb_info_offset bytes) (values s.xorbs)
xorb_section_written {s} {bytes} is info_is =
    let there = subst (λ bs. IsSection xorb_records (drop (info_value_in is.version s is.expiry).metadata.xorb_info_offset bs) (values s.xorbs)) (sym is.bytes_are)
    (xorb_section_of_shard is.version s is.expiry is.shard) in
    subst (λ (i : MDBShardInfo). IsSection xorb_records (drop i.metadata.xorb_info_offset bytes) (values s.xorbs)) (sym info_is) there

-- bytes that are a section of records are read as these, unless the device fails or an allocation does
module _ {H R : Type 0} (K : RecordKind H R) (laws : KindLaws K) (old new : Source) (rs : List R) (section : IsSection K (bytes_left old) rs) where
  pub why_not : (e : CoreError) → SectionFailure (IsRefusedSection K) (IsTruncatedSection K) (bytes_left old) old new e → DeviceFailure old new e ⊎ (e ≡ OutOfMemory)
  why_not e cause =
      search (rules, section_or_cut K laws (bytes_left old) rs section, section_or_passes K laws (bytes_left old) rs section)

  pub only_these : (found : List R) → map K.as_read rs ≡ rs → StreamsSection K old new found → found ≡ rs
  only_these found same reads = sym reads.returned ∙ ap (map K.as_read) (only_list K laws (bytes_left old) reads.stored rs reads.section section) ∙ same

  pub whole_read : {Z : Type 0} (r : Result (Vec R Z) CoreError) → map K.as_read rs ≡ rs
      → MatchResult r (λ found. StreamsSection K old new found.items) (SectionNotStreamed K old new)
      → MatchResult r (λ found. found.items ≡ rs) (λ e. DeviceFailure old new e ⊎ (e ≡ OutOfMemory))
  whole_read (Ok found) same reads = only_these found.items same reads
  whole_read (Err e) same fails = why_not e fails.cause
