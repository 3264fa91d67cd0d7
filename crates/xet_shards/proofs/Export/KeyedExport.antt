-- The turns of the loops that read and write the sections of an export, and its parts together.
use Rattle.std.proofs.Common.{◌≡◌, ◌≢◌, Bool, true, false, inl, inr, Ok, Err, ℕ, ◌+◌, ◌*◌, ◌^◌, ◌≤◌, List, [], ◌∷◌, ◌++◌, length, map, flat_map, drop, Option, None, Some, refl, sym, ap, ◌∙◌, subst, arith, append-nil}
use Rattle.std.specs.Prelude.{◌↔◌, IsTrue, All, MatchResult}
use Rattle.std.specs.declared.result.Result.{Result}
use Rattle.std.proofs.lemmas.Bool.{both_ways}
use Rattle.std.specs.Io.KnownBytes.{Appends}
use Rattle.std.proofs.KnownBytes.{Appends-trans}
use Rattle.std.proofs.lemmas.List.{drop-drop, length-append, map-id}
use Rattle.std.proofs.lemmas.List.Elements.{All-append, All-cons, All-nil}
use Rattle.std.proofs.lemmas.List.Sums.{sum_by-append, sum_by-cons, sum_by_push}
use Rattle.std.proofs.lemmas.List.Concat.{flat_map_single}
use Rattle.std.proofs.lemmas.Grind.{flat_map-append}
use Rattle.xet_base.specs.declared.error.CoreError.{CoreError}
use Rattle.xet_base.specs.Errors.{CoreResult, IsWriteError}
use Rattle.xet_base.specs.KeyedHash.{no_key}
use Rattle.xet_base.specs.Source.{Source, ReadsBytes, after_read, bytes_left}
use Rattle.xet_base.specs.InputLaws.{failed_after, after_read-after_read}
use Rattle.xet_base.proofs.Reading.{ReadsBytes-consumes}
use Rattle.xet_records.specs.declared.file_structs.MDBFileInfo.{MDBFileInfo}
use Rattle.xet_records.specs.declared.xorb_structs.MDBXorbInfo.{MDBXorbInfo}
use Rattle.xet_records.specs.RecordKind.{RecordKind, in_version, KindLaws}
use Rattle.xet_records.specs.Reading.{ReadsBookend, CountsRecord, ReadsNextRecord, HasRead}
use Rattle.xet_records.specs.ViewReading.{CountsStored, ReadsNextView}
use Rattle.xet_records.specs.FileRecord.{file_records, file_records_in, FitsRecord}
use Rattle.xet_records.specs.View.{with_aux_if, all_with_aux_if}
use Rattle.xet_records.specs.declared.record_reader.FormatVersion.{FormatVersion}
use Rattle.xet_records.specs.declared.record_reader.FormatVersion.TheVariants.{V3}
use Rattle.xet_records.specs.Version.{IsVersion, version_of}
use Rattle.xet_shards.proofs.Write.Sections.{fits_ever}
use Rattle.xet_records.specs.XorbRecord.{xorb_records, xorb_record_bytes}
use Rattle.xet_shards.specs.declared.shard_format.ends.footer.MDBShardFileFooter.{MDBShardFileFooter}
use Rattle.xet_shards.specs.declared.shard_format.ends.header.MDBShardFileHeader.{MDBShardFileHeader}
use Rattle.xet_shards.specs.declared.shard_format.ends.info.MDBShardInfo.{MDBShardInfo}
use Rattle.xet_shards.specs.Write.Section.{total_rows, section_bytes}
use Rattle.xet_shards.specs.Write.Tables.{chunk_table, table_bytes, chunk_table_bytes}
use Rattle.xet_shards.specs.Write.Layout.{LayoutOptions, if_included, shard_header_bytes, header_value, shard_footer_bytes, footer_value, layout_of}
use Rattle.xet_shards.specs.Write.Written.{end_of_layout}
use Rattle.xet_shards.specs.Write.WithOptions.{FitsSection}
use Rattle.xet_shards.specs.Ends.Ends.{HasHeader, FitsFooter}
use Rattle.xet_shards.specs.Read.SectionReading.{IsSection, SectionNotStreamed}
use Rattle.xet_shards.specs.Steps.SectionReadingSteps.{RecordFails}
use Rattle.xet_shards.specs.Export.KeyedExport.{ExportsWith, ExportFails, ExportCase, OutcomeOfExport, CannotExport, ExpiresTooLate, BadSection, xorbs_after, keyed_xorb, keyed_xorbs}
use Rattle.xet_shards.specs.Steps.KeyedExportSteps.{ReadsThroughSection, ExportsSection, WritingFails, ExportsNoSection, HasExported, exported_file, exported_xorb}
use Rattle.xet_shards.specs.Export.KeyedExport.ExportCase.{no_sections, not_written}
use Rattle.xet_shards.specs.Export.KeyedExport.SectionsCase.{bad_files, bad_xorbs}
use Rattle.xet_shards.specs.Read.SectionsBehindHeader.{HasSections}
use Rattle.xet_shards.proofs.Ends.EndsUnique.{ends_of_layout}
use Rattle.xet_shards.proofs.ShardInMemory.Files.{length-le-rows}
use Rattle.xet_shards.proofs.Content.KeyedHashes.{keyed_section}
use Rattle.xet_shards.proofs.Content.FilesWithoutAux.{section-with_aux_if}
use Rattle.xet_shards.proofs.Write.Layouts.{length-shard_header_bytes, length-shard_footer_bytes}
use Rattle.xet_shards.proofs.Ends.Loading.{header_of}
use Rattle.xet_shards.proofs.Read.SectionReading.{section_passed, section_fails}
use Rattle.xet_shards.proofs.ShardInMemory.Walks.{flat_map-push}
use Rattle.xet_shards.proofs.Write.Written.{whole_layout}
use Rattle.xet_shards.proofs.Write.XorbLayouts.{length-with_options, xorb_rows-chunks, length-chunk_table}

-- records were written one after another, and collected
pub record SectionWritten {H R : Type 0} (K : RecordKind H R) (Collected : List R → Type 0) (before after : Option (List ℕ)) (written : List R) : Type 0 where
  pub collected : Collected written
  pub bytes : Appends before after (flat_map K.record_bytes written)

if_included-size : {X : Type 0} (b : Bool) (xs : List X) → length (if_included b xs) ≤ length xs
if_included-size true xs = omega arith
if_included-size false xs = omega arith

if_included-section : (b : Bool) (files : List MDBFileInfo) → FitsSection file_records files → FitsSection file_records (if_included b files)
if_included-section true files fits = fits
if_included-section false files fits = record { stored = All-nil file_records.IsStored; rows = omega arith }

-- what an export writes of files is all of them or none, and of xorbs all, under the key
pub files_exported : (aux : Bool) (options : LayoutOptions) (files : List MDBFileInfo) → flat_map (exported_file aux options) files ≡ if_included options.file_table (all_with_aux_if aux files)
files_exported aux options files = by_table options.file_table files ∙ ap (if_included options.file_table) (each aux files)
  where
    by_table : (b : Bool) (rs : List MDBFileInfo) → flat_map (λ r. if_included b (with_aux_if aux r ∷ [])) rs ≡ if_included b (map (with_aux_if aux) rs)
    by_table true [] = refl
    by_table true (r ∷ rs) = ap (λ xs. with_aux_if aux r ∷ xs) (by_table true rs)
    by_table false [] = refl
    by_table false (r ∷ rs) = by_table false rs

    each : (b : Bool) (rs : List MDBFileInfo) → map (with_aux_if b) rs ≡ all_with_aux_if b rs
    each true rs = map-id rs
    each false rs = refl

pub xorbs_exported : (aux : Bool) (options : LayoutOptions) (xorbs : List MDBXorbInfo) → flat_map (exported_xorb aux options) xorbs ≡ keyed_xorbs options.key xorbs
xorbs_exported aux options xorbs = flat_map_single (keyed_xorb options.key) xorbs

-- a xorb that was read is as it is stored
xorb_as_stored : (version : FormatVersion) (Took : List ℕ → Type 0) (left after : ℕ) (r : MDBXorbInfo)
    → CountsRecord (in_version xorb_records version) Took left after r → CountsStored (in_version xorb_records version) Took left after r
xorb_as_stored version Took left after r next = record {
  is_stored = subst (in_version xorb_records version).IsStored next.reads.returned next.reads.is_stored;
  taken = subst (λ (x : MDBXorbInfo). Took (xorb_record_bytes x)) next.reads.returned next.reads.taken;
  rows = next.rows;
}

-- another way to say what a result is
pub result_as : {T E : Type 0} (r : Result T E) (P Q : T → Type 0) (F G : E → Type 0) → ((v : T) → P v → Q v) → ((e : E) → F e → G e) → MatchResult r P F → MatchResult r Q G
result_as (Ok v) P Q F G ok err holds = ok v holds
result_as (Err e) P Q F G ok err holds = err e holds

-- outcomes of exports
module _ {S W : Type 0} {aux : Bool} {meaning : S → Source} {contents : W → Option (List ℕ)} {source_old source_new : S} {writer_old writer_new : W} {r : CoreResult ℕ} (now valid : ℕ) where
  -- with its options, if it does not expire too late
  pub export_in_time : {options same : LayoutOptions} → (options ≡ same) × (¬ ExpiresTooLate now valid)
      → MatchResult r (ExportsWith aux options (meaning source_old) (meaning source_new) (contents writer_old) (contents writer_new)) (ExportFails (meaning source_old) (meaning source_new))
      → OutcomeOfExport (ExpiresTooLate now valid) aux same meaning contents source_old source_new writer_old writer_new r
  export_in_time (is, in_time) exports =
      subst (λ options. OutcomeOfExport (ExpiresTooLate now valid) aux options meaning contents source_old source_new writer_old writer_new r) is
      (record { written = result_as r _ _ _ _ (λ n made. made) (λ e fails. inr fails) exports; untouched = λ late. absurd (in_time late) })

  -- and of a shard whose chunk hashes are not keyed
  pub export_unkeyed : (info : MDBShardInfo) {options : LayoutOptions} {b : Bool} → IsTrue b ↔ (info.metadata.chunk_hash_hmac_key ≢ no_key) → b ≡ false
      → OutcomeOfExport (ExpiresTooLate now valid) aux options meaning contents source_old source_new writer_old writer_new r
      → OutcomeOfExport (CannotExport info now valid) aux options meaning contents source_old source_new writer_old writer_new r
  export_unkeyed info {options} {b} is unkeyed outcome = record {
    written = result_as r _ _ _ _ (λ n made. made) (λ e fails. elim fails [
      | inl late ↦ inl (late.0, inr late.1)
      | inr other ↦ inr other
    ]) outcome.written;
    untouched = λ cannot. outcome.untouched (elim cannot [
      | inl keyed ↦ absurd (both_ways b unkeyed (is.1 keyed))
      | inr late ↦ late
    ]);
  }

pub next_xorb : (version : FormatVersion) (Took : List ℕ → Type 0) (left after : ℕ) (next : Option MDBXorbInfo)
    → ReadsNextRecord (in_version xorb_records version) Took left after next
    → ReadsNextView (in_version xorb_records version) (λ (r : MDBXorbInfo). r) Took left after next
next_xorb version Took left after None read = read
next_xorb version Took left after (Some r) read = xorb_as_stored version Took left after r read

-- what was written of the records that were read: no more rows than these have, and one record more
module _ {H R : Type 0} (K : RecordKind H R) (exports : R → List R) where
  pub fewer_rows : ((r : R) → total_rows K (exports r) ≤ K.row_count r) → (stored : List R) → total_rows K (flat_map exports stored) ≤ total_rows K stored
  fewer_rows few [] = omega arith
  fewer_rows few (r ∷ rs) = omega (arith, sum_by-append K.row_count (exports r) (flat_map exports rs), sum_by-cons K.row_count r rs, few r, fewer_rows few rs)

  pub more_written : (Old New : List R → Type 0) (start now new : Option (List ℕ)) (stored : List R) (r : R) → SectionWritten K Old start now (flat_map exports stored)
      → ((before : List R) → Old before → New (before ++ exports r)) → Appends now new (flat_map K.record_bytes (exports r))
      → SectionWritten K New start new (flat_map exports (stored ++ r ∷ []))
  more_written Old New start now new stored r before adds appends =
      let front = flat_map exports stored in
      subst (SectionWritten K New start new) (sym (flat_map-push exports stored r)) (record {
        collected = adds front before.collected;
        bytes = subst (Appends start new) (sym (flat_map-append K.record_bytes front (exports r))) (Appends-trans start now new _ _ before.bytes appends);
      })

-- a section that was exported, where what becomes of its records has another name
pub record SectionExported {H R : Type 0} (K : RecordKind H R) (version : FormatVersion) (out : List R → List R) (Collected : List R → Type 0) (old new : Source) (before after : Option (List ℕ))
    : Type 0 where
  pub stored : List R
  pub passed : ReadsThroughSection (in_version K version) old new stored
  pub collected : Collected (out stored)
  pub written : Appends before after (section_bytes K (out stored))

pub section_exported : {H R : Type 0} {K : RecordKind H R} {version : FormatVersion} {exports : R → List R} (out : List R → List R) → ((rs : List R) → flat_map exports rs ≡ out rs)
    → {Collected : List R → Type 0} {old new : Source} {before after : Option (List ℕ)} → ExportsSection K version exports Collected old new before after
    → SectionExported K version out Collected old new before after
section_exported {K = K} out same {Collected} {old} {new} {before} {after} e = record {
  stored = e.stored;
  passed = e.passed;
  collected = subst Collected (same e.stored) e.collected;
  written = subst (λ rs. Appends before after (section_bytes K rs)) (same e.stored) e.written;
}

module _ {H R : Type 0} (K : RecordKind H R) (laws : KindLaws K) where
  pub one_exported : (First Next Both : List ℕ → Type 0) (Made After : List R → Type 0) (left after : ℕ) (r : R) → ((xs ys : List ℕ) → First xs → Next ys → Both (xs ++ ys))
      → (before : HasExported K First Made left) → CountsStored K Next left after r → After (before.stored ++ r ∷ []) → HasExported K Both After after
  one_exported First Next Both Made After left after r joins before next made = record {
    stored = before.stored ++ r ∷ [];
    are_stored = All-append K.IsStored before.stored (r ∷ []) before.are_stored (All-cons K.IsStored r [] next.is_stored (All-nil K.IsStored));
    taken = subst Both (ap (λ bs. flat_map K.record_bytes before.stored ++ bs) (sym (append-nil (K.record_bytes r))) ∙ sym (flat_map-append K.record_bytes before.stored (r ∷ [])))
        (joins (flat_map K.record_bytes before.stored) (K.record_bytes r) before.taken next.taken);
    rows = omega (arith, sum_by_push K.row_count before.stored r, before.rows, next.rows, laws.rows r next.is_stored);
    made = made;
  }

  -- its rows fit beside those of the records before it
  pub next_fits : (First Next : List ℕ → Type 0) (Made : List R → Type 0) (left after : ℕ) (r : R) (before : HasExported K First Made left) → CountsStored K Next left after r
      → total_rows K before.stored + K.row_count r ≤ 4294967295
  next_fits First Next Made left after r before next = omega (arith, before.rows, next.rows, laws.rows r next.is_stored)

  abbrev read_of : (Took : List ℕ → Type 0) (Made : List R → Type 0) (left : ℕ) (before : HasExported K Took Made left) → HasRead K Took (map K.as_read before.stored) left
  read_of Took Made left before = record { stored = before.stored; are_stored = before.are_stored; taken = before.taken; rows = before.rows; returned = refl }

  module _ (start now : Source) (Made : List R → Type 0) (left : ℕ) (before : HasExported K (ReadsBytes start now) Made left) where
    pub all_passed : (new : Source) → ReadsBookend K (ReadsBytes now new) → ReadsThroughSection K start new before.stored
    all_passed new last =
        let passed = section_passed K laws start now (map K.as_read before.stored) left (read_of (ReadsBytes start now) Made left before) new last in
        record { section = passed.0; after = passed.1 }

    pub not_passed : (new : Source) (e : CoreError) → RecordFails K left now new e → SectionNotStreamed K start new e
    not_passed new e fails = section_fails K laws start now (map K.as_read before.stored) left (read_of (ReadsBytes start now) Made left before) new e fails

-- the writer failed after bytes that were read
pub writing_failed : (old new : Source) (taken : List ℕ) (e : CoreError) → ReadsBytes old new taken → IsWriteError e → WritingFails old new e
writing_failed old new taken e read cause = record {
  bytes = ap (λ (s : Source). s.bytes) read.after;
  seeks = ap (λ (s : Source). s.seeks) read.after;
  failures = ap (λ (s : Source). s.failures) read.after;
  cause = cause;
}

-- what is left after some bytes
left_after : (s : Source) (n : ℕ) → bytes_left (after_read s n) ≡ drop n (bytes_left s)
left_after s n = sym (drop-drop n s.at s.bytes)

-- a section was not read or not written
section_not_exported : {H R : Type 0} (K : RecordKind H R) (version : FormatVersion) (old mid new : Source) (n : ℕ) (e : CoreError) → mid ≡ after_read old n → HasHeader (bytes_left old)
    → (BadSection (in_version K version) (bytes_left mid) e → ExportCase (bytes_left old) e) → ExportsNoSection K version mid new e → ExportFails old new e
section_not_exported K version old mid new n e at header bad (inl fails) = record {
  bytes = fails.bytes ∙ ap (λ (s : Source). s.bytes) at;
  seeks = fails.seeks ∙ ap (λ (s : Source). s.seeks) at;
  cause = failed_after (BadSection (in_version K version) (bytes_left mid)) (ExportCase (bytes_left old)) old mid new e (ap (λ (s : Source). s.failures) at) bad fails.cause;
}
section_not_exported K version old mid new n e at header bad (inr fails) = record {
  bytes = fails.bytes ∙ ap (λ (s : Source). s.bytes) at;
  seeks = fails.seeks ∙ ap (λ (s : Source). s.seeks) at;
  cause = inr (fails.failures ∙ ap (λ (s : Source). s.failures) at, not_written header fails.cause);
}

-- the layout ends after the footer
pub footer_last : (files : List MDBFileInfo) (xorbs : List MDBXorbInfo) (options : LayoutOptions) → length (layout_of files xorbs options) ≡ (footer_value files xorbs options).footer_offset + 200
unfolding layout_of
footer_last files xorbs options =
    let header = shard_header_bytes (header_value options.version) in
    let footer = footer_value files xorbs options in
    let sections = (header ++ section_bytes file_records files) ++ section_bytes xorb_records xorbs in
    let file_table = if_included options.file_table (table_bytes file_records files) in
    let xorb_table = if_included options.xorb_table (table_bytes xorb_records xorbs) in
    let chunks = if_included options.chunk_table (chunk_table_bytes xorbs) in
    omega (
      arith,
      length-append (((sections ++ file_table) ++ xorb_table) ++ chunks) (shard_footer_bytes footer),
      length-append ((sections ++ file_table) ++ xorb_table) chunks,
      length-append (sections ++ file_table) xorb_table,
      length-append sections file_table,
      length-append (header ++ section_bytes file_records files) (section_bytes xorb_records xorbs),
      length-append header (section_bytes file_records files),
      length-shard_header_bytes (header_value options.version),
      length-shard_footer_bytes footer refl,
    )

layout_small : (files : List MDBFileInfo) (xorbs : List MDBXorbInfo) (options : LayoutOptions) → FitsSection file_records files → FitsSection xorb_records xorbs
    → length (layout_of files xorbs options) ≤ 2 ^ 50
layout_small files xorbs options files_fit xorbs_fit = omega (
  arith,
  length-with_options files xorbs options (λ k r below. (files_fit.stored k r below).widths),
  if_included-size options.file_table files,
  if_included-size options.xorb_table xorbs,
  if_included-size options.chunk_table (chunk_table xorbs),
  length-le-rows files,
  xorb_rows-chunks xorbs,
  length-chunk_table xorbs,
  files_fit.rows,
  xorbs_fit.rows,
)

-- after the header
module _ {old s1 : Source} (h : MDBShardFileHeader) (taken : ReadsBytes old s1 (shard_header_bytes h)) (two : IsVersion h.version) where
  abbrev version : FormatVersion
  version = version_of h.version

  abbrev header_there : HasHeader (bytes_left old)
  header_there = header_of (bytes_left old) (bytes_left s1) h (ReadsBytes-consumes old s1 (shard_header_bytes h) taken) two

  at_files : s1 ≡ after_read old 48
  at_files = taken.after ∙ ap (after_read old) (length-shard_header_bytes h)

  files_left : bytes_left s1 ≡ drop 48 (bytes_left old)
  files_left = ap bytes_left at_files ∙ left_after old 48

  pub files_not_exported : (new : Source) (e : CoreError) → ExportsNoSection file_records version s1 new e → ExportFails old new e
  files_not_exported new e why =
      section_not_exported file_records version old s1 new 48 e at_files header_there
      (λ bad. no_sections (bad_files header_there (subst (λ bs. BadSection (file_records_in version) bs e) files_left bad))) why

  pub header_not_written : (e : CoreError) → IsWriteError e → ExportFails old s1 e
  header_not_written e cause = files_not_exported s1 e (inr (record { bytes = refl; seeks = refl; failures = refl; cause = cause }))

  -- after the files
  module _ {s2 : Source} {files : List MDBFileInfo} (passed : ReadsThroughSection (file_records_in version) s1 s2 files) where
    file_section : IsSection (file_records_in version) (drop 48 (bytes_left old)) files
    file_section = subst (λ bs. IsSection (file_records_in version) bs files) files_left passed.section

    at_xorbs : s2 ≡ after_read old (xorbs_after files)
    at_xorbs =
        let n = 48 * (total_rows file_records files + 1) in
        let sum : 48 + 48 * (total_rows file_records files + 1) ≡ xorbs_after files = omega arith in
        passed.after ∙ ap (λ s. after_read s n) at_files ∙ after_read-after_read old 48 n ∙ ap (after_read old) sum

    xorbs_left : bytes_left s2 ≡ drop (xorbs_after files) (bytes_left old)
    xorbs_left = ap bytes_left at_xorbs ∙ left_after old (xorbs_after files)

    pub xorbs_not_exported : (new : Source) (e : CoreError) → ExportsNoSection xorb_records V3 s2 new e → ExportFails old new e
    xorbs_not_exported new e why =
        section_not_exported xorb_records V3 old s2 new (xorbs_after files) e at_xorbs header_there
        (λ bad. no_sections (bad_xorbs header_there files file_section (subst (λ bs. BadSection xorb_records bs e) xorbs_left bad))) why

    -- after the xorbs
    module _ {s3 : Source} {xorbs : List MDBXorbInfo} (rest : ReadsThroughSection xorb_records s2 s3 xorbs) where
      pub sections_there : HasSections (bytes_left old) files xorbs
      sections_there = record { header = header_there; file_section = file_section; xorb_section = subst (λ bs. IsSection xorb_records bs xorbs) xorbs_left rest.section }

      at_end : s3 ≡ after_read old (xorbs_after files + 48 * (total_rows xorb_records xorbs + 1))
      at_end =
          let n = 48 * (total_rows xorb_records xorbs + 1) in
          rest.after ∙ ap (λ s. after_read s n) at_xorbs ∙ after_read-after_read old (xorbs_after files) n

      pub end_not_written : (e : CoreError) → IsWriteError e → ExportFails old s3 e
      end_not_written e cause = xorbs_not_exported s3 e (inr (record {
        bytes = ap (λ (s : Source). s.bytes) rest.after;
        seeks = ap (λ (s : Source). s.seeks) rest.after;
        failures = ap (λ (s : Source). s.failures) rest.after;
        cause = cause;
      }))

      -- what is written of them
      module _ (aux : Bool) (options : LayoutOptions) where
        abbrev files_out : List MDBFileInfo
        files_out = if_included options.file_table (all_with_aux_if aux files)

        abbrev xorbs_out : List MDBXorbInfo
        xorbs_out = keyed_xorbs options.key xorbs

        files_fit : FitsSection file_records files_out
        files_fit = if_included-section options.file_table (all_with_aux_if aux files)
            (section-with_aux_if aux files (fits_ever file_records version files (record { stored = file_section.records.are_stored; rows = file_section.records.rows })))

        xorbs_fit : FitsSection xorb_records xorbs_out
        xorbs_fit = keyed_section options.key xorbs (record { stored = rest.section.records.are_stored; rows = rest.section.records.rows })

        pub widths_out : All FitsRecord files_out
        widths_out = λ k r below. (files_fit.stored k r below).widths

        pub export_small : (footer : MDBShardFileFooter) → footer ≡ footer_value files_out xorbs_out options → footer.footer_offset + 200 ≤ 2 ^ 50
        export_small footer is =
            omega (arith, footer_last files_out xorbs_out options, layout_small files_out xorbs_out options files_fit xorbs_fit, ap (λ (f : MDBShardFileFooter). f.footer_offset) is)

        pub all_exported : options.version ≡ V3 → {footer : MDBShardFileFooter} (start after_header after_files after_xorbs end : Option (List ℕ)) {n : ℕ}
            → footer ≡ footer_value files_out xorbs_out options → FitsFooter footer → n ≡ footer.footer_offset + 200
            → Appends start after_header (shard_header_bytes (header_value options.version)) → Appends after_header after_files (section_bytes file_records files_out)
            → Appends after_files after_xorbs (section_bytes xorb_records xorbs_out) → Appends after_xorbs end (end_of_layout files_out xorbs_out options)
            → ExportsWith aux options old s3 start end n
        all_exported is_3 start after_header after_files after_xorbs end is fits count header_out files_bytes xorbs_bytes end_bytes = record {
          files = files;
          xorbs = xorbs;
          header = sections_there.header;
          file_section = sections_there.file_section;
          xorb_section = sections_there.xorb_section;
          read = at_end;
          written = whole_layout start after_header after_files after_xorbs end files_out xorbs_out options header_out files_bytes xorbs_bytes end_bytes;
          count = count ∙ ap (λ (f : MDBShardFileFooter). f.footer_offset + 200) is ∙ sym (footer_last files_out xorbs_out options);
          ends = ends_of_layout files_out xorbs_out options (subst FitsFooter is fits);
          with_options = record { files_fit = subst (λ v. FitsSection (file_records_in v) files_out) (sym is_3) files_fit; xorbs_fit = xorbs_fit; bytes_are = refl; footer_is = refl };
        }
