-- What is written of a shard that was read and changed, and was not written yet.
use Rattle.std.proofs.Common.{◌≡◌, ◌⊎◌, inl, inr, ℕ, Bool, true, false, List, [], ◌∷◌, Ok, Err, if◌then◌else◌, length, map, refl, sym, ap, ◌∙◌, subst}
use Rattle.std.specs.Prelude.{◌&&◌, not, MatchResult}
use Rattle.std.specs.declared.result.Result.{Result}
use Rattle.xet_core_structures.specs.declared.error.CoreError.{CoreError}
use Rattle.xet_core_structures.specs.declared.file_structs.MDBFileInfo.{MDBFileInfo}
use Rattle.xet_core_structures.specs.declared.shard_format.MDBShardInfo.{MDBShardInfo}
use Rattle.xet_core_structures.specs.Ends.{HasHeaderAndFooter}
use Rattle.xet_core_structures.specs.KeyedExport.{keyed_xorbs, CannotExport}
use Rattle.xet_core_structures.specs.Layout.{if_included}
use Rattle.xet_core_structures.specs.View.{as_kept, all_with_aux_if, without_aux}
use Rattle.xet_records.specs.FileRecord.{has_verification}
use Rattle.xet_records.specs.View.{without_verification}
use Rattle.xet_shards.specs.declared.shard_writer.LayoutOptions.{LayoutOptions}
use Rattle.xet_shards.specs.Read.SectionsBehindHeader.{HasSections}
use Rattle.placed_shards.specs.Anew.{HasInstead}
use Rattle.placed_shards.specs.StoredFiles.{files_as}
use Rattle.placed_shards.specs.declared.placed_shard.PlacedShard.{PlacedShard}
use Rattle.xet_core_structures.specs.declared.error.CoreError.TheVariants.{InvalidArguments, OutOfMemory}
use Rattle.xet_core_structures.specs.FileRecord.{file_records}
use Rattle.xet_core_structures.specs.WithOptions.{FitsSection}
use Rattle.xet_records.specs.declared.record_reader.FormatVersion.{FormatVersion}
use Rattle.xet_records.specs.declared.record_reader.FormatVersion.TheVariants.{V2, V3}
use Rattle.placed_shards.specs.Content.{Content, content, HasFilesIn, content_layout}
use Rattle.shard_bytes.specs.declared.export.Export.{Export}
use Rattle.shard_bytes.specs.Exporting.{ExportsBytes, IsExportOf, exported_content, options_of_export}
use Rattle.shard_bytes.specs.ResultSizes.{IsRewriteSize}
use Rattle.shard_bytes.specs.Versions.{AreMadeIn3, LaidOutIn, NotLaidOutIn, IsWrittenIn, NotWrittenIn, IsInVersion}
use Rattle.shard_bytes.proofs.ExportedShards.{export_in_3}
use Rattle.shard_bytes.proofs.RewriteSizes.{size_of_version}

-- what is written of a shard in a version, and why nothing is
abbrev pub IsWritten : FormatVersion → Content → List ℕ → Type 0
IsWritten version made out = HasFilesIn version made × (out ≡ content_layout version made)

abbrev pub IsNotWritten : FormatVersion → Content → CoreError → Type 0
IsNotWritten version made e = (e ≡ OutOfMemory) ⊎ ((e ≡ InvalidArguments) × (¬ HasFilesIn version made))

-- what is made, in a version
module _ (version : FormatVersion) (IsMade : Content → Type 0) (made : Content) (is_made : IsMade made) where
  pub written_of : (out : List ℕ) → IsWritten version made out → IsWrittenIn version IsMade out
  written_of out (has, is) = (made, is_made, has, is)

  pub not_written_of : (Refuses : CoreError → Type 0) → Refuses OutOfMemory → (e : CoreError) → IsNotWritten version made e → NotWrittenIn version IsMade Refuses e
  not_written_of Refuses memory e (inl is) = inl (subst Refuses (sym is) memory)
  not_written_of Refuses memory e (inr (invalid, none)) = inr (invalid, (made, is_made, none))

-- in a version, of a shard whose layout in version 3 a call makes
module _ (Makes : List ℕ → Type 0) (Refuses : CoreError → Type 0) (version : FormatVersion) (made : Content) (makes : Makes (content_layout V3 made)) (fit : FitsSection file_records made.files) where
  pub made_in : (out : List ℕ) → IsWritten version made out → LaidOutIn version Makes out
  made_in out = of version
    where
      of : (v : FormatVersion) → IsWritten v made out → LaidOutIn v Makes out
      of V2 is = written_of V2 (AreMadeIn3 Makes) made (makes, fit) out is
      of V3 (has, is) = subst Makes (sym is) makes

  pub refused_in : Refuses OutOfMemory → (e : CoreError) → IsNotWritten version made e → NotLaidOutIn version Makes Refuses e
  refused_in memory e = of version
    where
      of : (v : FormatVersion) → IsNotWritten v made e → NotLaidOutIn v Makes Refuses e
      of V2 why = not_written_of V2 (AreMadeIn3 Makes) made (makes, fit) Refuses memory e why
      of V3 (inl is) = subst Refuses (sym is) memory
      of V3 (inr (invalid, none)) = absurd (none tt)

-- a result, outcome by outcome
pub both_outcomes : {T E : Type 0} (r : Result T E) (P Q : T → Type 0) (R S : E → Type 0) → ((v : T) → P v → Q v) → ((e : E) → R e → S e) → MatchResult r P R → MatchResult r Q S
both_outcomes (Ok v) P Q R S made refused is = made v is
both_outcomes (Err e) P Q R S made refused is = refused e is

-- the files of a shard that are as they are stored
stored_files : (s : PlacedShard) (c : Content) → content s ≡ c → s.as_read ≡ false → s.files.items ≡ c.files
stored_files s c is as_read = sym (ap (λ b. files_as b s.files.items) as_read) ∙ ap (λ (d : Content). d.files) is

-- all parts but auxiliary rows are kept
as_it_is : (has : Bool) (r : MDBFileInfo) → (if has && not true then without_verification r else r) ≡ r
as_it_is true r = refl
as_it_is false r = refl

kept_aux : (aux : Bool) (files : List MDBFileInfo) → map (as_kept record { verification = true; aux_ext = aux }) files ≡ all_with_aux_if aux files
kept_aux true [] = refl
kept_aux false [] = refl
kept_aux true (r ∷ rs) = λ i. as_it_is (has_verification r.metadata.file_flags) r i ∷ kept_aux true rs i
kept_aux false (r ∷ rs) = λ i. without_aux (as_it_is (has_verification r.metadata.file_flags) r i) ∷ kept_aux false rs i

kept_if_included : (wanted aux : Bool) (files : List MDBFileInfo) → map (as_kept record { verification = true; aux_ext = aux }) (if_included wanted files) ≡ if_included wanted (all_with_aux_if aux files)
kept_if_included true aux files = kept_aux aux files
kept_if_included false aux files = refl

-- what an export makes of a shard, step by step
pub export_steps : (x : Export) (bytes : List ℕ) (info : MDBShardInfo) → HasHeaderAndFooter bytes info → ¬ CannotExport info x.now x.valid_seconds → (opened with_options with_files with_parts keyed : PlacedShard) (options : LayoutOptions)
    → HasSections bytes opened.files.items opened.xorbs.items → opened.as_read ≡ false → options ≡ options_of_export x
    → content with_options ≡ record (content opened) { options = options } → with_options.as_read ≡ opened.as_read
    → content with_files ≡ record (content with_options) { files = if_included x.parts.files (content with_options).files } → with_files.as_read ≡ with_options.as_read
    → HasInstead (map (as_kept record { verification = true; aux_ext = x.parts.aux_ext }) with_files.files.items) with_files.xorbs.items with_files with_parts
    → HasInstead with_parts.files.items (keyed_xorbs x.key with_parts.xorbs.items) with_parts keyed → IsExportOf x bytes (content keyed)
export_steps x bytes info ends can opened with_options with_files with_parts keyed options sections read options_are first read_1 second read_2 third fourth = record {
  info = info;
  ends = ends;
  can = can;
  files = opened.files.items;
  xorbs = opened.xorbs.items;
  sections = sections;
  made_is = λ i. record { files = files_are i; xorbs = xorbs_are i; options = made_options i };
}
  where
    chosen : content with_files ≡ record { files = if_included x.parts.files (files_as opened.as_read opened.files.items); xorbs = opened.xorbs.items; options = options }
    chosen = second ∙ ap (λ (c : Content). record c { files = if_included x.parts.files c.files }) first

    plain : content with_files ≡ record { files = if_included x.parts.files opened.files.items; xorbs = opened.xorbs.items; options = options }
    plain = chosen ∙ (λ i. record { files = if_included x.parts.files (files_as (read i) opened.files.items); xorbs = opened.xorbs.items; options = options })

    files_are : files_as keyed.as_read keyed.files.items ≡ if_included x.parts.files (all_with_aux_if x.parts.aux_ext opened.files.items)
    files_are =
        ap (λ b. files_as b keyed.files.items) (fourth.as_read ∙ third.as_read ∙ read_2 ∙ read_1 ∙ read) ∙ fourth.files ∙ third.files
        ∙ ap (map (as_kept record { verification = true; aux_ext = x.parts.aux_ext })) (stored_files with_files _ plain (read_2 ∙ read_1 ∙ read))
        ∙ kept_if_included x.parts.files x.parts.aux_ext opened.files.items

    xorbs_are : keyed.xorbs.items ≡ keyed_xorbs x.key opened.xorbs.items
    xorbs_are = fourth.xorbs ∙ ap (keyed_xorbs x.key) (third.xorbs ∙ ap (λ (c : Content). c.xorbs) plain)

    made_options : keyed.options ≡ options_of_export x
    made_options = fourth.options ∙ third.options ∙ ap (λ (c : Content). c.options) plain ∙ options_are

-- an export
module _ (x : Export) (bytes : List ℕ) (made : Content) (is : IsExportOf x bytes made) where
  abbrev exports : ExportsBytes x bytes (content_layout V3 (exported_content x is.files is.xorbs))
  exports = record {
    info = is.info;
    ends = is.ends;
    can = is.can;
    files = is.files;
    xorbs = is.xorbs;
    header = is.sections.header;
    file_section = is.sections.file_section;
    xorb_section = is.sections.xorb_section;
    written = refl;
  }

  pub exports_made : ExportsBytes x bytes (content_layout V3 made)
  exports_made = subst (λ c. ExportsBytes x bytes (content_layout V3 c)) (sym is.made_is) exports

  pub export_fits : FitsSection file_records made.files
  export_fits = subst (λ (c : Content). FitsSection file_records c.files) (sym is.made_is) (export_in_3 x bytes (content_layout V3 (exported_content x is.files is.xorbs)) exports)

-- how large the same shard in a version is
pub size_in_version : (version : FormatVersion) (bytes out : List ℕ) → IsInVersion version bytes out → IsRewriteSize bytes (length out)
size_in_version version bytes out (made, same, has, is) =
    let sections = same.read.sections in
    subst (λ (zs : List ℕ). IsRewriteSize bytes (length zs)) (sym (is ∙ ap (content_layout version) same.made_is))
    (size_of_version bytes sections.header.version same.files same.xorbs sections.file_section sections.xorb_section _)

-- in version 3 all shards are written, if memory suffices
pub written_in_3 : (made : Content) (out : List ℕ) → IsWritten V3 made out → out ≡ content_layout V3 made
written_in_3 made out (has, is) = is

pub memory_in_3 : (made : Content) (e : CoreError) → IsNotWritten V3 made e → e ≡ OutOfMemory
memory_in_3 made e (inl is) = is
memory_in_3 made e (inr (invalid, none)) = absurd (none tt)
