-- What is known of bytes that cannot be read.
use Rattle.std.proofs.Common.{◌≡◌, inl, inr, ℕ, List, [], ◌∷◌, drop, None, ap, ◌∙◌}
use Rattle.xet_core_structures.specs.declared.error.CoreError.{CoreError}
use Rattle.xet_core_structures.specs.declared.file_structs.MDBFileInfo.{MDBFileInfo}
use Rattle.xet_core_structures.specs.declared.shard_format.MDBShardInfo.{MDBShardInfo}
use Rattle.xet_core_structures.specs.Ends.{HasHeaderAndFooter}
use Rattle.xet_core_structures.specs.FileRecord.{file_records_in}
use Rattle.xet_core_structures.specs.KeyedExport.{xorbs_after, BadSection}
use Rattle.xet_core_structures.specs.SectionReading.{IsSection, IsRefusedSection, IsTruncatedSection}
use Rattle.xet_core_structures.specs.Source.{Source}
use Rattle.xet_core_structures.specs.XorbRecord.{xorb_records}
use Rattle.shard_bytes.specs.declared.check.Section.TheVariants.{Files, Xorbs}
use Rattle.shard_bytes.specs.declared.check.Finding.{Finding}
use Rattle.shard_bytes.specs.declared.check.Finding.TheVariants.{Unsupported, TooShort}
use Rattle.shard_bytes.specs.Steps.CheckingSteps.{IsReport, IsUnloaded, IsUnreadable}
use Rattle.shard_bytes.proofs.Checking.{header_in, one_finding, unread_reported}
use Rattle.shard_bytes.proofs.Exclusive.{only_unsupported, only_too_short, only_cut_files, only_refused_files, only_cut_xorbs, only_refused_xorbs}

-- header and footer are not read
pub not_loaded : (bytes : List ℕ) (f : Finding) (findings : List Finding) → IsUnloaded bytes f → findings ≡ f ∷ [] → IsReport bytes findings
not_loaded bytes f findings (inl (reason, is, why)) one =
    one_finding bytes (Unsupported reason) findings (λ note. note) why (only_unsupported bytes reason why) (one ∙ ap (λ g. g ∷ []) is)
not_loaded bytes f findings (inr (is, short)) one =
    one_finding bytes TooShort findings (λ note. note) short (only_too_short bytes short) (one ∙ ap (λ g. g ∷ []) is)

-- a source of these bytes, at their start
abbrev pub source_of : List ℕ → Source
source_of bytes = record { bytes = bytes; at = 0; seeks = 0; read = 0; failures = 0; last_failure = None }

-- the file section is not read
pub files_unread : (bytes : List ℕ) (info : MDBShardInfo) (ends : HasHeaderAndFooter bytes info) (e : CoreError) (findings : List Finding)
    → BadSection (file_records_in (header_in bytes info ends).version) (drop 48 bytes) e → IsUnreadable Files e findings → IsReport bytes findings
files_unread bytes info ends e findings bad unreadable =
    let header = header_in bytes info ends in
    unread_reported Files bytes (drop 48 bytes) (IsRefusedSection (file_records_in header.version)) (IsTruncatedSection (file_records_in header.version)) e findings bad unreadable
    (λ over. ((info, ends, header, over), only_refused_files bytes info ends header over)) (λ cut. ((info, ends, header, cut), only_cut_files bytes info ends header cut))

-- the file section was read, and that of the xorbs is not
pub xorbs_unread : (bytes : List ℕ) (info : MDBShardInfo) (ends : HasHeaderAndFooter bytes info) (files : List MDBFileInfo) → IsSection (file_records_in (header_in bytes info ends).version) (drop 48 bytes) files
    → (e : CoreError) (findings : List Finding) → BadSection xorb_records (drop (xorbs_after files) bytes) e → IsUnreadable Xorbs e findings → IsReport bytes findings
xorbs_unread bytes info ends files there e findings bad unreadable =
    let header = header_in bytes info ends in
    unread_reported Xorbs bytes (drop (xorbs_after files) bytes) (IsRefusedSection xorb_records) (IsTruncatedSection xorb_records) e findings bad unreadable
    (λ over. ((info, ends, header, (files, there, over)), only_refused_xorbs bytes info ends header files there over))
    (λ cut. ((info, ends, header, (files, there, cut)), only_cut_xorbs bytes info ends header files there cut))
