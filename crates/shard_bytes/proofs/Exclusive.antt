-- Findings that exclude each other: of bytes that cannot be read one finding is true, and no other.
use Rattle.std.proofs.Common.{◌≡◌, inl, inr, ℕ, List, drop, refl, ap, subst, arith}
use Rattle.xet_core_structures.specs.declared.file_structs.MDBFileInfo.{MDBFileInfo}
use Rattle.xet_core_structures.specs.declared.xorb_structs.MDBXorbInfo.{MDBXorbInfo}
use Rattle.xet_core_structures.specs.declared.shard_format.MDBShardInfo.{MDBShardInfo}
use Rattle.xet_core_structures.specs.Ends.{HasHeader, HasHeaderAndFooter, IsUnsupported, IsTooShort}
use Rattle.xet_core_structures.specs.FileRecord.{file_records_in}
use Rattle.xet_core_structures.specs.KeyedExport.{xorbs_after}
use Rattle.xet_core_structures.specs.SectionReading.{IsSection, IsRefusedSection, IsTruncatedSection}
use Rattle.xet_core_structures.specs.XorbRecord.{xorb_records}
use Rattle.xet_core_structures.proofs.Records.SectionWays.{one_way}
use Rattle.xet_records.proofs.RecordKinds.{xorb_laws}
use Rattle.xet_shards.specs.Read.SectionsBehindHeader.{HasSections}
use Rattle.xet_shards.proofs.Ends.EndsUnique.{not_unsupported, not_too_short}
use Rattle.xet_shards.proofs.Ends.Loading.{one_version}
use Rattle.xet_shards.proofs.Write.Sections.{files_laws}
use Rattle.xet_shards.proofs.Read.SectionUnique.{only_list, section_or_passes, section_or_cut}
use Rattle.shard_bytes.specs.declared.format.Format.{Format}
use Rattle.shard_bytes.specs.Format.{IsUnsupportedFor}
use Rattle.shard_bytes.proofs.Formats.{unsupported_so, one_reason}
use Rattle.shard_bytes.specs.declared.check.Section.TheVariants.{Files, Xorbs}
use Rattle.shard_bytes.specs.declared.check.Finding.{Finding}
use Rattle.shard_bytes.specs.declared.check.Finding.TheVariants.{Unsupported, TooShort, Cut, Refused, OutOfOrder, Malformed, Differs, Reordered, Size}
use Rattle.shard_bytes.specs.Checking.{IsFinding}

module _ (bytes : List ℕ) where
  either_end : IsUnsupported bytes → ¬ IsTooShort bytes
  either_end (inl (inl (some, other))) (inl (inl few)) = omega (arith, some, few)
  either_end (inl (inl (some, other))) (inl (inr (few, tag))) = other tag
  either_end (inl (inl (some, other))) (inr (header, few)) = other header.tag
  either_end (inl (inr (some, other))) (inl (inl few)) = omega (arith, some, few)
  either_end (inl (inr (some, other))) (inl (inr (few, tag))) = omega (arith, some, few)
  either_end (inl (inr (some, other))) (inr (header, few)) = other header.version header.version_is
  either_end (inr (header, some, footer)) (inl (inl few)) = omega (arith, header.size, few)
  either_end (inr (header, some, footer)) (inl (inr (few, tag))) = omega (arith, header.size, few)
  either_end (inr (header, some, footer)) (inr (other, few)) = omega (arith, some, few)

  pub only_unsupported : (reason : Format) → IsUnsupportedFor bytes reason → (g : Finding) → IsFinding bytes g → g ≡ Unsupported reason
  only_unsupported reason why (Unsupported other) also = ap Unsupported (one_reason bytes reason other why also)
  only_unsupported reason why TooShort short = absurd (either_end (unsupported_so bytes reason why) short)
  only_unsupported reason why (Cut Files) (info, ends, header, rest) = absurd (not_unsupported bytes info ends (unsupported_so bytes reason why))
  only_unsupported reason why (Cut Xorbs) (info, ends, header, rest) = absurd (not_unsupported bytes info ends (unsupported_so bytes reason why))
  only_unsupported reason why (Refused Files) (info, ends, header, rest) = absurd (not_unsupported bytes info ends (unsupported_so bytes reason why))
  only_unsupported reason why (Refused Xorbs) (info, ends, header, rest) = absurd (not_unsupported bytes info ends (unsupported_so bytes reason why))
  only_unsupported reason why (OutOfOrder section n) (info, files, xorbs, read, rest) = absurd (not_unsupported bytes info read.ends (unsupported_so bytes reason why))
  only_unsupported reason why (Malformed section n) (info, files, xorbs, read, rest) = absurd (not_unsupported bytes info read.ends (unsupported_so bytes reason why))
  only_unsupported reason why (Differs part) (info, files, xorbs, read, rest) = absurd (not_unsupported bytes info read.ends (unsupported_so bytes reason why))
  only_unsupported reason why Reordered (info, files, xorbs, read, rest) = absurd (not_unsupported bytes info read.ends (unsupported_so bytes reason why))
  only_unsupported reason why (Size n) (info, files, xorbs, read, rest) = absurd (not_unsupported bytes info read.ends (unsupported_so bytes reason why))

  pub only_too_short : IsTooShort bytes → (g : Finding) → IsFinding bytes g → g ≡ TooShort
  only_too_short so (Unsupported reason) why = absurd (either_end (unsupported_so bytes reason why) so)
  only_too_short so TooShort also = refl
  only_too_short so (Cut Files) (info, ends, header, rest) = absurd (not_too_short bytes info ends so)
  only_too_short so (Cut Xorbs) (info, ends, header, rest) = absurd (not_too_short bytes info ends so)
  only_too_short so (Refused Files) (info, ends, header, rest) = absurd (not_too_short bytes info ends so)
  only_too_short so (Refused Xorbs) (info, ends, header, rest) = absurd (not_too_short bytes info ends so)
  only_too_short so (OutOfOrder section n) (info, files, xorbs, read, rest) = absurd (not_too_short bytes info read.ends so)
  only_too_short so (Malformed section n) (info, files, xorbs, read, rest) = absurd (not_too_short bytes info read.ends so)
  only_too_short so (Differs part) (info, files, xorbs, read, rest) = absurd (not_too_short bytes info read.ends so)
  only_too_short so Reordered (info, files, xorbs, read, rest) = absurd (not_too_short bytes info read.ends so)
  only_too_short so (Size n) (info, files, xorbs, read, rest) = absurd (not_too_short bytes info read.ends so)

  -- after a header, in its version
  module _ (info : MDBShardInfo) (ends : HasHeaderAndFooter bytes info) (header : HasHeader bytes) where
    abbrev IsFiles : List MDBFileInfo → Type 0
    IsFiles = IsSection (file_records_in header.version) (drop 48 bytes)

    files_at : (other : HasHeader bytes) (files : List MDBFileInfo) → IsSection (file_records_in other.version) (drop 48 bytes) files → IsFiles files
    files_at other files there = subst (λ v. IsSection (file_records_in v) (drop 48 bytes) files) (one_version bytes other header) there

    cut_at : (other : HasHeader bytes) → IsTruncatedSection (file_records_in other.version) (drop 48 bytes) → IsTruncatedSection (file_records_in header.version) (drop 48 bytes)
    cut_at other cut = subst (λ v. IsTruncatedSection (file_records_in v) (drop 48 bytes)) (one_version bytes other header) cut

    over_at : (other : HasHeader bytes) → IsRefusedSection (file_records_in other.version) (drop 48 bytes) → IsRefusedSection (file_records_in header.version) (drop 48 bytes)
    over_at other over = subst (λ v. IsRefusedSection (file_records_in v) (drop 48 bytes)) (one_version bytes other header) over

    or_cut : (files : List MDBFileInfo) → IsFiles files → ¬ IsTruncatedSection (file_records_in header.version) (drop 48 bytes)
    or_cut = section_or_cut (file_records_in header.version) (files_laws header.version) (drop 48 bytes)

    or_over : (files : List MDBFileInfo) → IsFiles files → ¬ IsRefusedSection (file_records_in header.version) (drop 48 bytes)
    or_over = section_or_passes (file_records_in header.version) (files_laws header.version) (drop 48 bytes)

    cut_or_over : IsTruncatedSection (file_records_in header.version) (drop 48 bytes) → ¬ IsRefusedSection (file_records_in header.version) (drop 48 bytes)
    cut_or_over = (one_way (file_records_in header.version) (files_laws header.version) (drop 48 bytes)).either

    pub only_cut_files : IsTruncatedSection (file_records_in header.version) (drop 48 bytes) → (g : Finding) → IsFinding bytes g → g ≡ Cut Files
    only_cut_files so (Unsupported reason) why = absurd (not_unsupported bytes info ends (unsupported_so bytes reason why))
    only_cut_files so TooShort other = absurd (not_too_short bytes info ends other)
    only_cut_files so (Cut Files) also = refl
    only_cut_files so (Cut Xorbs) (i, e, h, (files, there, rest)) = absurd (or_cut files (files_at h files there) so)
    only_cut_files so (Refused Files) (i, e, h, over) = absurd (cut_or_over so (over_at h over))
    only_cut_files so (Refused Xorbs) (i, e, h, (files, there, rest)) = absurd (or_cut files (files_at h files there) so)
    only_cut_files so (OutOfOrder section n) (i, files, xorbs, read, rest) = absurd (or_cut files (files_at read.sections.header files read.sections.file_section) so)
    only_cut_files so (Malformed section n) (i, files, xorbs, read, rest) = absurd (or_cut files (files_at read.sections.header files read.sections.file_section) so)
    only_cut_files so (Differs part) (i, files, xorbs, read, rest) = absurd (or_cut files (files_at read.sections.header files read.sections.file_section) so)
    only_cut_files so Reordered (i, files, xorbs, read, rest) = absurd (or_cut files (files_at read.sections.header files read.sections.file_section) so)
    only_cut_files so (Size n) (i, files, xorbs, read, rest) = absurd (or_cut files (files_at read.sections.header files read.sections.file_section) so)

    pub only_refused_files : IsRefusedSection (file_records_in header.version) (drop 48 bytes) → (g : Finding) → IsFinding bytes g → g ≡ Refused Files
    only_refused_files so (Unsupported reason) why = absurd (not_unsupported bytes info ends (unsupported_so bytes reason why))
    only_refused_files so TooShort other = absurd (not_too_short bytes info ends other)
    only_refused_files so (Cut Files) (i, e, h, cut) = absurd (cut_or_over (cut_at h cut) so)
    only_refused_files so (Cut Xorbs) (i, e, h, (files, there, rest)) = absurd (or_over files (files_at h files there) so)
    only_refused_files so (Refused Files) also = refl
    only_refused_files so (Refused Xorbs) (i, e, h, (files, there, rest)) = absurd (or_over files (files_at h files there) so)
    only_refused_files so (OutOfOrder section n) (i, files, xorbs, read, rest) = absurd (or_over files (files_at read.sections.header files read.sections.file_section) so)
    only_refused_files so (Malformed section n) (i, files, xorbs, read, rest) = absurd (or_over files (files_at read.sections.header files read.sections.file_section) so)
    only_refused_files so (Differs part) (i, files, xorbs, read, rest) = absurd (or_over files (files_at read.sections.header files read.sections.file_section) so)
    only_refused_files so Reordered (i, files, xorbs, read, rest) = absurd (or_over files (files_at read.sections.header files read.sections.file_section) so)
    only_refused_files so (Size n) (i, files, xorbs, read, rest) = absurd (or_over files (files_at read.sections.header files read.sections.file_section) so)

    -- and after the files
    module _ (files : List MDBFileInfo) (there : IsFiles files) where
      same_files : (h : HasHeader bytes) (others : List MDBFileInfo) → IsSection (file_records_in h.version) (drop 48 bytes) others → others ≡ files
      same_files h others section = only_list (file_records_in header.version) (files_laws header.version) (drop 48 bytes) others files (files_at h others section) there

      xorbs_at : (others : List MDBFileInfo) (xorbs : List MDBXorbInfo) → (have : HasSections bytes others xorbs) → IsSection xorb_records (drop (xorbs_after files) bytes) xorbs
      xorbs_at others xorbs have = subst (λ rs. IsSection xorb_records (drop (xorbs_after rs) bytes) xorbs) (same_files have.header others have.file_section) have.xorb_section

      or_cut_xorbs : (xorbs : List MDBXorbInfo) → IsSection xorb_records (drop (xorbs_after files) bytes) xorbs → ¬ IsTruncatedSection xorb_records (drop (xorbs_after files) bytes)
      or_cut_xorbs = section_or_cut xorb_records xorb_laws (drop (xorbs_after files) bytes)

      or_over_xorbs : (xorbs : List MDBXorbInfo) → IsSection xorb_records (drop (xorbs_after files) bytes) xorbs → ¬ IsRefusedSection xorb_records (drop (xorbs_after files) bytes)
      or_over_xorbs = section_or_passes xorb_records xorb_laws (drop (xorbs_after files) bytes)

      cut_or_over_xorbs : IsTruncatedSection xorb_records (drop (xorbs_after files) bytes) → ¬ IsRefusedSection xorb_records (drop (xorbs_after files) bytes)
      cut_or_over_xorbs = (one_way xorb_records xorb_laws (drop (xorbs_after files) bytes)).either

      pub only_cut_xorbs : IsTruncatedSection xorb_records (drop (xorbs_after files) bytes) → (g : Finding) → IsFinding bytes g → g ≡ Cut Xorbs
      only_cut_xorbs so (Unsupported reason) why = absurd (not_unsupported bytes info ends (unsupported_so bytes reason why))
      only_cut_xorbs so TooShort other = absurd (not_too_short bytes info ends other)
      only_cut_xorbs so (Cut Files) (i, e, h, cut) = absurd (or_cut files there (cut_at h cut))
      only_cut_xorbs so (Cut Xorbs) also = refl
      only_cut_xorbs so (Refused Files) (i, e, h, over) = absurd (or_over files there (over_at h over))
      only_cut_xorbs so (Refused Xorbs) (i, e, h, (others, section, over)) =
          absurd (cut_or_over_xorbs so (subst (λ rs. IsRefusedSection xorb_records (drop (xorbs_after rs) bytes)) (same_files h others section) over))
      only_cut_xorbs so (OutOfOrder section n) (i, others, xorbs, read, rest) = absurd (or_cut_xorbs xorbs (xorbs_at others xorbs read.sections) so)
      only_cut_xorbs so (Malformed section n) (i, others, xorbs, read, rest) = absurd (or_cut_xorbs xorbs (xorbs_at others xorbs read.sections) so)
      only_cut_xorbs so (Differs part) (i, others, xorbs, read, rest) = absurd (or_cut_xorbs xorbs (xorbs_at others xorbs read.sections) so)
      only_cut_xorbs so Reordered (i, others, xorbs, read, rest) = absurd (or_cut_xorbs xorbs (xorbs_at others xorbs read.sections) so)
      only_cut_xorbs so (Size n) (i, others, xorbs, read, rest) = absurd (or_cut_xorbs xorbs (xorbs_at others xorbs read.sections) so)

      pub only_refused_xorbs : IsRefusedSection xorb_records (drop (xorbs_after files) bytes) → (g : Finding) → IsFinding bytes g → g ≡ Refused Xorbs
      only_refused_xorbs so (Unsupported reason) why = absurd (not_unsupported bytes info ends (unsupported_so bytes reason why))
      only_refused_xorbs so TooShort other = absurd (not_too_short bytes info ends other)
      only_refused_xorbs so (Cut Files) (i, e, h, cut) = absurd (or_cut files there (cut_at h cut))
      only_refused_xorbs so (Cut Xorbs) (i, e, h, (others, section, cut)) =
          absurd (cut_or_over_xorbs (subst (λ rs. IsTruncatedSection xorb_records (drop (xorbs_after rs) bytes)) (same_files h others section) cut) so)
      only_refused_xorbs so (Refused Files) (i, e, h, over) = absurd (or_over files there (over_at h over))
      only_refused_xorbs so (Refused Xorbs) also = refl
      only_refused_xorbs so (OutOfOrder section n) (i, others, xorbs, read, rest) = absurd (or_over_xorbs xorbs (xorbs_at others xorbs read.sections) so)
      only_refused_xorbs so (Malformed section n) (i, others, xorbs, read, rest) = absurd (or_over_xorbs xorbs (xorbs_at others xorbs read.sections) so)
      only_refused_xorbs so (Differs part) (i, others, xorbs, read, rest) = absurd (or_over_xorbs xorbs (xorbs_at others xorbs read.sections) so)
      only_refused_xorbs so Reordered (i, others, xorbs, read, rest) = absurd (or_over_xorbs xorbs (xorbs_at others xorbs read.sections) so)
      only_refused_xorbs so (Size n) (i, others, xorbs, read, rest) = absurd (or_over_xorbs xorbs (xorbs_at others xorbs read.sections) so)
