-- A layout has a header, a footer and its sections, and bytes that have them are not truncated or refused.
use Rattle.std.proofs.Common.{◌≡◌, ℕ, ◌^◌, ◌<◌, List, drop, subst}
use Rattle.xet_base.specs.Hash.{IsHash}
use Rattle.xet_records.specs.declared.file_structs.MDBFileInfo.{MDBFileInfo}
use Rattle.xet_records.specs.declared.xorb_structs.MDBXorbInfo.{MDBXorbInfo}
use Rattle.xet_records.specs.FileRecord.{file_records, file_records_in}
use Rattle.xet_records.specs.XorbRecord.{xorb_records}
use Rattle.xet_records.proofs.RecordKinds.{xorb_laws, version_known}
use Rattle.xet_shards.specs.Ends.Ends.{HasHeader, HasHeaderAndFooter}
use Rattle.xet_shards.specs.Write.WithOptions.{FitsSection}
use Rattle.xet_shards.specs.Export.KeyedExport.{xorbs_after}
use Rattle.xet_shards.specs.Write.Layout.{LayoutOptions, info_of, layout_of}
use Rattle.xet_shards.specs.Read.SectionsBehindHeader.{HasSections, options_of}
use Rattle.xet_shards.specs.Read.SectionReading.{IsSection, IsRefusedSection, IsTruncatedSection}
use Rattle.xet_shards.proofs.Ends.EndsUnique.{ends_of_layout}
use Rattle.xet_shards.proofs.Ends.Loading.{one_version}
use Rattle.xet_shards.proofs.Write.Sections.{files_laws, fits_ever}
use Rattle.xet_shards.proofs.Read.SectionUnique.{only_list, section_or_passes, section_or_cut}
use Rattle.xet_shards.proofs.Ends.Widths.{fits_with_options}

-- the layout options that header and footer of a layout name have the version of its own
pub version_again : (files : List MDBFileInfo) (xorbs : List MDBXorbInfo) (options : LayoutOptions) → (options_of (info_of files xorbs options)).version ≡ options.version
version_again files xorbs options = version_known options.version

pub layout_ends : (files : List MDBFileInfo) (xorbs : List MDBXorbInfo) (options : LayoutOptions) → FitsSection (file_records_in options.version) files → FitsSection xorb_records xorbs → IsHash options.key
    → options.creation < 2 ^ 64 → options.expiry < 2 ^ 64 → HasHeaderAndFooter (layout_of files xorbs options) (info_of files xorbs options)
layout_ends files xorbs options files_fit xorbs_fit key creation expiry =
    ends_of_layout files xorbs options (fits_with_options files xorbs options (fits_ever file_records options.version files files_fit) xorbs_fit key creation expiry)

module _ (bytes : List ℕ) (files : List MDBFileInfo) (xorbs : List MDBXorbInfo) (have : HasSections bytes files xorbs) (header : HasHeader bytes) where
  files_there : IsSection (file_records_in header.version) (drop 48 bytes) files
  files_there = subst (λ v. IsSection (file_records_in v) (drop 48 bytes) files) (one_version bytes have.header header) have.file_section

  pub files_not_cut : ¬ IsTruncatedSection (file_records_in header.version) (drop 48 bytes)
  files_not_cut = section_or_cut (file_records_in header.version) (files_laws header.version) (drop 48 bytes) files files_there

  pub files_not_refused : ¬ IsRefusedSection (file_records_in header.version) (drop 48 bytes)
  files_not_refused = section_or_passes (file_records_in header.version) (files_laws header.version) (drop 48 bytes) files files_there

  -- the files are those of any other reading of the section
  pub same_files : (others : List MDBFileInfo) → IsSection (file_records_in header.version) (drop 48 bytes) others → files ≡ others
  same_files others there = only_list (file_records_in header.version) (files_laws header.version) (drop 48 bytes) files others files_there there

  module _ (others : List MDBFileInfo) (there : IsSection (file_records_in header.version) (drop 48 bytes) others) where
    xorbs_there : IsSection xorb_records (drop (xorbs_after others) bytes) xorbs
    xorbs_there = subst (λ rs. IsSection xorb_records (drop (xorbs_after rs) bytes) xorbs) (same_files others there) have.xorb_section

    pub xorbs_not_cut : ¬ IsTruncatedSection xorb_records (drop (xorbs_after others) bytes)
    xorbs_not_cut = section_or_cut xorb_records xorb_laws (drop (xorbs_after others) bytes) xorbs xorbs_there

    pub xorbs_not_refused : ¬ IsRefusedSection xorb_records (drop (xorbs_after others) bytes)
    xorbs_not_refused = section_or_passes xorb_records xorb_laws (drop (xorbs_after others) bytes) xorbs xorbs_there
