-- The files of a shard that is completed.
use Rattle.std.proofs.Common.{◌≡◌, ℕ, List, sym, subst}
use Rattle.xet_core_structures.specs.declared.file_structs.MDBFileInfo.{MDBFileInfo}
use Rattle.xet_core_structures.specs.declared.xorb_structs.MDBXorbInfo.{MDBXorbInfo}
use Rattle.xet_core_structures.specs.FileRecord.{file_records}
use Rattle.xet_core_structures.specs.WithOptions.{FitsSection}
use Rattle.xet_shards.specs.declared.shard_writer.LayoutOptions.{LayoutOptions}
use Rattle.xet_shards.specs.Read.SectionsBehindHeader.{HasSections}
use Rattle.xet_shards.proofs.Write.Sections.{fits_ever}
use Rattle.placed_shards.specs.Content.{Content}

pub completed_fits : (options : LayoutOptions) (bytes : List ℕ) (made : Content)
    → (files : List MDBFileInfo) × (xorbs : List MDBXorbInfo) × HasSections bytes files xorbs × (made ≡ record { files = files; xorbs = xorbs; options = options }) → FitsSection file_records made.files
completed_fits options bytes made (files, xorbs, sections, is) =
    subst (λ (c : Content). FitsSection file_records c.files) (sym is)
    (fits_ever file_records sections.header.version files (record { stored = sections.file_section.records.are_stored; rows = sections.file_section.records.rows }))
