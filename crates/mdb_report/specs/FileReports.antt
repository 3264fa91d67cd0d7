-- The files of a shard's bytes, and their reports.
use Rattle.std.specs.Prelude.{◌≡◌, ◌⊎◌, ℕ, Bool, List}
use Rattle.std.specs.List.{AllZip}
use Rattle.xet_core_structures.specs.declared.error.CoreError.{CoreError}
use Rattle.xet_core_structures.specs.declared.error.CoreError.TheVariants.{OutOfMemory}
use Rattle.xet_core_structures.specs.declared.file_structs.MDBFileInfo.{MDBFileInfo}
use Rattle.xet_core_structures.specs.TwoShards.ByteResults.{LoadRefusal}
use Rattle.xet_core_structures.specs.SectionReading.{ReadsSection, SectionFails, files_of}
use Rattle.shard_bytes.specs.Outcomes.{HasOutcome}
use Rattle.mdb_records.specs.RecordReports.{ReportsFile}
use Rattle.mdb_records.specs.declared.records.FileReport.{FileReport}

-- the bytes have these files in their file section, and no others
abbrev pub HoldsFiles : List ℕ → List MDBFileInfo → Type 0
HoldsFiles bytes files =
    HasOutcome bytes
    (λ info before after. ReadsSection (files_of info) before after
    info.metadata.file_info_offset files)

-- a report for each file of the bytes, in order
abbrev pub ReportsFiles : List ℕ → Bool → List FileReport → Type 0
ReportsFiles bytes with_rows reports =
    (files : List MDBFileInfo) × HoldsFiles bytes files
    × AllZip (λ file report. ReportsFile file with_rows report) files reports

-- header and footer are not read, or the file section isn't, or memory is lacking
abbrev pub FilesNotRead : List ℕ → CoreError → Type 0
FilesNotRead bytes e =
    LoadRefusal bytes e
    ⊎ HasOutcome bytes
    (λ info before after. SectionFails (files_of info) before after
    info.metadata.file_info_offset e)
    ⊎ (e ≡ OutOfMemory)
