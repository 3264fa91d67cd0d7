-- What does not fit together in the records of a shard.
use Rattle.std.specs.Prelude.{ℕ, List}
use Rattle.xet_core_structures.specs.declared.file_structs.MDBFileInfo.{MDBFileInfo}
use Rattle.xet_core_structures.specs.declared.xorb_structs.MDBXorbInfo.{MDBXorbInfo}
use Rattle.xet_core_structures.specs.SectionReading.{ReadsSection}
use Rattle.xet_core_structures.specs.XorbRecord.{xorb_records}
use Rattle.shard_bytes.specs.Outcomes.{HasOutcome}
use Rattle.mdb_garbage.specs.declared.finding.GarbageFinding.{GarbageFinding}
use Rattle.mdb_garbage.specs.Garbage.{IsGarbage}
use Rattle.mdb_garbage.specs.Reports.{ReportsAll}
use Rattle.mdb_report.specs.FileReports.{HoldsFiles}

-- these are the xorbs of the shard with these bytes
abbrev pub HoldsXorbs : List ℕ → List MDBXorbInfo → Type 0
HoldsXorbs bytes xorbs =
    HasOutcome bytes
    (λ info before after. ReadsSection xorb_records before after
    info.metadata.xorb_info_offset xorbs)

-- these are all findings in the records of the shard with these bytes
abbrev pub HoldsGarbage : List ℕ → List GarbageFinding → Type 0
HoldsGarbage bytes found =
    (files : List MDBFileInfo) × (xorbs : List MDBXorbInfo) × HoldsFiles bytes files
    × HoldsXorbs bytes xorbs × ReportsAll files xorbs found

-- the records of the shard with these bytes fit together
abbrev pub IsFit : List ℕ → Type 0
IsFit bytes =
    (files : List MDBFileInfo) × (xorbs : List MDBXorbInfo) × HoldsFiles bytes files
    × HoldsXorbs bytes xorbs × ((f : GarbageFinding) → ¬ IsGarbage files xorbs f)
