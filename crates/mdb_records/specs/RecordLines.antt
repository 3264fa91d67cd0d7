-- Records that are made of reports.
use Rattle.std.specs.Prelude.{◌≡◌, ◌≢◌, true, None, ⊤}
use Rattle.xet_records.specs.declared.file_structs.MDBFileInfo.{MDBFileInfo}
use Rattle.xet_records.specs.declared.xorb_structs.MDBXorbInfo.{MDBXorbInfo}
use Rattle.xet_records.specs.FileRecord.{FitsItsHeader}
use Rattle.xet_records.specs.XorbRecord.{HasItsChunks}
use Rattle.mdb_records.specs.RecordReports.{ReportsFile, ReportsXorb}
use Rattle.mdb_records.specs.declared.record_line.LineFault.{LineFault}
use Rattle.mdb_records.specs.declared.record_line.LineFault.TheVariants.{OutOfMemory, NoRows, Mismatch}
use Rattle.mdb_records.specs.declared.record_line.Record.{Record}
use Rattle.mdb_records.specs.declared.record_line.Record.TheVariants.{File, Xorb}
use Rattle.mdb_records.specs.declared.records.FileReport.{FileReport}
use Rattle.mdb_records.specs.declared.records.XorbReport.{XorbReport}

-- a record has the rows that its header announces
abbrev pub IsWhole : Record → Type 0
IsWhole (File file) = FitsItsHeader file
IsWhole (Xorb xorb) = HasItsChunks xorb

-- why a report gives no file: memory is lacking, it has no rows, or no file that fits its header has
-- this report
abbrev pub NoFile : FileReport → LineFault → Type 0
NoFile report OutOfMemory = ⊤
NoFile report NoRows = report.rows ≡ None
NoFile report Mismatch =
    (report.rows ≢ None)
    × ((file : MDBFileInfo) → FitsItsHeader file → ReportsFile file true report → ⊥)
NoFile report _ = ⊥

-- why a report gives no xorb: memory is lacking, it has no rows, or no xorb that has its chunks has
-- this report
abbrev pub NoXorb : XorbReport → LineFault → Type 0
NoXorb report OutOfMemory = ⊤
NoXorb report NoRows = report.rows ≡ None
NoXorb report Mismatch =
    (report.rows ≢ None)
    × ((xorb : MDBXorbInfo) → HasItsChunks xorb → ReportsXorb xorb true report → ⊥)
NoXorb report _ = ⊥
