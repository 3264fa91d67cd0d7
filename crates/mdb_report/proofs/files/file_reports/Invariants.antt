use Rattle.std.proofs.Common.{take}
use Rattle.std.specs.List.{AllZip}
use Rattle.mdb_records.specs.RecordReports.{ReportsFile}
use Rattle.mdb_report.proofs.files.file_reports.Given as goal

-- the files so far have their reports
abbrev pub invariant-loop-file : goal.invariant-loop-file
invariant-loop-file l = AllZip (λ file report. ReportsFile file l.with_rows report) (take l.file-index l.file-items) l.reports.items
