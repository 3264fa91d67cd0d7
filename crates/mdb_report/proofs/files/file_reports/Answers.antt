use Rattle.std.proofs.Common.{arith, ◌∙◌, subst}
use Rattle.std.specs.List.{AllZip}
use Rattle.std.proofs.lemmas.List.{take_all}
use Rattle.mdb_records.specs.RecordReports.{ReportsFile}
use Rattle.mdb_report.proofs.Reading.{one_more_report}
use Rattle.mdb_report.proofs.files.file_reports.Goals as goal

pub loop-file-preserved : goal.loop-file-preserved
loop-file-preserved c =
    one_more_report (λ file report. ReportsFile file c.args.with_rows report) c.deref-file-items.result.now c.loop-file.reports.items c.push.new.self.items c.loop-file.file-index c.file-item.result c.in_ok-of_file.field-0
    (omega arith) c.file-item.is c.in_ok-push.ensures.items c.loop-file.invariant c.in_ok-of_file.ensures

pub returns : goal.returns
returns c = (
  c.in_ok-files.files.items,
  c.in_ok-files.ensures.read,
  subst (λ xs. AllZip (λ file report. ReportsFile file c.args.with_rows report) xs c.loop-file.reports.items)
      (take_all c.loop-file.file-index c.deref-file-items.result.now (omega arith) ∙ c.deref-file-items.ensures.value)
      c.loop-file.invariant,
)
