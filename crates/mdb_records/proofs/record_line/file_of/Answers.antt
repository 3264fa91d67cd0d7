use Rattle.std.proofs.Common.{arith, sym, subst, ◌∙◌, ◌≡◌}
use Rattle.std.specs.Prelude.{IfSome}
use Rattle.xet_records.specs.FileRecord.{FitsItsHeader, size_of_file}
use Rattle.mdb_records.specs.RecordReports.{ReportsRows}
use Rattle.mdb_records.proofs.RecordLines.{not_none, same_size, fits_too}
use Rattle.mdb_records.proofs.record_line.file_of.Goals as goal
use Rattle.mdb_records.proofs.record_line.file_of.Goals.{else-fits_its_header-via-then-fits_its_header+else-file_size-report, else-fits_its_header-via-else-fits_its_header}

-- another file with the report has the same rows, so the file that was made is one too
pub returns-else-fits_its_header-clause-causes : goal.returns-else-fits_its_header-clause-causes
returns-else-fits_its_header-clause-causes c =
    let report = c.args.report.now in
    let rows = c.in-Some.rows in
    let made = c.in_ok-file.file in (
      not_none report.rows rows c.in-Some.is,
      λ other fits reports.
          let of_other : ReportsRows other rows = subst (λ o. IfSome o (ReportsRows other)) c.in-Some.is reports.rows in
          let of_made = c.in_ok-file.ensures.rows in
          let header = c.in_ok-file.ensures.header in
          let fits_made : FitsItsHeader made =
          fits_too made other rows of_made of_other (sym reports.flags ∙ sym header.1) (sym reports.segments ∙ sym header.2) fits in
          let size : size_of_file made ≡ report.bytes = same_size made other rows of_made of_other ∙ sym reports.bytes in
          elim c.else-fits_its_header.branch [
            | else-fits_its_header-via-then-fits_its_header+else-file_size-report w ↦
                absurd (omega (arith, size, w.file_size.ensures.size, w.if-file_size-report.false))
            | else-fits_its_header-via-else-fits_its_header w ↦
                absurd (grind (arith, c.fits_its_header.ensures.1 fits_made, w.if-fits_its_header.false))
          ],
    )
