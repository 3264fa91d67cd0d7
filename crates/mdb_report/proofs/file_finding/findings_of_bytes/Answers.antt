use Rattle.std.proofs.Common.{map, ap, ◌∙◌}
use Rattle.mdb_report.specs.declared.file_finding.FileFinding.TheVariants.{Bytes}
use Rattle.mdb_report.proofs.FileFindings.{notes_of}
use Rattle.mdb_report.proofs.file_finding.findings_of_bytes.Goals as goal

pub returns-clause-intact : goal.returns-clause-intact
returns-clause-intact c = λ notes.
    c.in_ok-findings.ensures.intact.0 (notes_of c.in_ok-findings.findings.items c.in_ok-file_findings.field-0.items (c.in_ok-file_findings.ensures ∙ ap (map Bytes) c.as_slice.ensures.value) notes)
