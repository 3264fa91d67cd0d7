use Rattle.mdb_report.proofs.Reading.{next_file_fits, of_result}
use Rattle.mdb_report.proofs.section.SectionReader.next_file.Goals as goal

pub returns-clause-fits : goal.returns-clause-fits
returns-clause-fits g c = of_result c.next.result _ _ _ (λ found reads. next_file_fits _ c.args.self.now.version _ _ found reads) c.next.ensures.read
