use Rattle.mdb_report.proofs.Reading.{next_xorb_whole, of_result}
use Rattle.mdb_report.proofs.section.SectionReader.next_xorb.Goals as goal

pub returns-clause-whole : goal.returns-clause-whole
returns-clause-whole g c = of_result c.next.result _ _ _ (λ found reads. next_xorb_whole _ c.args.self.now.version _ _ found reads) c.next.ensures.read
