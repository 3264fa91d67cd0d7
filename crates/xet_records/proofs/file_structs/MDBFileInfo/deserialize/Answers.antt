use Rattle.xet_records.specs.FileRecord.{file_records}
use Rattle.xet_records.proofs.RecordKinds.{file_laws}
use Rattle.xet_records.proofs.SectionRecords.{not_cut_short, few_rows, read_again}
use Rattle.xet_records.proofs.file_structs.MDBFileInfo.deserialize.Goals as goal

pub returns-clause-whole : goal.returns-clause-whole
returns-clause-whole g c = not_cut_short file_records file_laws _ (g.R.Read.remaining c.read_record.new.input) _ _ _ c.read_record.result c.read_record.ensures

pub returns-clause-fits : goal.returns-clause-fits
returns-clause-fits g c = few_rows file_records file_laws _ (g.R.Read.remaining c.read_record.new.input) _ _ _ c.read_record.result c.read_record.ensures

pub returns-clause-again : goal.returns-clause-again
returns-clause-again g c = read_again file_records file_laws _ (g.R.Read.remaining c.read_record.new.input) _ _ _ c.read_record.result c.read_record.ensures
