use Rattle.xet_records.specs.XorbRecord.{xorb_records}
use Rattle.xet_records.proofs.RecordKinds.{xorb_laws}
use Rattle.xet_records.proofs.SectionRecords.{not_cut_short, read_again}
use Rattle.xet_records.proofs.xorb_structs.MDBXorbInfo.deserialize.Goals as goal

pub returns-clause-whole : goal.returns-clause-whole
returns-clause-whole g c = not_cut_short xorb_records xorb_laws _ (g.R.Read.remaining c.read_record.new.input) _ _ _ c.read_record.result c.read_record.ensures

pub returns-clause-again : goal.returns-clause-again
returns-clause-again g c = read_again xorb_records xorb_laws _ (g.R.Read.remaining c.read_record.new.input) _ _ _ c.read_record.result c.read_record.ensures
