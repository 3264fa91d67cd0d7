use Rattle.xet_records.proofs.RecordKinds.{xorb_laws}
use Rattle.xet_records.proofs.xorb_structs.MDBXorbInfoSectionRecord.laws.Goals as goal

pub returns : goal.returns
returns c = xorb_laws
