use Rattle.xet_records.proofs.RecordKinds.{file_laws}
use Rattle.xet_records.proofs.file_structs.MDBFileInfoSectionRecord.laws.Goals as goal

pub returns : goal.returns
returns c = file_laws
