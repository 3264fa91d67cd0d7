use Rattle.xet_records.proofs.ViewsAgain.{file_again}
use Rattle.xet_records.proofs.file_structs.view.MDBFileInfoView.new.Goals as goal

pub returns-clause-again : goal.returns-clause-again
returns-clause-again c = λ r rest stored few are. file_again _ r rest stored few are c.of_front.result c.of_front.ensures
