use Rattle.xet_records.proofs.ViewsAgain.{xorb_again}
use Rattle.xet_records.proofs.xorb_structs.view.MDBXorbInfoView.new.Goals as goal

pub returns-clause-again : goal.returns-clause-again
returns-clause-again c = λ r rest stored are. xorb_again _ r rest stored are c.of_front.result c.of_front.ensures
