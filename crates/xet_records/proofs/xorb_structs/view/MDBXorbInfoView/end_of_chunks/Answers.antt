use Rattle.std.proofs.Common.{arith}
use Rattle.xet_records.proofs.XorbViews.{last_end, checked_end}
use Rattle.xet_records.proofs.xorb_structs.view.MDBXorbInfoView.end_of_chunks.Goals as goal

pub returns : goal.returns
returns c = checked_end c.checked_add.result _ _ (last_end c.args.self.now.chunks _ _ c.chunk-last.ensures (omega arith)) c.checked_add.ensures
