use Rattle.std.proofs.Common.{refl, subst, arith}
use Rattle.xet_base.specs.Bytes.{AreBytes}
use Rattle.xet_records.specs.XorbRecord.{xorb_records}
use Rattle.xet_records.specs.Decoding.{xorb_at}
use Rattle.xet_records.specs.View.{IsWholeXorb}
use Rattle.xet_records.proofs.Views.{xorb_decoding, cut_shown, shown_begins}
use Rattle.xet_records.proofs.xorb_structs.view.MDBXorbInfoView.cut.Goals as goal

pub invariant_of-result : goal.invariant_of-result
invariant_of-result c =
    cut_shown xorb_records IsWholeXorb xorb_at xorb_decoding c.args.header c.args.bytes _ _ c.requires (subst AreBytes c.as_slice.ensures c.all_bytes.ensures)
    refl (omega arith) c.in_ok-bytes.ensures.0 c.in_ok-bytes.ensures.1

pub returns : goal.returns
returns c = shown_begins xorb_records IsWholeXorb c.args.header c.args.bytes _ _ _ c.in_ok-bytes.ensures.1 (invariant_of-result c)
