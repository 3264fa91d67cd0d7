use Rattle.std.proofs.Common.{refl, sym, subst, arith}
use Rattle.std.proofs.lemmas.List.{take_all}
use Rattle.xet_base.specs.Bytes.{AreBytes}
use Rattle.xet_records.specs.XorbRecord.{xorb_records}
use Rattle.xet_records.specs.Decoding.{xorb_at}
use Rattle.xet_records.specs.View.{IsWholeXorb}
use Rattle.xet_records.proofs.Views.{xorb_decoding, cut_shown, xorb_stored}
use Rattle.xet_records.proofs.xorb_structs.view.MDBXorbInfoViewRecordViewMDBXorbInfo.of_bytes.Goals as goal

pub invariant_of-result : goal.invariant_of-result
invariant_of-result c =
    cut_shown xorb_records IsWholeXorb xorb_at xorb_decoding c.args.header c.args.bytes c.args.bytes _ c.requires.begins (subst AreBytes c.as_slice.ensures c.all_bytes.ensures)
    refl c.requires.few (omega (arith, c.requires.size)) (sym (take_all _ c.args.bytes (omega (arith, c.requires.size))))

pub returns : goal.returns
returns c = xorb_stored _ _ _ (invariant_of-result c)
