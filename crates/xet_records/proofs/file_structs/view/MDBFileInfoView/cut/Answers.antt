use Rattle.std.proofs.Common.{subst, arith}
use Rattle.xet_base.specs.Bytes.{AreBytes}
use Rattle.xet_records.specs.FileRecord.{file_records}
use Rattle.xet_records.specs.Decoding.{file_at}
use Rattle.xet_records.specs.View.{IsWholeFile}
use Rattle.xet_records.proofs.Views.{file_decoding, cut_shown, shown_begins}
use Rattle.xet_records.proofs.file_structs.view.MDBFileInfoView.cut.Goals as goal

pub invariant_of-result : goal.invariant_of-result
invariant_of-result c =
    cut_shown file_records IsWholeFile file_at file_decoding c.args.header c.args.bytes _ _ c.requires (subst AreBytes c.as_slice.ensures c.all_bytes.ensures)
    c.num_info_entry_following.ensures (omega arith) c.in_ok-bytes.ensures.0 c.in_ok-bytes.ensures.1

pub returns : goal.returns
returns c = shown_begins file_records IsWholeFile c.args.header c.args.bytes _ _ _ c.in_ok-bytes.ensures.1 (invariant_of-result c)
