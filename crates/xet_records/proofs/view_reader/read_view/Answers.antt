use Rattle.std.proofs.Common.{subst}
use Rattle.std.proofs.lemmas.Result.{err_from_is_err_and}
use Rattle.xet_records.specs.RecordKind.{in_version}
use Rattle.xet_records.specs.Reading.{ReadsNextHeader}
use Rattle.xet_records.proofs.RecordKinds.{laws_in}
use Rattle.xet_records.proofs.ViewReading.{rows_not_read}
use Rattle.xet_records.proofs.view_reader.read_view.Goals as goal

pub returns-in_err-bytes : goal.returns-in_err-bytes
returns-in_err-bytes g c =
    let reads = g.I.ByteInput.reads c.args.input.now c.read_header.new.input in
    let begun = subst (ReadsNextHeader (in_version g.R.SectionRecord.kind c.args.version) reads c.args.rows_left.now c.read_header.new.rows_left) c.in-Some.is c.in_ok-header.ensures in
    let p = err_from_is_err_and c.from_residual-in_err-bytes.result c.from_residual-in_err-bytes.ensures.1 in
    rw (p.1, p.2) (rows_not_read (in_version g.R.SectionRecord.kind c.args.version) (laws_in g.R.SectionRecord.kind c.laws.ensures c.args.version) _ _ g.met.I.ByteInput.joins g.met.I.ByteInput.lacks_memory _ _ _ _ c.read_header.new.input _
    c.in-Some.header _ c.rows_after-count.ensures.rows begun c.in_err-bytes.ensures)
