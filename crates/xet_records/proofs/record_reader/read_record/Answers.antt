use Rattle.std.proofs.Common.{subst}
use Rattle.std.proofs.lemmas.Result.{err_from_is_err_and}
use Rattle.xet_records.specs.RecordKind.{in_version}
use Rattle.xet_records.specs.Reading.{ReadsNextHeader}
use Rattle.xet_records.specs.Reading.NextRecordNotRead.{no_rows}
use Rattle.xet_records.proofs.SectionRecords.{rows_after_header}
use Rattle.xet_records.proofs.record_reader.read_record.Goals as goal

pub returns-in_err-read_rows_after : goal.returns-in_err-read_rows_after
returns-in_err-read_rows_after g c =
    let reads = g.I.ByteInput.reads c.args.input.now c.read_header.new.input in
    let begun = subst (ReadsNextHeader (in_version g.R.SectionRecord.kind c.args.version) reads c.args.rows_left.now c.read_header.new.rows_left) c.in-Some.is c.in_ok-header.ensures in
    let p = err_from_is_err_and c.from_residual-in_err-read_rows_after.result c.from_residual-in_err-read_rows_after.ensures.1 in
    rw (p.1, p.2) (no_rows c.in-Some.header c.read_header.new.input _ begun c.in_err-read_rows_after.ensures)

pub returns : goal.returns
returns g c =
    let reads = g.I.ByteInput.reads c.args.input.now c.read_header.new.input in
    let begun = subst (ReadsNextHeader (in_version g.R.SectionRecord.kind c.args.version) reads c.args.rows_left.now c.read_header.new.rows_left) c.in-Some.is c.in_ok-header.ensures in
    rows_after_header g.R.SectionRecord.kind c.laws.ensures c.args.version _ _ _ _ _ c.in-Some.header _ (g.met.I.ByteInput.joins _ c.read_header.new.input _) begun c.requires
    c.in_ok-read_rows_after.ensures
