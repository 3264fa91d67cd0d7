use Rattle.std.proofs.Common.{[], subst, arith}
use Rattle.std.proofs.lemmas.Result.{err_from_is_err_and}
use Rattle.xet_records.specs.RecordKind.{in_version}
use Rattle.xet_records.specs.Reading.{ReadsNextRecord}
use Rattle.xet_records.specs.Reading.NextRecordNotRead.{no_header}
use Rattle.xet_records.proofs.RecordKinds.{laws_in}
use Rattle.xet_records.proofs.SectionRecords.{more_read}
use Rattle.xet_records.proofs.record_reader.read_section.Goals as goal

pub returns-in_err-next : goal.returns-in_err-next
returns-in_err-next g c =
    let p = err_from_is_err_and c.from_residual.result c.from_residual.ensures.1 in
    rw (p.1, p.2) (record { mid = c.loop-records.input; found = _; left = _; records = c.loop-records.invariant; stops = c.in_err-next.ensures })

pub loop-records-preserved : goal.loop-records-preserved
loop-records-preserved g c =
    let reads = g.I.ByteInput.reads c.loop-records.input c.read_record.new.input in
    let next = subst (ReadsNextRecord (in_version g.R.SectionRecord.kind c.args.version) reads c.loop-records.rows_left c.read_record.new.rows_left) c.in-Some.is c.in_ok-next.ensures in
    rw c.in_ok-push.ensures.items (more_read (in_version g.R.SectionRecord.kind c.args.version) (laws_in g.R.SectionRecord.kind c.laws.ensures c.args.version) _ _ _ _ _ _ c.in-Some.next
    (g.met.I.ByteInput.joins _ c.loop-records.input _) c.loop-records.invariant next)

pub returns-in_err-push : goal.returns-in_err-push
returns-in_err-push g c =
    let reads = g.I.ByteInput.reads c.loop-records.input c.read_record.new.input in
    let next = subst (ReadsNextRecord (in_version g.R.SectionRecord.kind c.args.version) reads c.loop-records.rows_left c.read_record.new.rows_left) c.in-Some.is c.in_ok-next.ensures in
    let p = err_from_is_err_and c.from_residual-in_err-push.result c.from_residual-in_err-push.ensures.1 in
    rw p.1 (record {
      mid = c.read_record.new.input;
      found = _;
      left = c.read_record.new.rows_left;
      records = more_read (in_version g.R.SectionRecord.kind c.args.version) (laws_in g.R.SectionRecord.kind c.laws.ensures c.args.version) _ _ _ _ _ _ c.in-Some.next (g.met.I.ByteInput.joins _ c.loop-records.input _) c.loop-records.invariant next;
      stops = no_header (g.met.I.ByteInput.lacks_memory _ _ [] 48 _ (g.met.I.ByteInput.reads_nothing _) (omega arith) (omega arith) p.2);
    })
