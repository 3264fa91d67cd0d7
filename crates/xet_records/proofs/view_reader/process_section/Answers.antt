use Rattle.std.proofs.Common.{inr, subst, rules, of_calls}
use Rattle.std.proofs.lemmas.Result.{err_from_is_err_and}
use Rattle.xet_records.specs.RecordKind.{in_version}
use Rattle.xet_records.specs.ViewReading.{ReadsNextView}
use Rattle.xet_records.proofs.RecordKinds.{laws_in}
use Rattle.xet_records.proofs.Processing.{nothing_processed, more_processed}
use Rattle.xet_records.proofs.view_reader.process_section.Goals as goal

pub loop-buffer-init : goal.loop-buffer-init
loop-buffer-init g c =
    (c.requires, nothing_processed (in_version g.R.SectionRecord.kind c.args.version) (laws_in g.R.SectionRecord.kind c.laws.ensures c.args.version) _ _ _ _ (g.met.I.ByteInput.reads_nothing _))

pub returns-in_err-view-clause-calls : goal.returns-in_err-view-clause-calls
returns-in_err-view-clause-calls g c =
    let p = err_from_is_err_and c.from_residual.result c.from_residual.ensures.1 in
    rw (p.1, p.2) (inr (record { mid = c.loop-buffer.input; left = _; records = c.loop-buffer.invariant.1; stops = c.in_err-view.ensures }))

pub loop-buffer-preserved : goal.loop-buffer-preserved
loop-buffer-preserved g c =
    let reads = g.I.ByteInput.reads c.loop-buffer.input c.read_view.new.input in
    let next = subst (ReadsNextView (in_version g.R.SectionRecord.kind c.args.version) g.V.RecordView.shown reads c.loop-buffer.rows_left c.read_view.new.rows_left) c.in-Some.is c.in_ok-view.ensures in (
      search (rules, of_calls),
      more_processed (in_version g.R.SectionRecord.kind c.args.version) (laws_in g.R.SectionRecord.kind c.laws.ensures c.args.version) _ _ _ _ _ _ _ _ _ _ c.in-Some.view (g.met.I.ByteInput.joins _ c.loop-buffer.input _) c.loop-buffer.invariant.1 next
          (search rules),
    )
