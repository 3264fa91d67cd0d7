use Rattle.std.proofs.Common.{[], ◌∷◌, ◌++◌, refl, subst, arith}
use Rattle.std.proofs.lemmas.Result.{err_from_is_err_and}
use Rattle.xet_records.specs.RecordKind.{in_version}
use Rattle.xet_records.proofs.RecordKinds.{laws_in}
use Rattle.xet_records.specs.Reading.NextRecordNotRead.{no_header}
use Rattle.xet_records.specs.ViewReading.{ReadsNextView}
use Rattle.xet_shards.proofs.StreamingShard.MinimalReading.{no_views, more_views, kept_more}
use Rattle.xet_shards.proofs.streaming_shard.minimal_reader.read_views.Goals as goal

pub loop-buffer-preserved : goal.loop-buffer-preserved
loop-buffer-preserved g c =
    let reads = g.I.ByteInput.reads c.loop-buffer.input c.read_view.new.input in
    let next = subst (ReadsNextView (in_version g.R.SectionRecord.kind c.args.version) g.V.RecordView.shown reads c.loop-buffer.rows_left c.read_view.new.rows_left) c.in-Some.is c.in_ok-view.ensures in
    let inv = c.loop-buffer.invariant in (
      inv.0 ++ c.in-Some.view ∷ [],
      more_views (in_version g.R.SectionRecord.kind c.args.version) (laws_in g.R.SectionRecord.kind c.laws.ensures c.args.version) g.V.RecordView.shown _ _ _ _ _ _ c.in-Some.view (g.met.I.ByteInput.joins _ c.loop-buffer.input _) inv.1 next,
      kept_more c.args.is_kept inv.0 c.in-Some.view _ _ inv.2 c.in_ok-push_if.ensures.ok,
    )

pub returns-in_err-view : goal.returns-in_err-view
returns-in_err-view g c =
    let p = err_from_is_err_and c.from_residual-in_err-view.result c.from_residual-in_err-view.ensures.1 in
    let inv = c.loop-buffer.invariant in
    rw (p.1, p.2) (record { mid = c.loop-buffer.input; views = inv.0; left = _; records = inv.1; stops = c.in_err-view.ensures })

pub returns-in_err-push_if : goal.returns-in_err-push_if
returns-in_err-push_if g c =
    let reads = g.I.ByteInput.reads c.loop-buffer.input c.read_view.new.input in
    let next = subst (ReadsNextView (in_version g.R.SectionRecord.kind c.args.version) g.V.RecordView.shown reads c.loop-buffer.rows_left c.read_view.new.rows_left) c.in-Some.is c.in_ok-view.ensures in
    let inv = c.loop-buffer.invariant in
    let p = err_from_is_err_and c.from_residual-in_err-push_if.result c.from_residual-in_err-push_if.ensures.1 in
    rw (p.1, p.2) (record {
      mid = c.read_view.new.input;
      views = inv.0 ++ c.in-Some.view ∷ [];
      left = c.read_view.new.rows_left;
      records = more_views (in_version g.R.SectionRecord.kind c.args.version) (laws_in g.R.SectionRecord.kind c.laws.ensures c.args.version) g.V.RecordView.shown _ _ _ _ _ _ c.in-Some.view (g.met.I.ByteInput.joins _ c.loop-buffer.input _) inv.1 next;
      stops = no_header (g.met.I.ByteInput.lacks_memory _ _ [] 48 _ (g.met.I.ByteInput.reads_nothing _) (omega arith) (omega arith) c.in_err-push_if.ensures.causes);
    })

pub returns-in_err-buffer : goal.returns-in_err-buffer
returns-in_err-buffer g c =
    let p = err_from_is_err_and c.from_residual.result c.from_residual.ensures.1 in
    let nothing = g.met.I.ByteInput.reads_nothing c.args.input.now in
    let kind = in_version g.R.SectionRecord.kind c.args.version in
    rw (p.1, p.2) (record {
      mid = c.args.input.now;
      views = [];
      left = 4294967295;
      records = no_views kind (laws_in g.R.SectionRecord.kind c.laws.ensures c.args.version) g.V.RecordView.shown _ nothing;
      stops = no_header (g.met.I.ByteInput.lacks_memory _ _ [] 48 _ nothing (omega arith) (omega arith) refl);
    })
