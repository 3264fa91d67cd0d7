use Rattle.std.proofs.Common.{rules, [], ◌∷◌, ◌++◌, sym, ap, ◌∙◌, subst, arith}
use Rattle.std.proofs.lemmas.Result.{err_from_is_err_and}
use Rattle.xet_records.specs.Reading.{ReadsEnd}
use Rattle.xet_records.specs.Reading.NextRecordNotRead.{no_header}
use Rattle.xet_records.specs.ViewReading.{ReadsNextView}
use Rattle.xet_records.specs.XorbRecord.{xorb_records}
use Rattle.xet_records.proofs.RecordKinds.{xorb_laws}
use Rattle.xet_shards.specs.StreamingShard.MinimalShard.{has_start, ascending_hashes, eligible_in}
use Rattle.xet_shards.proofs.ShardInMemory.Walks.{flat_map-push}
use Rattle.xet_shards.proofs.StreamingShard.MinimalShard.{ascending_hashes-nil}
use Rattle.xet_shards.proofs.StreamingShard.MinimalReading.{no_views, hashes_listed, one_xorb_read}
use Rattle.xet_shards.proofs.streaming_shard.eligible.read_eligible_after.Goals as goal

pub loop-buffer-init : goal.loop-buffer-init
loop-buffer-init g c = ([], no_views xorb_records xorb_laws (λ x. x) _ (g.met.I.ByteInput.reads_nothing _), c.new-hashes.ensures.empty ∙ sym ascending_hashes-nil)

pub returns-in_err-xorb : goal.returns-in_err-xorb
returns-in_err-xorb g c =
    let p = err_from_is_err_and c.from_residual.result c.from_residual.ensures.1 in
    let before = c.loop-buffer.invariant in
    rw (p.1, p.2) (record { mid = c.loop-buffer.input; views = before.0; left = _; records = before.1; stops = c.in_err-xorb.ensures })

pub returns-in_err-insert_eligible : goal.returns-in_err-insert_eligible
returns-in_err-insert_eligible g c =
    let reads = g.I.ByteInput.reads in
    let xorb = c.in-Some.xorb in
    let before = c.loop-buffer.invariant in
    let next = subst (ReadsNextView xorb_records (λ x. x) (reads c.loop-buffer.input c.read_view.new.input) c.loop-buffer.rows_left c.read_view.new.rows_left) c.in-Some.is c.in_ok-xorb.ensures in
    let p = err_from_is_err_and c.from_residual-in_err-insert_eligible.result c.from_residual-in_err-insert_eligible.ensures.1 in
    rw (p.1, p.2) (record {
      mid = c.read_view.new.input;
      views = before.0 ++ xorb ∷ [];
      left = c.read_view.new.rows_left;
      records = one_xorb_read reads g.met.I.ByteInput.joins _ c.loop-buffer.input c.read_view.new.input _ _ before.0 xorb before.1 next;
      stops = no_header (g.met.I.ByteInput.lacks_memory _ _ [] 48 _ (g.met.I.ByteInput.reads_nothing _) (omega arith) (omega arith) c.in_err-insert_eligible.ensures.causes);
    })

pub loop-buffer-preserved-in_ok-insert_eligible : goal.loop-buffer-preserved-in_ok-insert_eligible
loop-buffer-preserved-in_ok-insert_eligible g c =
    let reads = g.I.ByteInput.reads in
    let xorb = c.in-Some.xorb in
    let before = c.loop-buffer.invariant in
    let eligible = eligible_in (has_start c.args.starts.now) in
    let next = subst (ReadsNextView xorb_records (λ x. x) (reads c.loop-buffer.input c.read_view.new.input) c.loop-buffer.rows_left c.read_view.new.rows_left) c.in-Some.is c.in_ok-xorb.ensures in (
      before.0 ++ xorb ∷ [],
      one_xorb_read reads g.met.I.ByteInput.joins _ c.loop-buffer.input c.read_view.new.input _ _ before.0 xorb before.1 next,
      c.in_ok-insert_eligible.ensures.ok _ before.2 ∙ ap ascending_hashes (sym (flat_map-push eligible before.0 xorb)),
    )

pub loop-buffer-preserved : goal.loop-buffer-preserved
loop-buffer-preserved g c =
    let reads = g.I.ByteInput.reads in
    let xorb = c.in-Some.xorb in
    let before = c.loop-buffer.invariant in
    let eligible = eligible_in (has_start c.args.starts.now) in
    let next = subst (ReadsNextView xorb_records (λ x. x) (reads c.loop-buffer.input c.read_view.new.input) c.loop-buffer.rows_left c.read_view.new.rows_left) c.in-Some.is c.in_ok-xorb.ensures in (
      before.0 ++ xorb ∷ [],
      one_xorb_read reads g.met.I.ByteInput.joins _ c.loop-buffer.input c.read_view.new.input _ _ before.0 xorb before.1 next,
      c.in_ok-insert_eligible.ensures.ok _ before.2 ∙ ap ascending_hashes (sym (flat_map-push eligible before.0 xorb)),
    )

pub returns : goal.returns
returns g c =
    let before = c.loop-buffer.invariant in
    let reads = g.I.ByteInput.reads c.loop-buffer.input c.read_view.new.input in
    let last : ReadsEnd xorb_records reads c.loop-buffer.rows_left c.read_view.new.rows_left = search rules in
    hashes_listed g.I.ByteInput.reads g.I.ByteInput.fails _ c.loop-buffer.input c.read_view.new.input _ before.0 (has_start c.args.starts.now) _ before.1 last.bookend before.2
    (λ xs e read short is. g.met.I.ByteInput.lacks_memory _ _ xs 48 e read short (omega arith) is) c.list_of.result c.list_of.ensures.ok c.list_of.ensures.causes
