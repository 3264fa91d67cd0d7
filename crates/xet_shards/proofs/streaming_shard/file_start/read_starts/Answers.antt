use Rattle.std.proofs.Common.{rules, [], ◌∷◌, ◌++◌, sym, ap, ◌∙◌, subst, arith}
use Rattle.std.specs.Ordering.{eq_by_cmp}
use Rattle.std.proofs.lemmas.List.Sorted.{list_any-IsPermutation}
use Rattle.std.proofs.lemmas.Result.{err_from_is_err_and}
use Rattle.xet_records.specs.FileRecord.{file_records, file_records_in}
use Rattle.xet_records.specs.Reading.{ReadsEnd}
use Rattle.xet_records.specs.Reading.NextRecordNotRead.{no_header}
use Rattle.xet_records.specs.ViewReading.{ReadsNextView}
use Rattle.xet_records.proofs.RecordKinds.{file_laws, laws_in}
use Rattle.xet_shards.specs.StreamingShard.MinimalShard.{start_cmp, start_of_file, has_start}
use Rattle.xet_shards.proofs.ShardInMemory.Walks.{flat_map-push}
use Rattle.xet_shards.proofs.StreamingShard.MinimalReading.{no_views, one_file_read}
use Rattle.xet_shards.proofs.streaming_shard.file_start.read_starts.Goals as goal

pub loop-buffer-init : goal.loop-buffer-init
loop-buffer-init g c = (
  [],
  no_views (file_records_in c.args.version) (laws_in file_records file_laws c.args.version) (λ r. r) _ (g.met.I.ByteInput.reads_nothing _),
  search rules,
)

pub returns-in_err-file : goal.returns-in_err-file
returns-in_err-file g c =
    let p = err_from_is_err_and c.from_residual.result c.from_residual.ensures.1 in
    let before = c.loop-buffer.invariant in
    rw (p.1, p.2) (record { mid = c.loop-buffer.input; views = before.0; left = _; records = before.1; stops = c.in_err-file.ensures })

pub returns-in_err-push_start : goal.returns-in_err-push_start
returns-in_err-push_start g c =
    let reads = g.I.ByteInput.reads in
    let file = c.in-Some.file in
    let before = c.loop-buffer.invariant in
    let next = subst (ReadsNextView (file_records_in c.args.version) (λ r. r) (reads c.loop-buffer.input c.read_view.new.input) c.loop-buffer.rows_left c.read_view.new.rows_left) c.in-Some.is c.in_ok-file.ensures in
    let p = err_from_is_err_and c.from_residual-in_err-push_start.result c.from_residual-in_err-push_start.ensures.1 in
    rw (p.1, p.2) (record {
      mid = c.read_view.new.input;
      views = before.0 ++ file ∷ [];
      left = c.read_view.new.rows_left;
      records = one_file_read reads g.met.I.ByteInput.joins _ c.loop-buffer.input c.read_view.new.input _ _ c.args.version before.0 file before.1 next;
      stops = no_header (g.met.I.ByteInput.lacks_memory _ _ [] 48 _ (g.met.I.ByteInput.reads_nothing _) (omega arith) (omega arith) c.in_err-push_start.ensures.causes);
    })

pub loop-buffer-preserved-in_ok-push_start : goal.loop-buffer-preserved-in_ok-push_start
loop-buffer-preserved-in_ok-push_start g c =
    let reads = g.I.ByteInput.reads in
    let file = c.in-Some.file in
    let before = c.loop-buffer.invariant in
    let next = subst (ReadsNextView (file_records_in c.args.version) (λ r. r) (reads c.loop-buffer.input c.read_view.new.input) c.loop-buffer.rows_left c.read_view.new.rows_left) c.in-Some.is c.in_ok-file.ensures in (
      before.0 ++ file ∷ [],
      one_file_read reads g.met.I.ByteInput.joins _ c.loop-buffer.input c.read_view.new.input _ _ c.args.version before.0 file before.1 next,
      c.in_ok-push_start.ensures.ok ∙ ap (λ ss. ss ++ start_of_file file) before.2 ∙ sym (flat_map-push start_of_file before.0 file),
    )

pub loop-buffer-preserved : goal.loop-buffer-preserved
loop-buffer-preserved g c =
    let reads = g.I.ByteInput.reads in
    let file = c.in-Some.file in
    let before = c.loop-buffer.invariant in
    let next = subst (ReadsNextView (file_records_in c.args.version) (λ r. r) (reads c.loop-buffer.input c.read_view.new.input) c.loop-buffer.rows_left c.read_view.new.rows_left) c.in-Some.is c.in_ok-file.ensures in (
      before.0 ++ file ∷ [],
      one_file_read reads g.met.I.ByteInput.joins _ c.loop-buffer.input c.read_view.new.input _ _ c.args.version before.0 file before.1 next,
      c.in_ok-push_start.ensures.ok ∙ ap (λ ss. ss ++ start_of_file file) before.2 ∙ sym (flat_map-push start_of_file before.0 file),
    )

pub returns : goal.returns
returns g c =
    let before = c.loop-buffer.invariant in
    let reads = g.I.ByteInput.reads c.loop-buffer.input c.read_view.new.input in
    let last : ReadsEnd (file_records_in c.args.version) reads c.loop-buffer.rows_left c.read_view.new.rows_left = search rules in (
      before.0,
      record { mid = c.loop-buffer.input; left = _; records = before.1; bookend = last.bookend },
      λ j at. (sym (list_any-IsPermutation (eq_by_cmp start_cmp at) _ _ c.sort_unstable.ensures.permutation) ∙ ap (λ ss. has_start ss at) before.2) j,
      search rules,
    )
