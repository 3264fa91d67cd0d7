use Rattle.std.proofs.Common.{◌≡◌, ℕ, ◌∷◌, [], ◌-◌, ◌+◌, ◌++◌, get_or, take, take_all, drop, flat_map, map, sym, ap, ◌∙◌, subst, append-nil, arith, rules}
use Rattle.std.specs.Io.KnownBytes.{Appends}
use Rattle.std.specs.List.{enumerate_from}
use Rattle.std.specs.Ordering.{is_ge}
use Rattle.std.proofs.KnownBytes.{Appends-trans}
use Rattle.std.proofs.lemmas.List.{append_assoc}
use Rattle.std.proofs.lemmas.Grind.{flat_map-append}
use Rattle.std.proofs.lemmas.Option.{slice_get-get_or}
use Rattle.std.proofs.lemmas.Result.{on_ok_weaker}
use Rattle.xet_records.specs.declared.xorb_structs.XorbChunkSequenceEntry.{XorbChunkSequenceEntry}
use Rattle.xet_records.specs.XorbRow.{xorb_header_row, chunk_row}
use Rattle.xet_records.specs.XorbRecord.{xorb_record_bytes}
use Rattle.xet_shards.specs.declared.streaming_shard.file_start.FileStart.{FileStart}
use Rattle.xet_shards.specs.StreamingShard.MinimalShard.{start_cmp, has_start, chunk_of, marked_if}
use Rattle.xet_shards.proofs.StreamingShard.FileStarts.{all_left, none_left, passed, none_before_end, next_start}
use Rattle.xet_shards.proofs.StreamingShard.MinimalShard.{StartsNowhere, marks_to, none_marked_to, one_marked}
use Rattle.xet_shards.proofs.streaming_shard.file_start.write_marked.Goals as goal
use Rattle.xet_shards.proofs.streaming_shard.file_start.write_marked.Goals.{else-loop-start-test, then-loop-start-test+then-ge}

abbrev default_start : FileStart
default_start = record { xorb_hash = record { word0 = 0; word1 = 0; word2 = 0; word3 = 0 }; chunk_index = 0 }

pub loop-start-init : goal.loop-start-init
loop-start-init g c = record {
  within = omega arith;
  left = all_left c.args.xorb.now c.args.starts.now c.starts_from-rest.result.now c.of_chunk.ensures c.starts_from-rest.ensures;
  written = search rules;
}

pub serialize_chunks-requires : goal.serialize_chunks-requires
serialize_chunks-requires g c =
    let rest = c.starts_from-rest.result.now in
    let at = c.loop-start.start-index in
    let k = get_or rest at default_start in
    let compared : c.ge.result ≡ is_ge (start_cmp k c.of_chunk-end.result) = search rules in
    let next = next_start c.args.xorb.now c.args.starts.now rest c.of_chunk.ensures c.starts_from-rest.ensures c.loop-start.done at k c.loop-start.invariant.left
    (slice_get-get_or rest at default_start c.loop-start-test.true) c.num_entries.result c.of_chunk-end.ensures (sym compared ∙ c.if-ge.false) in
    (c.if-index-done.false, omega (arith, next.within, c.num_entries.ensures))

pub chunk-requires : goal.chunk-requires
chunk-requires g c =
    let rest = c.starts_from-rest.result.now in
    let at = c.loop-start.start-index in
    let k = get_or rest at default_start in
    let compared : c.ge.result ≡ is_ge (start_cmp k c.of_chunk-end.result) = search rules in
    let next = next_start c.args.xorb.now c.args.starts.now rest c.of_chunk.ensures c.starts_from-rest.ensures c.loop-start.done at k c.loop-start.invariant.left
    (slice_get-get_or rest at default_start c.loop-start-test.true) c.num_entries.result c.of_chunk-end.ensures (sym compared ∙ c.if-ge.false) in
    omega (arith, next.within, c.num_entries.ensures)

pub loop-start-preserved-then-index-done : goal.loop-start-preserved-then-index-done
loop-start-preserved-then-index-done g c =
    let rest = c.starts_from-rest.result.now in
    let at = c.loop-start.start-index in
    let done = c.loop-start.done in
    record {
      within = c.loop-start.invariant.within;
      left = passed c.args.xorb.now c.args.starts.now rest done at done (get_or rest at default_start) c.loop-start.invariant.left (slice_get-get_or rest at default_start c.loop-start-test.true) (omega arith) c.if-index-done.true;
      written = c.loop-start.invariant.written;
    }

pub loop-start-preserved : goal.loop-start-preserved
loop-start-preserved g c =
    let x = c.args.xorb.now in
    let starts = has_start c.args.starts.now in
    let rest = c.starts_from-rest.result.now in
    let at = c.loop-start.start-index in
    let done = c.loop-start.done in
    let left = c.loop-start.invariant.left in
    let k = get_or rest at default_start in
    let there = slice_get-get_or rest at default_start c.loop-start-test.true in
    let compared : c.ge.result ≡ is_ge (start_cmp k c.of_chunk-end.result) = search rules in
    let found = next_start x c.args.starts.now rest c.of_chunk.ensures c.starts_from-rest.ensures done at k left there c.num_entries.result c.of_chunk-end.ensures (sym compared ∙ c.if-ge.false) in
    let next = k.chunk_index in
    let contents = g.W.Write.contents in
    let header = xorb_header_row x.metadata in
    let rows = flat_map chunk_row (marks_to starts x done) in
    let between = take (next - done) (drop done x.chunks) in
    let marked = c.with_global_dedup_flag-marked.result in
    let marked_is : marked_if (starts (chunk_of x next)) c.chunk.result ≡ marked = ap (λ b. marked_if b c.chunk.result) found.is_start ∙ sym c.with_global_dedup_flag-marked.ensures in
    let all : marks_to starts x (next + 1) ≡ (marks_to starts x done ++ between) ++ marked ∷ [] =
    one_marked starts x next c.chunk.result c.chunk.ensures
    ∙ (λ i. none_marked_to starts x done next c.if-index-done.false (omega (arith, found.within, c.num_entries.ensures)) found.none_before i ++ marked_is i ∷ []) in
    record {
      within = omega (arith, found.within, c.num_entries.ensures);
      left = passed x c.args.starts.now rest done at (next + 1) k left there (omega (arith, c.if-index-done.false)) (omega arith);
      written = subst (Appends (contents c.args.writer.now) (contents c.write_row-in-loop-start.new.writer))
          (sym (ap (λ cs. header ++ flat_map chunk_row cs) all ∙ ap (λ bs. header ++ bs)
          (flat_map-append chunk_row (marks_to starts x done ++ between) (marked ∷ [])
          ∙ (λ i. flat_map-append chunk_row (marks_to starts x done) between i ++ append-nil (chunk_row marked) i)) ∙ simp append_assoc))
          (Appends-trans _ (contents c.serialize_chunks.new.writer) _ _ _
          (Appends-trans _ (contents c.loop-start.writer) _ _ _ c.loop-start.invariant.written c.in_ok-serialize_chunks.ensures.bytes) c.in_ok-write_row-2.ensures.bytes);
    }

pub returns-clause-appended : goal.returns-clause-appended
unfolding xorb_record_bytes
returns-clause-appended g c =
    let starts = has_start c.args.starts.now in
    let x = c.args.xorb.now in
    let rest = c.starts_from-rest.result.now in
    let at = c.loop-start.start-index in
    let done = c.loop-start.done in
    let count = c.num_entries.result in
    let left = c.loop-start.invariant.left in
    let none : StartsNowhere starts x done count = elim c.loop-start-test.branch [
      | else-loop-start-test w ↦ none_left x c.args.starts.now rest done at count left w.loop-start-test.false
      | then-loop-start-test+then-ge w ↦
          (let compared : w.ge.result ≡ is_ge (start_cmp (get_or rest at default_start) c.of_chunk-end.result) = search rules in
          none_before_end x c.args.starts.now rest c.of_chunk.ensures c.starts_from-rest.ensures done at (get_or rest at default_start) left
          (slice_get-get_or rest at default_start w.loop-start-test.true) count c.of_chunk-end.ensures (sym compared ∙ w.if-ge.true))
    ] in
    let contents = g.W.Write.contents in
    let header = xorb_header_row x.metadata in
    let between = take (c.num_entries-2.result - done) (drop done x.chunks) in
    let chunks = map (λ (e : ℕ × XorbChunkSequenceEntry). marked_if (starts (chunk_of x e.0)) e.1) (enumerate_from 0 x.chunks) in
    let all : marks_to starts x done ++ between ≡ chunks =
    sym (none_marked_to starts x done c.num_entries-2.result (omega (arith, c.loop-start.invariant.within, c.num_entries-2.ensures)) (omega (arith, c.num_entries-2.ensures)) (λ i above below. none i above (omega (arith, below, c.num_entries.ensures, c.num_entries-2.ensures))))
    ∙ ap (λ cs. map (λ (e : ℕ × XorbChunkSequenceEntry). marked_if (starts (chunk_of x e.0)) e.1) (enumerate_from 0 cs)) (take_all c.num_entries-2.result x.chunks (omega (arith, c.num_entries-2.ensures))) in
    on_ok_weaker c.serialize_chunks-2.result (λ appended. subst (Appends (contents c.args.writer.now) (contents c.serialize_chunks-2.new.writer))
    (append_assoc header (flat_map chunk_row (marks_to starts x done)) (flat_map chunk_row between)
    ∙ ap (λ bs. header ++ bs) (sym (flat_map-append chunk_row (marks_to starts x done) between) ∙ ap (flat_map chunk_row) all))
    (Appends-trans _ (contents c.loop-start.writer) _ _ _ c.loop-start.invariant.written appended)) c.serialize_chunks-2.ensures.bytes
