use Rattle.std.proofs.Common.{◌≡◌, [], ◌∷◌, ◌++◌, take, sum_by, ℕ, ◌+◌, ap, ◌∙◌, arith}
use Rattle.std.proofs.lemmas.List.{take_more}
use Rattle.std.proofs.lemmas.List.Sums.{sum_by_push}
use Rattle.std.proofs.lemmas.Option.{get_or_from_slice_get, slice_get_within}
use Rattle.xet_records.specs.declared.file_structs.rows.FileDataSequenceEntry.{FileDataSequenceEntry}
use Rattle.xet_shards.proofs.shard_format.write.view_writer.file_size.Goals as goal

pub loop-index-preserved : goal.loop-index-preserved
loop-index-preserved c =
    let segments = c.args.view.now.segments in
    let i = c.loop-index.index in
    let x = c.entry.result in
    let bytes : FileDataSequenceEntry → ℕ = λ s. s.unpacked_segment_bytes in
    let more : take (i + 1) segments ≡ take i segments ++ x ∷ [] =
    take_more segments i x (slice_get_within segments i x c.entry.ensures) ∙ ap (λ y. take i segments ++ y ∷ []) (get_or_from_slice_get segments i x x c.entry.ensures) in
    record {
      size = omega (arith, c.loop-index.invariant.size, sum_by_push bytes (take i segments) x, ap (sum_by bytes) more, c.from-size.ensures);
      bound = omega (arith, c.loop-index.invariant.bound, c.from-size.ensures);
    }
