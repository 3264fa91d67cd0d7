use Rattle.std.proofs.Common.{◌∙◌, ◌++◌, ◌∷◌, [], sym, ap}
use Rattle.std.specs.Prelude.{◌||◌, if◌then◌else◌}
use Rattle.std.proofs.lemmas.List.{append_assoc}
use Rattle.xet_shards.specs.StreamingShard.MinimalShard.{has_start, ascending_hashes}
use Rattle.xet_shards.proofs.StreamingShard.MinimalShard.{eligible_to, one_eligible, row_is_eligible, ascending_hashes-if}
use Rattle.xet_shards.proofs.streaming_shard.eligible.insert_eligible.Goals as goal

pub loop-index-preserved : goal.loop-index-preserved
loop-index-preserved c = λ before is.
    let starts = has_start c.args.starts.now in
    let x = c.args.xorb.now in
    let i = c.loop-index.index in
    let chunk = c.chunk-chunk.result in
    let here = eligible_to starts x i in
    ascending_hashes-if _ (before ++ here) chunk.chunk_hash _ _ (c.loop-index.invariant before is) c.in_ok-insert_if.ensures.ok
    ∙ ap ascending_hashes (append_assoc before here _
    ∙ (λ k. before ++ (here ++ (if (row_is_eligible c.is_global_dedup_eligible.result chunk c.is_global_dedup_eligible.ensures k || (c.is_start.ensures ∙ ap starts c.of_chunk-start.ensures) k) then chunk.chunk_hash ∷ [] else [])))
    ∙ ap (λ hs. before ++ hs) (sym (one_eligible starts x i chunk c.chunk-chunk.ensures)))
