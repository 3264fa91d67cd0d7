use Rattle.std.proofs.Common.{◌++◌, ◌∷◌, [], ◌∙◌, arith}
use Rattle.xet_shards.proofs.Read.TruncatedHashes.{hashes_more}
use Rattle.xet_shards.proofs.shard_format.read.truncated_hashes.push_hashes.Goals as goal

pub loop-chunk-preserved : goal.loop-chunk-preserved
loop-chunk-preserved c =
    let before = c.loop-chunk.invariant in
    record {
      index = omega (arith, before.index);
      items = c.in_ok-push.ensures.items ∙ (λ i. before.items i ++ (c.truncate_hash.ensures i, (c.args.start, before.index i)) ∷ [])
          ∙ hashes_more c.args.hashes.now.items c.args.start c.loop-chunk.chunk-index c.args.chunks.now c.loop-chunk-test.true;
    }
