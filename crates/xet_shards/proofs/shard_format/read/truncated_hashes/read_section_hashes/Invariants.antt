use Rattle.xet_base.specs.Source.{after_seek}
use Rattle.xet_shards.specs.Steps.TruncatedHashesSteps.{HasReadHashes}
use Rattle.xet_shards.proofs.shard_format.read.truncated_hashes.read_section_hashes.Given as goal

abbrev pub invariant-loop-hashes : goal.invariant-loop-hashes
invariant-loop-hashes g l =
    HasReadHashes l.stop (after_seek (g.S.ShardSource.meaning l.fn.source) l.offset) (g.S.ShardSource.meaning l.source) l.hashes.items l.rows_left

abbrev pub decreases-loop-hashes : goal.decreases-loop-hashes
decreases-loop-hashes g l = l.rows_left
