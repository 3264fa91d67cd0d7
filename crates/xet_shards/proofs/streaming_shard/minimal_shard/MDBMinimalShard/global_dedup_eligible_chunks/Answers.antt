use Rattle.std.proofs.Common.{sym, ◌∙◌}
use Rattle.xet_shards.proofs.StreamingShard.MinimalShard.{ascending_hashes-nil}
use Rattle.xet_shards.proofs.streaming_shard.minimal_shard.MDBMinimalShard.global_dedup_eligible_chunks.Goals as goal

pub loop-xorb-init : goal.loop-xorb-init
loop-xorb-init c = c.new-hashes.ensures.empty ∙ sym ascending_hashes-nil
