use Rattle.std.proofs.Common.{◌≡◌, take, flat_map}
use Rattle.xet_shards.specs.StreamingShard.MinimalShard.{has_start, ascending_hashes, eligible_in}
use Rattle.xet_shards.proofs.streaming_shard.minimal_shard.MDBMinimalShard.global_dedup_eligible_chunks.Given as goal

abbrev pub invariant-loop-xorb : goal.invariant-loop-xorb
invariant-loop-xorb l = l.hashes.keys ≡ ascending_hashes (flat_map (eligible_in (has_start l.starts.items)) (take l.xorb-index l.xorbs))
