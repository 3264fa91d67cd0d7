use Rattle.std.proofs.Common.{◌≡◌, ◌++◌, List}
use Rattle.xet_base.specs.declared.merklehash.DataHash.{DataHash}
use Rattle.xet_shards.specs.StreamingShard.MinimalShard.{has_start, ascending_hashes}
use Rattle.xet_shards.proofs.StreamingShard.MinimalShard.{eligible_to}
use Rattle.xet_shards.proofs.streaming_shard.eligible.insert_eligible.Given as goal

abbrev pub invariant-loop-index : goal.invariant-loop-index
invariant-loop-index l =
    (before : List DataHash) → l.initial.hashes.keys ≡ ascending_hashes before
    → l.hashes.keys ≡ ascending_hashes (before ++ eligible_to (has_start l.starts) l.xorb l.index)
