use Rattle.std.proofs.Common.{◌≡◌, take}
use Rattle.xet_shards.proofs.streaming_shard.minimal_shard.copies.Given as goal

abbrev pub invariant-loop-view : goal.invariant-loop-view
invariant-loop-view g l = l.copies.items ≡ take l.view-index l.views
