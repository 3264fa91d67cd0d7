use Rattle.std.proofs.Common.{◌≡◌}
use Rattle.xet_shards.proofs.streaming_shard.eligible.list_of.Given as goal

abbrev pub invariant-loop-hash : goal.invariant-loop-hash
invariant-loop-hash l = l.listed.items ≡ l.yielded
