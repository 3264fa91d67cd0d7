use Rattle.std.proofs.Common.{take, map}
use Rattle.mdb_base.specs.Expiries.{shard_expiry, IsEarliest}
use Rattle.mdb_merging.proofs.rounds.merged_parts.earliest_of.Given as goal

abbrev pub invariant-loop-shard : goal.invariant-loop-shard
invariant-loop-shard l = IsEarliest (map (λ s. shard_expiry s.info) (take l.shard-index l.shards)) l.found
