use Rattle.std.proofs.Common.{take}
use Rattle.mdb_overview.specs.OverviewExpiries.{ExpireAs}
use Rattle.mdb_overview.proofs.expiries.expiries_of.Given as goal

abbrev pub invariant-loop-shard : goal.invariant-loop-shard
invariant-loop-shard l = ExpireAs (take l.shard-index l.shards) l.now l.expiries
