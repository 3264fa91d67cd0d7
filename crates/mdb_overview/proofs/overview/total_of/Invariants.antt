use Rattle.std.proofs.Common.{take}
use Rattle.mdb_overview.specs.Totals.{AreSums}
use Rattle.mdb_overview.proofs.overview.total_of.Given as goal

abbrev pub invariant-loop-shard : goal.invariant-loop-shard
invariant-loop-shard l = AreSums (take l.shard-index l.shards) l.total
