use Rattle.std.proofs.Common.{map}
use Rattle.mdb_overview.specs.Sharing.{CountNumbers}
use Rattle.mdb_overview.proofs.sharing.ChunkHashes.count.Given as goal

abbrev pub invariant-loop-shards : goal.invariant-loop-shards
invariant-loop-shards l = CountNumbers (map (λ n. n.now) l.yielded) l.fn.sharing l.sharing
