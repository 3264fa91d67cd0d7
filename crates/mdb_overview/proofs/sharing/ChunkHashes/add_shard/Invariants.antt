use Rattle.std.proofs.Common.{◌≡◌, take, if◌then◌else◌}
use Rattle.std.specs.HashSet.{contains}
use Rattle.std.specs.List.{list_any}
use Rattle.xet_base.specs.declared.merklehash.DataHash.{DataHash}
use Rattle.xet_base.specs.Hash.{hash_eq}
use Rattle.mdb_overview.specs.Counts.{saturating_count}
use Rattle.mdb_overview.specs.Sharing.{shards_of}
use Rattle.mdb_overview.proofs.sharing.ChunkHashes.add_shard.Given as goal

abbrev pub invariant-loop-hash : goal.invariant-loop-hash
invariant-loop-hash l = record {
  seen : (q : DataHash) → contains hash_eq l.seen q ≡ list_any (hash_eq q) (take l.hash-index l.hashes);
  counts : (q : DataHash) → shards_of l.self q
      ≡ saturating_count (shards_of l.fn.self q)
      (if list_any (hash_eq q) (take l.hash-index l.hashes) then 1 else 0);
}
