use Rattle.std.proofs.Common.{◌≡◌, ◌++◌, map}
use Rattle.std.specs.Map.Iter.{deref_pair}
use Rattle.xet_shards.proofs.ShardInMemory.FileUnions.{IsJoined}
use Rattle.xet_shards.proofs.shard_in_memory.file_store.FileStore.join_all.Given as goal

abbrev pub invariant-loop-file_hash : goal.invariant-loop-file_hash
invariant-loop-file_hash l = record {
  can : goal.iterator-loop-file_hash.can_next l.file_hash-iterator;
  finite : goal.iterator-loop-file_hash.is_finite l.file_hash-iterator;
  all : map deref_pair l.yielded ++ l.file_hash-iterator ≡ l.others.entries;
  joined : IsJoined l.initial.self l.self (map deref_pair l.yielded);
}
