use Rattle.std.proofs.Common.{◌≡◌, ◌++◌, map}
use Rattle.std.specs.Map.Iter.{deref_pair}
use Rattle.std.specs.FinMap.{get}
use Rattle.xet_shards.proofs.Content.Joining.{IsFilled}
use Rattle.xet_shards.proofs.shard_in_memory.file_store.FileStore.append_missing.Given as goal

abbrev pub invariant-loop-file_hash : goal.invariant-loop-file_hash
invariant-loop-file_hash l = record {
  can : goal.iterator-loop-file_hash.can_next l.file_hash-iterator;
  finite : goal.iterator-loop-file_hash.is_finite l.file_hash-iterator;
  all : map deref_pair l.yielded ++ l.file_hash-iterator ≡ l.others.entries;
  filled : IsFilled (get l.initial.self) l.except l.self (map deref_pair l.yielded);
}
