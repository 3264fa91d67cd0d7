use Rattle.std.proofs.Common.{◌≡◌, ◌++◌, map}
use Rattle.std.specs.Map.Iter.{deref_pair}
use Rattle.std.specs.FinMap.{get}
use Rattle.xet_shards.specs.ShardInMemory.XorbStore.{shown_xorbs}
use Rattle.xet_shards.proofs.Content.Joining.{IsFilled}
use Rattle.xet_shards.proofs.shard_in_memory.xorb_store.XorbStore.append_missing.Given as goal

abbrev pub invariant-loop-xorb_hash : goal.invariant-loop-xorb_hash
invariant-loop-xorb_hash l = record {
  can : goal.iterator-loop-xorb_hash.can_next l.xorb_hash-iterator;
  finite : goal.iterator-loop-xorb_hash.is_finite l.xorb_hash-iterator;
  all : map deref_pair l.yielded ++ l.xorb_hash-iterator ≡ l.others.entries;
  filled : IsFilled (get l.initial.self.xorbs) l.except.xorbs l.self.xorbs (shown_xorbs (map deref_pair l.yielded));
}
