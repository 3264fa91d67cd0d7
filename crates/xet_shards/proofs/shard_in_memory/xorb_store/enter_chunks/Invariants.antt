use Rattle.std.proofs.Common.{◌≡◌, ◌+◌, ◌≤◌, length}
use Rattle.std.specs.Prelude.{All}
use Rattle.std.specs.HashMap.{spare}
use Rattle.xet_shards.specs.ShardInMemory.XorbStore.{location_in}
use Rattle.xet_shards.specs.Steps.XorbStoreSteps.{IsEntered}
use Rattle.xet_shards.proofs.shard_in_memory.xorb_store.enter_chunks.Given as goal

abbrev pub invariant-loop-chunk : goal.invariant-loop-chunk
invariant-loop-chunk l = record {
  index : l.index ≡ l.chunk-index;
  left : length l.owners.items + l.chunk-index ≡ length l.chunk-items;
  room : length l.owners.items ≤ spare l.lookup;
  owners : All (λ owner. owner.value ≡ l.xorb) l.owners.items;
  entered : IsEntered (location_in l.initial.lookup) (location_in l.lookup) l.xorb l.chunk-index;
}
