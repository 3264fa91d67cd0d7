use Rattle.std.proofs.Common.{◌≡◌, length}
use Rattle.std.specs.Prelude.{All}
use Rattle.xet_shards.proofs.shard_in_memory.xorb_store.owners_of.Given as goal

abbrev pub invariant-loop-chunk : goal.invariant-loop-chunk
invariant-loop-chunk l = record {
  count : length l.owners.items ≡ l._chunk;
  owners : All (λ owner. owner.value ≡ l.xorb.value) l.owners.items;
}
