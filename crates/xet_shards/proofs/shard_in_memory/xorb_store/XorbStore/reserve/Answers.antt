use Rattle.std.proofs.Common.{ap, ◌∙◌}
use Rattle.std.specs.Prelude.{option_map}
use Rattle.std.specs.FinMap.{from_sorted}
use Rattle.xet_base.specs.Hash.{hash_cmp}
use Rattle.xet_base.proofs.HashMaps.{same-shown_entry}
use Rattle.xet_shards.specs.ShardInMemory.XorbStore.{shown_xorbs, shown_location, location_in}
use Rattle.xet_shards.proofs.ShardInMemory.ChunkLookups.{lookup-same}
use Rattle.xet_shards.proofs.shard_in_memory.xorb_store.XorbStore.reserve.Goals as goal

pub invariant_of-self : goal.invariant_of-self
invariant_of-self c = record {
  sorted = c.self.invariant.sorted;
  xorbs = c.self.invariant.xorbs;
  lookup = lookup-same _ (location_in c.self.inside.lookup) (location_in c.reserve.new.self) (λ q. ap (option_map shown_location) (c.reserve.ensures.entries.2 q)) c.self.invariant.lookup;
}

pub invariant_of-self-2 : goal.invariant_of-self-2
invariant_of-self-2 c = record {
  sorted = c.self.invariant.sorted;
  xorbs = c.self.invariant.xorbs;
  lookup = lookup-same _ (location_in c.self.inside.lookup) (location_in c.reserve.new.self) (λ q. ap (option_map shown_location) (c.reserve.ensures.entries.2 q)) c.self.invariant.lookup;
}

pub returns-clause-same : goal.returns-clause-same
returns-clause-same c =
    let locations = same-shown_entry shown_location c.reserve.new.self.entries c.self.inside.lookup.entries c.reserve.ensures.entries.2 in
    (λ i. record { xorbs = from_sorted {R = hash_cmp} (shown_xorbs c.self.inside.content.entries); locations = locations i }) ∙ c.self.view_is
