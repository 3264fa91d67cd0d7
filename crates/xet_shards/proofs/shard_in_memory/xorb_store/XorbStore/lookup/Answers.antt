use Rattle.std.proofs.Common.{sym, ap, ◌∙◌, subst}
use Rattle.std.specs.FinMap.{get, get-from_sorted}
use Rattle.xet_base.specs.Hash.{hash_cmp}
use Rattle.xet_base.proofs.HashMaps.{get-shown_entry}
use Rattle.xet_records.specs.XorbRecord.{IsXorb}
use Rattle.xet_shards.specs.ShardInMemory.ChunkLookup.{IsChunkLookup}
use Rattle.xet_shards.specs.Steps.ChunkLookupSteps.{XorbsWithLookup}
use Rattle.xet_shards.specs.ShardInMemory.XorbStore.{shown_location, location_in}
use Rattle.xet_shards.proofs.ShardInMemory.ChunkLookups.{lookup-same}
use Rattle.xet_shards.proofs.ShardInMemory.FileUnions.{entry-holds}
use Rattle.xet_shards.proofs.shard_in_memory.xorb_store.XorbStore.lookup.Goals as goal

pub returns-clause-locations : goal.returns-clause-locations
returns-clause-locations c = λ q. sym (get-shown_entry shown_location q c.self.inside.lookup.entries) ∙ ap (λ (t : XorbsWithLookup). get t.locations q) c.self.view_is

pub returns-clause-lookup : goal.returns-clause-lookup
returns-clause-lookup c =
    subst (λ (t : XorbsWithLookup). IsChunkLookup t.xorbs (get t.locations)) c.self.view_is
    (lookup-same _ (location_in c.self.inside.lookup) _ (λ q. get-shown_entry shown_location q c.self.inside.lookup.entries) c.self.invariant.lookup)

pub returns-clause-well_formed : goal.returns-clause-well_formed
returns-clause-well_formed c = λ q p at.
    let kept = sym (get-shown_entry shown_location q c.self.inside.lookup.entries) ∙ ap (λ (t : XorbsWithLookup). get t.locations q) c.self.view_is ∙ at in
    let there = (c.self.invariant.lookup.present q p kept).xorb in
    entry-holds (λ e. IsXorb e.1) _ _ p.0 c.self.invariant.xorbs.well_formed (sym (get-from_sorted hash_cmp _ _ c.self.invariant.sorted) ∙ there)
