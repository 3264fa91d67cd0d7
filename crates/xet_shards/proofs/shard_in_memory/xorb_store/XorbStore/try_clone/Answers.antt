use Rattle.std.proofs.Common.{sym, ◌∙◌, subst, T, Global}
use Rattle.std.specs.declared.rc.Rc.{Rc}
use Rattle.std.specs.FinMap.{from_sorted, from_entries, is_sorted}
use Rattle.xet_base.specs.Hash.{hash_cmp}
use Rattle.xet_records.specs.declared.xorb_structs.MDBXorbInfo.{MDBXorbInfo}
use Rattle.xet_shards.specs.Content.Shard.{AreXorbs}
use Rattle.xet_shards.specs.ShardInMemory.ChunkLookup.{IsChunkLookup}
use Rattle.xet_shards.specs.ShardInMemory.XorbStore.{shown_location, location_in}
use Rattle.xet_shards.proofs.ShardInMemory.ChunkLookups.{lookup-same}
use Rattle.xet_shards.proofs.ShardInMemory.Clones.{shown_entry-cloned, lookup-shown_entry}
use Rattle.xet_shards.proofs.shard_in_memory.xorb_store.XorbStore.try_clone.Goals as goal

pub invariant_of-result : goal.invariant_of-result
invariant_of-result c =
    let old = c.self.inside.lookup in
    let new = c.in_ok-clone-2.field-0 in
    let content = shown_entry-cloned (λ (o : Rc MDBXorbInfo Global). o.value) _ (λ a b e. e) _ _ c.in_ok-clone.ensures.cases in
    let locations = shown_entry-cloned shown_location _ (λ a b e. λ i. (e.0 i, e.1 i)) old.entries new.entries c.in_ok-clone-2.ensures.cases in
    record {
      sorted = subst (λ es. T (is_sorted hash_cmp es)) (sym content) c.self.invariant.sorted;
      xorbs = subst AreXorbs (sym content) c.self.invariant.xorbs;
      lookup = subst (λ es. IsChunkLookup (from_sorted es) (location_in new)) (sym content)
          (lookup-same _ (location_in old) (location_in new) (λ q. lookup-shown_entry shown_location q old.entries new.entries locations) c.self.invariant.lookup);
    }

pub returns-clause-ok : goal.returns-clause-ok
returns-clause-ok c =
    let content = shown_entry-cloned (λ (o : Rc MDBXorbInfo Global). o.value) _ (λ a b e. e) _ _ c.in_ok-clone.ensures.cases in
    let locations = shown_entry-cloned shown_location _ (λ a b e. λ i. (e.0 i, e.1 i)) _ _ c.in_ok-clone-2.ensures.cases in
    (λ i. record { xorbs = from_sorted {R = hash_cmp} (content i); locations = from_entries {R = hash_cmp} (locations i) }) ∙ c.self.view_is
