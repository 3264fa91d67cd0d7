use Rattle.std.proofs.Common.{◌≡◌, List, length, refl, sym, ap, ◌∙◌, subst, T, Global}
use Rattle.std.specs.Prelude.{option_map}
use Rattle.std.specs.BTreeMap.{insert_entry}
use Rattle.std.specs.declared.rc.Rc.{Rc}
use Rattle.std.specs.FinMap.{get, from_sorted, is_sorted, insert}
use Rattle.xet_base.specs.declared.merklehash.DataHash.{DataHash}
use Rattle.xet_base.specs.Hash.{hash_cmp}
use Rattle.xet_base.proofs.HashMaps.{insert-shown_entry, same-shown_entry}
use Rattle.xet_base.proofs.HashOrder.{hash_cmp-IsTotalOrder, hash_cmp-IsAntisymmetric}
use Rattle.xet_records.specs.declared.xorb_structs.MDBXorbInfo.{MDBXorbInfo}
use Rattle.xet_records.specs.XorbRecord.{IsXorb}
use Rattle.xet_shards.specs.Content.Shard.{XorbMap, AreXorbs, xorb_hash_of}
use Rattle.xet_shards.specs.ShardInMemory.ChunkLookup.{IsChunkLookup}
use Rattle.xet_shards.specs.Steps.ChunkLookupSteps.{XorbsWithLookup}
use Rattle.xet_shards.specs.ShardInMemory.XorbStore.{shown_xorbs, shown_location, location_in}
use Rattle.xet_shards.specs.Steps.XorbStoreSteps.{IsEntered}
use Rattle.xet_shards.proofs.Content.Maps.{from_sorted-insert_entry, sorted-insert_entry, All-insert_entry}
use Rattle.xet_shards.proofs.ShardInMemory.ChunkLookups.{lookup-same, lookup-append, entered-from, on_err}
use Rattle.xet_shards.proofs.shard_in_memory.xorb_store.XorbStore.append.Goals as goal

pub invariant_of-self : goal.invariant_of-self
invariant_of-self c = record {
  sorted = c.self.invariant.sorted;
  xorbs = c.self.invariant.xorbs;
  lookup = lookup-same _ (location_in c.self.inside.lookup) (location_in c.reserve.new.self) (λ q. ap (option_map shown_location) (c.reserve.ensures.entries.2 q)) c.self.invariant.lookup;
}

pub invariant_of-self-in_err-insert : goal.invariant_of-self-in_err-insert
invariant_of-self-in_err-insert c =
    let same = c.in_err-insert.ensures.err in
    let lookup = lookup-same _ (location_in c.self.inside.lookup) (location_in c.reserve.new.self) (λ q. ap (option_map shown_location) (c.reserve.ensures.entries.2 q)) c.self.invariant.lookup in
    record {
      sorted = subst (λ (es : List (DataHash × Rc MDBXorbInfo Global)). T (is_sorted hash_cmp (shown_xorbs es))) (sym same) c.self.invariant.sorted;
      xorbs = subst (λ (es : List (DataHash × Rc MDBXorbInfo Global)). AreXorbs (shown_xorbs es)) (sym same) c.self.invariant.xorbs;
      lookup = subst (λ (es : List (DataHash × Rc MDBXorbInfo Global)). IsChunkLookup (from_sorted (shown_xorbs es)) (location_in c.reserve.new.self)) (sym same) lookup;
    }

pub returns-in_err-insert-clause-err : goal.returns-in_err-insert-clause-err
returns-in_err-insert-clause-err c =
    let xorbs = ap (λ (es : List (DataHash × Rc MDBXorbInfo Global)). from_sorted {R = hash_cmp} (shown_xorbs es)) c.in_err-insert.ensures.err in
    let locations = same-shown_entry shown_location c.reserve.new.self.entries c.self.inside.lookup.entries c.reserve.ensures.entries.2 in
    on_err _ ((λ i. record { xorbs = xorbs i; locations = locations i }) ∙ c.self.view_is)

-- the view of the store after the xorb is inserted
pub invariant_of-self-2 : goal.invariant_of-self-2
invariant_of-self-2 c =
    let r = c.args.xorb.value in
    let es = c.self.inside.content.entries in
    let before = c.self.invariant in
    let shown = ap shown_xorbs c.in_ok-insert.ensures.entries ∙ insert-shown_entry (λ (o : Rc MDBXorbInfo Global). o.value) _ c.in_ok-owner.owner es
    ∙ (λ i. insert_entry hash_cmp (shown_xorbs es) (xorb_hash_of (c.deref.ensures i)) (c.in_ok-owner.ensures.cases i)) in
    let entered = entered-from (location_in c.reserve.new.self) (location_in c.self.inside.lookup) (location_in c.enter_chunks.new.lookup) r (length r.chunks)
    (λ q. ap (option_map shown_location) (c.reserve.ensures.entries.2 q))
    (subst (λ (s : MDBXorbInfo). IsEntered (location_in c.reserve.new.self) (location_in c.enter_chunks.new.lookup) s (length s.chunks)) c.as_ref.ensures c.enter_chunks.ensures) in
    let lookup = lookup-append (from_sorted (shown_xorbs es)) (location_in c.self.inside.lookup) (location_in c.enter_chunks.new.lookup) r
    (ap (λ (t : XorbsWithLookup). get t.xorbs (xorb_hash_of r)) c.self.view_is ∙ c.requires.absent) before.lookup entered in
    record {
      sorted = subst (λ fs. T (is_sorted hash_cmp fs)) (sym shown) (sorted-insert_entry hash_cmp-IsTotalOrder hash_cmp-IsAntisymmetric (shown_xorbs es) (xorb_hash_of r) r before.sorted);
      xorbs = subst AreXorbs (sym shown) record {
        keyed = All-insert_entry hash_cmp-IsTotalOrder hash_cmp-IsAntisymmetric (λ e. e.0 ≡ xorb_hash_of e.1) (shown_xorbs es) (xorb_hash_of r) r before.xorbs.keyed refl;
        well_formed = All-insert_entry hash_cmp-IsTotalOrder hash_cmp-IsAntisymmetric (λ e. IsXorb e.1) (shown_xorbs es) (xorb_hash_of r) r before.xorbs.well_formed c.requires.well_formed;
      };
      lookup = subst (λ fs. IsChunkLookup (from_sorted fs) (location_in c.enter_chunks.new.lookup)) (sym shown)
          (subst (λ (m : XorbMap). IsChunkLookup m (location_in c.enter_chunks.new.lookup))
          (sym (from_sorted-insert_entry hash_cmp-IsTotalOrder hash_cmp-IsAntisymmetric (shown_xorbs es) (xorb_hash_of r) r before.sorted)) lookup);
    }

pub returns-clause-ok : goal.returns-clause-ok
returns-clause-ok c =
    let r = c.args.xorb.value in
    let es = c.self.inside.content.entries in
    let shown = ap shown_xorbs c.in_ok-insert.ensures.entries ∙ insert-shown_entry (λ (o : Rc MDBXorbInfo Global). o.value) _ c.in_ok-owner.owner es
    ∙ (λ i. insert_entry hash_cmp (shown_xorbs es) (xorb_hash_of (c.deref.ensures i)) (c.in_ok-owner.ensures.cases i)) in
    ap (from_sorted {R = hash_cmp}) shown
    ∙ from_sorted-insert_entry hash_cmp-IsTotalOrder hash_cmp-IsAntisymmetric (shown_xorbs es) (xorb_hash_of r) r c.self.invariant.sorted
    ∙ ap (λ (t : XorbsWithLookup). insert t.xorbs (xorb_hash_of r) r) c.self.view_is
