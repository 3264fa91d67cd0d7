use Rattle.std.proofs.Common.{arith, ◌≡◌, sym, ap, ◌∙◌, subst, Global}
use Rattle.std.specs.Map.Iter.{deref_pair}
use Rattle.std.specs.declared.rc.Rc.{Rc}
use Rattle.std.specs.FinMap.{get, insert}
use Rattle.xet_records.specs.declared.xorb_structs.MDBXorbInfo.{MDBXorbInfo}
use Rattle.xet_records.specs.XorbRecord.{IsXorb}
use Rattle.xet_shards.specs.Content.Shard.{xorb_hash_of}
use Rattle.xet_shards.proofs.ShardInMemory.Walks.{entry_turn, entry_turned}
use Rattle.xet_shards.proofs.Content.Joining.{filled-skip, filled-add, shown_push, shown_at, none_of}
use Rattle.xet_shards.proofs.shard_in_memory.xorb_store.XorbStore.append_missing.Goals as goal

pub append-requires-clause-absent : goal.append-requires-clause-absent
append-requires-clause-absent c =
    let whole = entry_turn deref_pair _ c.loop-xorb_hash.yielded _ _ _ (c.in-Some.xorb_hash, c.in-Some.xorb) c.loop-xorb_hash.invariant.all c.in-Some.is c.next.ensures.steps in
    let keyed = shown_at (λ (o : Rc MDBXorbInfo Global). o.value) (λ e. e.0 ≡ xorb_hash_of e.1) _ _ _ _ whole c.requires.keyed in
    ap (get c.loop-xorb_hash.self.xorbs) (ap xorb_hash_of c.in_ok-clone.ensures.cases ∙ sym keyed) ∙ none_of _ (sym c.contains.ensures ∙ c.if-not-contains.true)

pub append-requires-clause-well_formed : goal.append-requires-clause-well_formed
append-requires-clause-well_formed c =
    let whole = entry_turn deref_pair _ c.loop-xorb_hash.yielded _ _ _ (c.in-Some.xorb_hash, c.in-Some.xorb) c.loop-xorb_hash.invariant.all c.in-Some.is c.next.ensures.steps in
    subst IsXorb (sym c.in_ok-clone.ensures.cases) (shown_at (λ (o : Rc MDBXorbInfo Global). o.value) (λ e. IsXorb e.1) _ _ _ _ whole c.requires.well_formed)

pub loop-xorb_hash-preserved-then-not-contains-2 : goal.loop-xorb_hash-preserved-then-not-contains-2
loop-xorb_hash-preserved-then-not-contains-2 c =
    let whole = entry_turn deref_pair _ c.loop-xorb_hash.yielded _ _ _ (c.in-Some.xorb_hash, c.in-Some.xorb) c.loop-xorb_hash.invariant.all c.in-Some.is c.next.ensures.steps in
    let keyed = shown_at (λ (o : Rc MDBXorbInfo Global). o.value) (λ e. e.0 ≡ xorb_hash_of e.1) _ _ _ _ whole c.requires.keyed in
    let copied = c.in_ok-clone.ensures.cases in
    let key = ap xorb_hash_of copied ∙ sym keyed in
    let push = shown_push (λ (o : Rc MDBXorbInfo Global). o.value) deref_pair c.loop-xorb_hash.yielded (c.in-Some.xorb_hash, c.in-Some.xorb) in
    record {
      can = tt;
      finite = tt;
      all = entry_turned deref_pair _ c.loop-xorb_hash.yielded _ (c.in-Some.xorb_hash, c.in-Some.xorb) whole;
      filled = filled-add (get c.args.self.now.xorbs) c.args.except.now.xorbs _ _ _ c.in-Some.xorb_hash.now c.in-Some.xorb.now.value push c.loop-xorb_hash.invariant.filled _
          (c.in_ok-append.ensures.ok ∙ (λ i. insert c.loop-xorb_hash.self.xorbs (key i) (copied i)))
          (sym c.contains.ensures ∙ c.if-not-contains.true) (sym c.contains-then-not-contains.ensures ∙ c.if-not-contains-2.true);
    }

pub loop-xorb_hash-preserved : goal.loop-xorb_hash-preserved
loop-xorb_hash-preserved c =
    let whole = entry_turn deref_pair _ c.loop-xorb_hash.yielded _ _ _ (c.in-Some.xorb_hash, c.in-Some.xorb) c.loop-xorb_hash.invariant.all c.in-Some.is c.next.ensures.steps in
    let push = shown_push (λ (o : Rc MDBXorbInfo Global). o.value) deref_pair c.loop-xorb_hash.yielded (c.in-Some.xorb_hash, c.in-Some.xorb) in
    record {
      can = tt;
      finite = tt;
      all = entry_turned deref_pair _ c.loop-xorb_hash.yielded _ (c.in-Some.xorb_hash, c.in-Some.xorb) whole;
      filled = filled-skip (get c.args.self.now.xorbs) c.args.except.now.xorbs _ _ _ c.in-Some.xorb_hash.now c.in-Some.xorb.now.value push c.loop-xorb_hash.invariant.filled
          (grind (arith, c.else-not-contains.branch));
    }
