use Rattle.std.proofs.Common.{◌≤◌, [], ◌∷◌, ◌++◌, ℕ, List, Option, ◌≡◌, ◌+◌, sym, ap, ◌∙◌, arith, map, Global}
use Rattle.std.specs.Prelude.{option_map, unwrap_or}
use Rattle.std.specs.declared.rc.Rc.{Rc}
use Rattle.std.specs.Map.Iter.{deref_pair}
use Rattle.std.specs.FinMap.{get, values}
use Rattle.std.specs.Map.{values_of}
use Rattle.xet_base.specs.declared.merklehash.DataHash.{DataHash}
use Rattle.xet_records.specs.declared.xorb_structs.MDBXorbInfo.{MDBXorbInfo}
use Rattle.xet_records.specs.XorbRecord.{xorb_records, xorb_row_count, IsXorb}
use Rattle.xet_shards.specs.Write.Section.{total_rows}
use Rattle.xet_shards.specs.ShardInMemory.XorbStore.{shown_xorbs}
use Rattle.xet_shards.proofs.ShardInMemory.Walks.{entry_turn, entry_turned, entry_end}
use Rattle.xet_shards.proofs.Content.Joining.{shown_push, shown_at}
use Rattle.xet_shards.proofs.Content.Overlays.{with_twin, overlay, other_xorb, sum-overlay, sum-entries, new_key, shown_whole, are_united_xorbs}
use Rattle.xet_shards.proofs.shard_in_memory.union_rows.united_xorb_rows.Goals.{After-contains}
use Rattle.xet_shards.proofs.shard_in_memory.union_rows.united_xorb_rows.Goals as goal

-- the rows after an iteration whose xorb adds these to those of the other xorb with its hash
module _ (c : After-contains) (added : ℕ) where
  abbrev xorb : MDBXorbInfo
  xorb = c.in-Some.xorb.now.value

  abbrev twin : Option MDBXorbInfo
  twin = get c.args.other.now.xorbs c.in-Some.xorb_hash.now

  abbrev entries_now : List (DataHash × MDBXorbInfo)
  entries_now = shown_xorbs (map deref_pair (c.loop-xorb_hash.yielded ++ (c.in-Some.xorb_hash, c.in-Some.xorb) ∷ []))

  rows_now : unwrap_or (option_map xorb_row_count twin) 0 + added ≡ xorb_row_count (with_twin other_xorb xorb twin) → added ≤ xorb_row_count xorb
      → (c.loop-xorb_hash.rows + added ≡ total_rows xorb_records (values (overlay other_xorb entries_now c.args.other.now.xorbs)))
      × (c.loop-xorb_hash.rows + added ≤ 4294967295 + total_rows xorb_records (values_of entries_now))
  rows_now own few =
      let front = shown_xorbs (map deref_pair c.loop-xorb_hash.yielded) in
      let whole = entry_turn deref_pair _ c.loop-xorb_hash.yielded _ _ _ (c.in-Some.xorb_hash, c.in-Some.xorb) c.loop-xorb_hash.invariant.all c.in-Some.is c.next.ensures.steps in
      let push = shown_push (λ (o : Rc MDBXorbInfo Global). o.value) deref_pair c.loop-xorb_hash.yielded (c.in-Some.xorb_hash, c.in-Some.xorb) in
      let new = new_key _ _ _ _ (shown_whole (λ (o : Rc MDBXorbInfo Global). o.value) _ _ _ _ whole) c.requires.sorted in (
        omega (arith, sum-overlay other_xorb front _ c.in-Some.xorb_hash.now xorb push c.args.other.now.xorbs new xorb_row_count, own, c.loop-xorb_hash.invariant.rows),
        omega (arith, sum-entries xorb_row_count front _ (c.in-Some.xorb_hash.now, xorb) push, few, c.loop-xorb_hash.invariant.bound),
      )

pub loop-xorb_hash-preserved-then-not-contains : goal.loop-xorb_hash-preserved-then-not-contains
loop-xorb_hash-preserved-then-not-contains c =
    let whole = entry_turn deref_pair _ c.loop-xorb_hash.yielded _ _ _ (c.in-Some.xorb_hash, c.in-Some.xorb) c.loop-xorb_hash.invariant.all c.in-Some.is c.next.ensures.steps in
    let well = shown_at (λ (o : Rc MDBXorbInfo Global). o.value) (λ e. IsXorb e.1) _ _ _ _ whole c.requires.xorbs.well_formed in
    let counted : 1 + c.from.result ≡ xorb_row_count c.in-Some.xorb.now.value = ap (λ n. 1 + n) (c.from.ensures ∙ ap (λ (r : MDBXorbInfo). r.metadata.num_entries) c.deref.ensures ∙ sym well.count) in
    let now = rows_now (goal.at.loop-xorb_hash-preserved-then-not-contains c).After-contains (1 + c.from.result) (grind (arith, c.contains.ensures)) (omega (arith, counted)) in
    record {
      can = tt;
      finite = tt;
      all = entry_turned deref_pair _ c.loop-xorb_hash.yielded _ (c.in-Some.xorb_hash, c.in-Some.xorb) whole;
      rows = omega (arith, now.0);
      bound = omega (arith, now.1);
    }

pub loop-xorb_hash-preserved : goal.loop-xorb_hash-preserved
loop-xorb_hash-preserved c =
    let whole = entry_turn deref_pair _ c.loop-xorb_hash.yielded _ _ _ (c.in-Some.xorb_hash, c.in-Some.xorb) c.loop-xorb_hash.invariant.all c.in-Some.is c.next.ensures.steps in
    let now = rows_now (goal.at.loop-xorb_hash-preserved c).After-contains 0 (grind (arith, c.contains.ensures)) (omega arith) in
    record {
      can = tt;
      finite = tt;
      all = entry_turned deref_pair _ c.loop-xorb_hash.yielded _ (c.in-Some.xorb_hash, c.in-Some.xorb) whole;
      rows = omega (arith, now.0);
      bound = omega (arith, now.1);
    }

pub returns : goal.returns
returns c = λ m is.
    let all = entry_end deref_pair _ c.loop-xorb_hash.yielded _ _ _ c.loop-xorb_hash.invariant.all c.in-None.is c.next.ensures.steps in
    c.loop-xorb_hash.invariant.rows ∙ ap (λ es. total_rows xorb_records (values (overlay other_xorb (shown_xorbs es) c.args.other.now.xorbs))) all
    ∙ ap (λ n. total_rows xorb_records (values n)) (sym (are_united_xorbs (shown_xorbs c.args.xorbs.now.entries) c.args.other.now.xorbs m is))
