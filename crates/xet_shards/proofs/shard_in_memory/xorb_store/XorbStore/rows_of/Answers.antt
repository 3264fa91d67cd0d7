use Rattle.std.proofs.Common.{arith, ◌+◌, Option, sym, ap, ◌∙◌, Global}
use Rattle.std.specs.Prelude.{option_map, unwrap_or}
use Rattle.std.specs.declared.rc.Rc.{Rc}
use Rattle.std.specs.FinMap.{get, get-from_sorted}
use Rattle.xet_base.specs.Hash.{hash_cmp}
use Rattle.xet_records.specs.declared.xorb_structs.MDBXorbInfo.{MDBXorbInfo}
use Rattle.xet_records.specs.XorbRecord.{xorb_row_count, IsXorb}
use Rattle.xet_shards.specs.Steps.ChunkLookupSteps.{XorbsWithLookup}
use Rattle.xet_shards.specs.ShardInMemory.XorbStore.{shown_xorbs}
use Rattle.xet_shards.proofs.ShardInMemory.FileUnions.{entry-holds}
use Rattle.xet_shards.proofs.ShardInMemory.Xorbs.{found_shown}
use Rattle.xet_shards.proofs.shard_in_memory.xorb_store.XorbStore.rows_of.Goals as goal

pub returns-in-Some : goal.returns-in-Some
returns-in-Some c =
    let q = c.args.xorb_hash.now in
    let es = c.self.inside.content.entries in
    let value = ap (option_map (λ (o : Rc MDBXorbInfo Global). o.value)) c.in-Some.ensures.value ∙ found_shown es q c.self.invariant.sorted in
    let well = entry-holds (λ e. IsXorb e.1) (shown_xorbs es) q c.in-Some.xorb.now.value c.self.invariant.xorbs.well_formed (sym (value ∙ get-from_sorted hash_cmp _ q c.self.invariant.sorted)) in
    ap (λ n. 1 + n) (c.from.ensures ∙ ap (λ (r : MDBXorbInfo). r.metadata.num_entries) c.deref.ensures ∙ sym well.count)
    ∙ ap (λ (o : Option MDBXorbInfo). unwrap_or (option_map xorb_row_count o) 0) (value ∙ ap (λ (t : XorbsWithLookup). get t.xorbs q) c.self.view_is)

pub returns-in-None : goal.returns-in-None
returns-in-None c =
    let q = c.args.xorb_hash.now in
    grind (arith, c.in-None.ensures.value, found_shown c.self.inside.content.entries q c.self.invariant.sorted, ap (λ (t : XorbsWithLookup). get t.xorbs q) c.self.view_is)
