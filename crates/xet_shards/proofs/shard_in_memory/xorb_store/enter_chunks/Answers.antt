use Rattle.std.proofs.Common.{◌≡◌, List, [], ◌∷◌, ◌++◌, length, sym, ap, ◌∙◌, subst, arith, Global}
use Rattle.std.specs.Prelude.{All, option_map, option_to_list, slice_get}
use Rattle.std.specs.HashMap as hash_map
use Rattle.std.specs.declared.rc.Rc.{Rc}
use Rattle.std.proofs.lemmas.List.{length-append}
use Rattle.std.proofs.lemmas.Option.{slice_get-get_or}
use Rattle.std.proofs.lemmas.Result.{IfOk-at_ok}
use Rattle.xet_base.specs.Hash.{hash_eq}
use Rattle.xet_records.specs.declared.xorb_structs.XorbChunkSequenceEntry.{XorbChunkSequenceEntry}
use Rattle.xet_records.specs.declared.xorb_structs.MDBXorbInfo.{MDBXorbInfo}
use Rattle.xet_shards.specs.ShardInMemory.XorbStore.{shown_location, location_in}
use Rattle.xet_shards.proofs.Write.ChunkTableRows.{no_chunk}
use Rattle.xet_shards.proofs.ShardInMemory.Walks.{All-middle}
use Rattle.xet_shards.proofs.ShardInMemory.ChunkLookups.{All-front, entered-more, cond-shown_entry}
use Rattle.xet_shards.proofs.shard_in_memory.xorb_store.enter_chunks.Goals as goal

pub loop-chunk-preserved : goal.loop-chunk-preserved
loop-chunk-preserved c =
    let before = c.loop-chunk.invariant in
    let left = c.pop.new.self.items in
    let owner = c.unwrap-owner.result in
    let whole : c.loop-chunk.owners.items ≡ left ++ owner ∷ [] = c.pop.ensures.items ∙ ap (λ o. left ++ option_to_list o) c.unwrap-owner.ensures in
    let count = ap length whole ∙ length-append left (owner ∷ []) in
    let all = subst (All (λ (o : Rc MDBXorbInfo Global). o.value ≡ c.args.xorb.now)) whole before.owners in
    let own = All-middle (λ (o : Rc MDBXorbInfo Global). o.value ≡ c.args.xorb.now) left [] owner all in
    let items = c.as_slice-chunk-items.result.now in
    let chunk = ap (λ (cs : List XorbChunkSequenceEntry). option_map (λ (d : XorbChunkSequenceEntry). d.chunk_hash) (slice_get cs c.loop-chunk.chunk-index)) (sym c.as_slice-chunk-items.ensures)
    ∙ ap (option_map (λ (d : XorbChunkSequenceEntry). d.chunk_hash)) (slice_get-get_or items c.loop-chunk.chunk-index no_chunk c.loop-chunk-test.true) in
    let updates = (IfOk-at_ok _ c.unwrap.ensures c.insert-inserted.ensures.updates).0 in
    record {
      index = omega (arith, before.index);
      left = omega (arith, before.left, count);
      room = omega (arith, before.room, count, c.insert-inserted.ensures.spare);
      owners = All-front (λ (o : Rc MDBXorbInfo Global). o.value ≡ c.args.xorb.now) left (owner ∷ []) all;
      entered = entered-more _ (location_in c.loop-chunk.lookup) (location_in c.insert-inserted.new.self) c.args.xorb.now c.loop-chunk.chunk-index _ chunk
          (λ q. ap (option_map shown_location) (updates q)
          ∙ cond-shown_entry shown_location (hash_eq _ q) (owner, c.loop-chunk.index) (c.args.xorb.now, c.loop-chunk.chunk-index) (hash_map.get hash_eq c.loop-chunk.lookup q) (λ i. (own i, before.index i)))
          before.entered;
    }
