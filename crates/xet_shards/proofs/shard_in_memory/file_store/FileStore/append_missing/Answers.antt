use Rattle.std.proofs.Common.{arith, ◌≡◌, [], ◌∷◌, sym, ap, ◌∙◌, subst}
use Rattle.std.specs.Map.Iter.{deref_pair}
use Rattle.std.specs.FinMap.{get, insert}
use Rattle.std.proofs.lemmas.List.{map-append}
use Rattle.xet_records.specs.FileRecord.{IsWellFormed}
use Rattle.xet_shards.specs.Content.Shard.{file_hash_of}
use Rattle.xet_shards.proofs.ShardInMemory.Walks.{entry_turn, entry_turned, entry_holds}
use Rattle.xet_shards.proofs.Content.Joining.{filled-skip, filled-add}
use Rattle.xet_shards.proofs.shard_in_memory.file_store.FileStore.append_missing.Goals as goal

pub put-requires : goal.put-requires
put-requires c =
    let whole = entry_turn deref_pair _ c.loop-file_hash.yielded _ _ _ (c.in-Some.file_hash, c.in-Some.file_info) c.loop-file_hash.invariant.all c.in-Some.is c.next.ensures.steps in
    subst IsWellFormed (sym c.in_ok-try_clone.ensures.ok) (entry_holds (λ e. IsWellFormed e.1) _ _ _ _ whole c.requires.well_formed)

pub loop-file_hash-preserved-then-not-contains-2 : goal.loop-file_hash-preserved-then-not-contains-2
loop-file_hash-preserved-then-not-contains-2 c =
    let whole = entry_turn deref_pair _ c.loop-file_hash.yielded _ _ _ (c.in-Some.file_hash, c.in-Some.file_info) c.loop-file_hash.invariant.all c.in-Some.is c.next.ensures.steps in
    let keyed = entry_holds (λ e. e.0 ≡ file_hash_of e.1) _ _ _ _ whole c.requires.keyed in
    let copied = c.in_ok-try_clone.ensures.ok in
    let key = ap file_hash_of copied ∙ sym keyed in
    let push = map-append deref_pair c.loop-file_hash.yielded ((c.in-Some.file_hash, c.in-Some.file_info) ∷ []) in
    record {
      can = tt;
      finite = tt;
      all = entry_turned deref_pair _ c.loop-file_hash.yielded _ (c.in-Some.file_hash, c.in-Some.file_info) whole;
      filled = filled-add (get c.args.self.now) c.args.except.now _ _ _ c.in-Some.file_hash.now c.in-Some.file_info.now push c.loop-file_hash.invariant.filled _
          (c.in_ok-put.ensures.ok ∙ (λ i. insert c.loop-file_hash.self (key i) (copied i)))
          (sym c.contains.ensures ∙ c.if-not-contains.true) (sym c.contains-then-not-contains.ensures ∙ c.if-not-contains-2.true);
    }

pub loop-file_hash-preserved : goal.loop-file_hash-preserved
loop-file_hash-preserved c =
    let whole = entry_turn deref_pair _ c.loop-file_hash.yielded _ _ _ (c.in-Some.file_hash, c.in-Some.file_info) c.loop-file_hash.invariant.all c.in-Some.is c.next.ensures.steps in
    let push = map-append deref_pair c.loop-file_hash.yielded ((c.in-Some.file_hash, c.in-Some.file_info) ∷ []) in
    record {
      can = tt;
      finite = tt;
      all = entry_turned deref_pair _ c.loop-file_hash.yielded _ (c.in-Some.file_hash, c.in-Some.file_info) whole;
      filled = filled-skip (get c.args.self.now) c.args.except.now _ _ _ c.in-Some.file_hash.now c.in-Some.file_info.now push c.loop-file_hash.invariant.filled
          (grind (arith, c.else-not-contains.branch));
    }
