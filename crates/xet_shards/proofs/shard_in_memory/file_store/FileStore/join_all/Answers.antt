use Rattle.std.proofs.Common.{◌≡◌, ◌∷◌, [], Some, sym, ap, ◌∙◌, subst, T}
use Rattle.std.specs.Prelude.{MatchOption}
use Rattle.std.specs.Map.Iter.{deref_pair}
use Rattle.std.specs.FinMap.{get, insert, is_sorted}
use Rattle.std.proofs.lemmas.List.{map-append}
use Rattle.xet_base.specs.Hash.{hash_cmp}
use Rattle.xet_records.specs.FileRecord.{IsWellFormed}
use Rattle.xet_shards.specs.Content.Shard.{file_hash_of}
use Rattle.xet_shards.specs.Content.Joining.{entry, either_file}
use Rattle.xet_shards.specs.Steps.JoiningSteps.{CanJoinFile, IsJoinedFile}
use Rattle.xet_shards.proofs.ShardInMemory.Walks.{entry_turn, entry_turned, entry_holds}
use Rattle.xet_shards.proofs.ShardInMemory.FileUnions.{entry_of, if_some, either_none, joined_before, joined_put, joined_kept}
use Rattle.xet_shards.proofs.shard_in_memory.file_store.FileStore.join_all.Goals as goal

pub loop-file_hash-init : goal.loop-file_hash-init
loop-file_hash-init c = record { can = tt; finite = tt; all = c.into_iter-file_hash-iterator.ensures.into_iter_gives.0; joined = λ q. sym (either_none (get c.args.self.now q)) }

pub joined_with-requires-clause-formed : goal.joined_with-requires-clause-formed
joined_with-requires-clause-formed c =
    let whole = entry_turn deref_pair _ c.loop-file_hash.yielded _ _ _ (c.in-Some.file_hash, c.in-Some.file_info) c.loop-file_hash.invariant.all c.in-Some.is c.next.ensures.steps in
    entry_holds (λ e. IsWellFormed e.1) _ _ _ _ whole c.requires.files.well_formed

pub joined_with-requires-clause-joins : goal.joined_with-requires-clause-joins
joined_with-requires-clause-joins c =
    let whole = entry_turn deref_pair _ c.loop-file_hash.yielded _ _ _ (c.in-Some.file_hash, c.in-Some.file_info) c.loop-file_hash.invariant.all c.in-Some.is c.next.ensures.steps in
    let sorted = subst (λ es. T (is_sorted hash_cmp es)) (sym whole) c.requires.sorted in
    let before = joined_before _ _ c.in-Some.file_hash.now c.in-Some.file_info.now c.args.self.now c.loop-file_hash.self sorted c.loop-file_hash.invariant.joined in
    if_some (λ own. CanJoinFile own c.in-Some.file_info.now) _ (λ own there.
    c.requires.joins c.in-Some.file_hash.now own c.in-Some.file_info.now (sym before ∙ there) (entry_of _ _ _ _ whole c.requires.sorted))

pub loop-file_hash-preserved-in_ok-put : goal.loop-file_hash-preserved-in_ok-put
loop-file_hash-preserved-in_ok-put c =
    let whole = entry_turn deref_pair _ c.loop-file_hash.yielded _ _ _ (c.in-Some.file_hash, c.in-Some.file_info) c.loop-file_hash.invariant.all c.in-Some.is c.next.ensures.steps in
    let sorted = subst (λ es. T (is_sorted hash_cmp es)) (sym whole) c.requires.sorted in
    let keyed = entry_holds (λ e. e.0 ≡ file_hash_of e.1) _ _ _ _ whole c.requires.files.keyed in
    let made = subst (λ o. MatchOption o (get c.loop-file_hash.self c.in-Some.file_hash.now ≡ either_file (get c.loop-file_hash.self c.in-Some.file_hash.now) (Some c.in-Some.file_info.now))
    (IsJoinedFile (get c.loop-file_hash.self c.in-Some.file_hash.now) c.in-Some.file_info.now)) c.in-Some-2.is c.in_ok-joined.ensures.made in
    let put = c.in_ok-put.ensures.ok ∙ ap (λ k. insert c.loop-file_hash.self k c.in-Some-2.joined) (made.hash ∙ sym keyed) in
    let more = joined_put _ _ c.in-Some.file_hash.now c.in-Some.file_info.now c.args.self.now c.loop-file_hash.self sorted c.loop-file_hash.invariant.joined c.in-Some-2.joined made.file in
    record {
      can = tt;
      finite = tt;
      all = entry_turned deref_pair _ c.loop-file_hash.yielded _ (c.in-Some.file_hash, c.in-Some.file_info) whole;
      joined = λ q.
          ap (λ m. get m q) put ∙ more q
          ∙ ap (λ es. either_file (get c.args.self.now q) (entry es q)) (sym (map-append deref_pair c.loop-file_hash.yielded ((c.in-Some.file_hash, c.in-Some.file_info) ∷ [])));
    }

pub loop-file_hash-preserved : goal.loop-file_hash-preserved
loop-file_hash-preserved c =
    let whole = entry_turn deref_pair _ c.loop-file_hash.yielded _ _ _ (c.in-Some.file_hash, c.in-Some.file_info) c.loop-file_hash.invariant.all c.in-Some.is c.next.ensures.steps in
    let sorted = subst (λ es. T (is_sorted hash_cmp es)) (sym whole) c.requires.sorted in
    let same = subst (λ o. MatchOption o (get c.loop-file_hash.self c.in-Some.file_hash.now ≡ either_file (get c.loop-file_hash.self c.in-Some.file_hash.now) (Some c.in-Some.file_info.now))
    (IsJoinedFile (get c.loop-file_hash.self c.in-Some.file_hash.now) c.in-Some.file_info.now)) c.in_default.is c.in_ok-joined.ensures.made in
    let more = joined_kept _ _ c.in-Some.file_hash.now c.in-Some.file_info.now c.args.self.now c.loop-file_hash.self sorted c.loop-file_hash.invariant.joined same in
    record {
      can = tt;
      finite = tt;
      all = entry_turned deref_pair _ c.loop-file_hash.yielded _ (c.in-Some.file_hash, c.in-Some.file_info) whole;
      joined = λ q. more q
          ∙ ap (λ es. either_file (get c.args.self.now q) (entry es q)) (sym (map-append deref_pair c.loop-file_hash.yielded ((c.in-Some.file_hash, c.in-Some.file_info) ∷ [])));
    }
