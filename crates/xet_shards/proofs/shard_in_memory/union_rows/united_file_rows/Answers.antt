use Rattle.std.proofs.Common.{◌≡◌, ◌+◌, [], ◌∷◌, Option, None, Some, sym, ap, ◌∙◌, subst, true≢false, arith, map, Bor}
use Rattle.std.specs.Prelude.{option_map, unwrap_or, IfSome}
use Rattle.std.specs.Map.Iter.{deref_pair}
use Rattle.std.specs.FinMap.{get, values}
use Rattle.std.proofs.lemmas.List.{map-append}
use Rattle.std.proofs.lemmas.Option.{none-some, same_Some}
use Rattle.xet_base.specs.declared.merklehash.DataHash.{DataHash}
use Rattle.xet_records.specs.declared.file_structs.MDBFileInfo.{MDBFileInfo}
use Rattle.xet_records.specs.FileRecord.{file_records, row_count, IsWellFormed}
use Rattle.xet_records.specs.Merging.{IsSameFile, merged_file}
use Rattle.xet_shards.specs.Write.Section.{total_rows}
use Rattle.xet_shards.proofs.ShardInMemory.Walks.{entry_turn, entry_turned, entry_end, entry_holds}
use Rattle.xet_shards.specs.Steps.JoiningSteps.{CanJoinFile}
use Rattle.xet_shards.proofs.ShardInMemory.FileUnions.{CanJoinEntries, can_join_more, can_join_entries, entry_of}
use Rattle.xet_shards.proofs.Content.Overlays.{with_twin, overlay, sum-overlay, new_key, sum-entries, are_united_files}
use Rattle.xet_shards.proofs.shard_in_memory.union_rows.united_file_rows.Goals as goal

pub rows_added-rows-requires-clause-own : goal.rows_added-rows-requires-clause-own
rows_added-rows-requires-clause-own c =
    let whole = entry_turn deref_pair _ c.loop-file_hash.yielded _ _ _ (c.in-Some.file_hash, c.in-Some.file_info) c.loop-file_hash.invariant.all c.in-Some.is c.next.ensures.steps in
    entry_holds (λ e. IsWellFormed e.1) _ _ _ _ whole c.requires.files.well_formed

if_there : (P : MDBFileInfo → Type 0) (o : Option (Bor MDBFileInfo)) (p : Option MDBFileInfo) → option_map (λ t. t.now) o ≡ p → ((s : MDBFileInfo) → p ≡ Some s → P s) → IfSome o (λ t. P t.now)
if_there P o p is holds = grind (arith, holds)

of_there : (P : MDBFileInfo → Type 0) (o : Option (Bor MDBFileInfo)) (p : Option MDBFileInfo) → option_map (λ t. t.now) o ≡ p → IfSome o (λ t. P t.now) → (s : MDBFileInfo) → p ≡ Some s → P s
of_there P None p is holds s there = absurd (none-some s (is ∙ there))
of_there P (Some t) p is holds s there = subst P (same_Some t.now s (is ∙ there)) holds

pub can_join_twin-requires-clause-own : goal.can_join_twin-requires-clause-own
can_join_twin-requires-clause-own c =
    let whole = entry_turn deref_pair _ c.loop-file_hash.yielded _ _ _ (c.in-Some.file_hash, c.in-Some.file_info) c.loop-file_hash.invariant.all c.in-Some.is c.next.ensures.steps in
    entry_holds (λ e. IsWellFormed e.1) _ _ _ _ whole c.requires.files.well_formed

pub returns-then-not-can_join_twin : goal.returns-then-not-can_join_twin
returns-then-not-can_join_twin c = λ can.
    let whole = entry_turn deref_pair _ c.loop-file_hash.yielded _ _ _ (c.in-Some.file_hash, c.in-Some.file_info) c.loop-file_hash.invariant.all c.in-Some.is c.next.ensures.steps in
    let own = entry_of _ _ _ _ whole c.requires.sorted in
    let twin = if_there (CanJoinFile c.in-Some.file_info.now) c.get-twin.result _ c.get-twin.ensures.value (λ s there. can _ _ s own there) in
    true≢false (sym (c.can_join_twin.ensures.1 twin) ∙ c.if-not-can_join_twin.true)

pub rows_added-rows-requires-clause-same : goal.rows_added-rows-requires-clause-same
rows_added-rows-requires-clause-same c =
    let joins = of_there (CanJoinFile c.in-Some.file_info.now) c.get-twin.result _ c.get-twin.ensures.value (c.can_join_twin.ensures.0 c.if-not-can_join_twin.false) in
    if_there (λ s. IsSameFile c.in-Some.file_info.now.metadata s.metadata) c.get-twin.result _ c.get-twin.ensures.value (λ s there. (joins s there).same)

pub loop-file_hash-preserved : goal.loop-file_hash-preserved
loop-file_hash-preserved c =
    let entry : Bor DataHash × Bor MDBFileInfo = (c.in-Some.file_hash, c.in-Some.file_info) in
    let file = c.in-Some.file_info.now in
    let front = map deref_pair c.loop-file_hash.yielded in
    let twin = get c.args.other.now c.in-Some.file_hash.now in
    let whole = entry_turn deref_pair _ c.loop-file_hash.yielded _ _ _ entry c.loop-file_hash.invariant.all c.in-Some.is c.next.ensures.steps in
    let push = map-append deref_pair c.loop-file_hash.yielded (entry ∷ []) in
    let added : unwrap_or (option_map row_count twin) 0 + c.rows_added-rows.result ≡ row_count (with_twin merged_file file twin) = grind (arith, c.get-twin.ensures.value, c.rows_added-rows.ensures.rows) in
    record {
      can = tt;
      finite = tt;
      all = entry_turned deref_pair _ c.loop-file_hash.yielded _ entry whole;
      joins = can_join_more _ _ _ c.args.other.now push c.loop-file_hash.invariant.joins
          (of_there (CanJoinFile file) c.get-twin.result _ c.get-twin.ensures.value (c.can_join_twin.ensures.0 c.if-not-can_join_twin.false));
      rows = omega (arith, sum-overlay merged_file front _ c.in-Some.file_hash.now file push c.args.other.now (new_key _ _ _ _ whole c.requires.sorted) row_count, added);
      bound = omega (arith, sum-entries row_count front _ (c.in-Some.file_hash.now, file) push);
    }

pub returns : goal.returns
returns c =
    let all = entry_end deref_pair _ c.loop-file_hash.yielded _ _ _ c.loop-file_hash.invariant.all c.in-None.is c.next.ensures.steps in (
      can_join_entries c.args.files.now.entries c.args.other.now c.requires.sorted (subst (λ es. CanJoinEntries es c.args.other.now) all c.loop-file_hash.invariant.joins),
      λ m is.
          c.loop-file_hash.invariant.rows ∙ ap (λ es. total_rows file_records (values (overlay merged_file es c.args.other.now))) all
          ∙ ap (λ n. total_rows file_records (values n)) (sym (are_united_files c.args.files.now.entries c.args.other.now m is)),
    )
