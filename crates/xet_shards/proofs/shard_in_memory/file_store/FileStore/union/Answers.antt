use Rattle.std.proofs.Common.{sym, ap, ◌∙◌, subst}
use Rattle.std.specs.FinMap.{get, from_sorted, get-from_sorted}
use Rattle.xet_base.specs.Hash.{hash_cmp}
use Rattle.xet_shards.specs.Content.Joining.{either_file}
use Rattle.xet_shards.specs.Steps.JoiningSteps.{CanJoinFiles}
use Rattle.xet_shards.proofs.shard_in_memory.file_store.FileStore.union.Goals as goal

pub join_all-requires-clause-joins : goal.join_all-requires-clause-joins
join_all-requires-clause-joins c =
    let other = from_sorted {R = hash_cmp} c.other.inside.content.entries in
    subst (λ m. CanJoinFiles m other) (sym c.in_ok-joined.ensures.ok) (subst (λ m. CanJoinFiles c.args.self.now m) (sym c.other.view_is) c.requires)

pub returns-clause-ok : goal.returns-clause-ok
returns-clause-ok c = λ q.
    c.in_ok-join_all.ensures.ok q
    ∙ ap (either_file (get c.in_ok-joined.joined q)) (sym (get-from_sorted hash_cmp _ q c.other.invariant.sorted) ∙ ap (λ m. get m q) c.other.view_is)
    ∙ ap (λ m. either_file (get m q) (get c.args.other.now q)) c.in_ok-joined.ensures.ok
