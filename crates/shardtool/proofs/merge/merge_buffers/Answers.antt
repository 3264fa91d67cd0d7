use Rattle.std.proofs.Common.{map, ℕ, List, Bor, subst}
use Rattle.std.proofs.lemmas.Result.{err_from_is_err_and}
use Rattle.xet_core_structures.specs.Trees.MergeTrees.{TreeWrites, TreeRefusal}
use Rattle.shardtool.specs.NamedTrees.{bytes_under}
use Rattle.shardtool.proofs.Merging.{plan_known, plan_merges, plan_refused, stops_without_plan, stops_at_unknown}
use Rattle.shardtool.proofs.merge.merge_buffers.Goals as goal

pub returns-in_err-plan-clause-written : goal.returns-in_err-plan-clause-written
returns-in_err-plan-clause-written c =
    let p = err_from_is_err_and c.from_residual.result c.from_residual.ensures.1 in
    rw (p.1, p.2) (stops_without_plan (bytes_under c.args.buffers.now) c.args.tree.now c.in_err-plan.field-0.0 c.in_err-plan.ensures)

pub returns-in_err-shard_union_tree-clause-written : goal.returns-in_err-shard_union_tree-clause-written
returns-in_err-shard_union_tree-clause-written c =
    let p = err_from_is_err_and c.from_residual-in_err-shard_union_tree.result c.from_residual-in_err-shard_union_tree.ensures.1 in
    let inputs = map (λ (x : Bor (List ℕ)). x.now) c.plan_of.new.inputs.items in
    let refusal = subst (λ (xs : List (Bor (List ℕ))). TreeRefusal (map (λ x. x.now) xs) c.in_ok-plan.plan c.in_err-shard_union_tree.field-0.0) c.as_slice.ensures.value c.in_err-shard_union_tree.ensures.any_bytes in
    rw (p.1, p.2) (plan_refused (bytes_under c.args.buffers.now) inputs c.args.tree.now c.in_ok-plan.plan c.in_err-shard_union_tree.field-0.0 c.in_ok-plan.ensures.1 refusal)

pub returns-clause-written : goal.returns-clause-written
returns-clause-written c =
    let inputs = map (λ (x : Bor (List ℕ)). x.now) c.plan_of.new.inputs.items in
    let written = subst (λ (xs : List (Bor (List ℕ))). TreeWrites (map (λ x. x.now) xs) c.in_ok-plan.plan c.in_ok-shard_union_tree.field-0.items) c.as_slice.ensures.value c.in_ok-shard_union_tree.ensures.any_bytes in
    plan_merges (bytes_under c.args.buffers.now) inputs c.args.tree.now c.in_ok-plan.plan c.in_ok-shard_union_tree.field-0.items c.in_ok-plan.ensures.1 written

pub returns-in_err-plan-clause-unknown : goal.returns-in_err-plan-clause-unknown
returns-in_err-plan-clause-unknown c = λ unknown.
    let p = err_from_is_err_and c.from_residual.result c.from_residual.ensures.1 in
    rw (p.1, p.2) (stops_at_unknown (bytes_under c.args.buffers.now) c.args.tree.now c.in_err-plan.field-0.0 c.in_err-plan.ensures)

pub returns-in_err-shard_union_tree-clause-unknown : goal.returns-in_err-shard_union_tree-clause-unknown
returns-in_err-shard_union_tree-clause-unknown c = λ unknown.
    absurd (plan_known (bytes_under c.args.buffers.now) (map (λ (x : Bor (List ℕ)). x.now) c.plan_of.new.inputs.items) c.args.tree.now c.in_ok-plan.plan c.in_ok-plan.ensures.1 unknown)

pub returns-clause-unknown : goal.returns-clause-unknown
returns-clause-unknown c = λ unknown.
    absurd (plan_known (bytes_under c.args.buffers.now) (map (λ (x : Bor (List ℕ)). x.now) c.plan_of.new.inputs.items) c.args.tree.now c.in_ok-plan.plan c.in_ok-plan.ensures.1 unknown)
