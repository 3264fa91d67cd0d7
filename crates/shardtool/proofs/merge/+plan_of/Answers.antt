use Rattle.std.proofs.Common.{rules, map, ℕ, List, Bor, sym, subst}
use Rattle.xet_core_structures.specs.declared.set_operations.MergePlan.{Both}
use Rattle.shardtool.specs.NamedTrees.{bytes_under, IsPlanOf}
use Rattle.shardtool.proofs.Merging.{plan_of_name, plan_of_pair}
use Rattle.shardtool.proofs.merge.+plan_of.Goals as goal

pub returns-in_ok-push-in-Name : goal.returns-in_ok-push-in-Name
returns-in_ok-push-in-Name t c =
    plan_of_name (bytes_under c.args.buffers.now) c.args.tree.now c.in-Name.name c.as_slice.result c.args.inputs.now.items c.push.new.self.items c.len-index.result
    c.in-Name.is c.in_ok-push-in-Name.ensures.items (search (rules, c.len-index.ensures)) (search (rules, c.in-Some.ensures, c.as_slice.ensures))

pub returns-in_ok-new-in-Both-2 : goal.returns-in_ok-new-in-Both-2
returns-in_ok-new-in-Both-2 t c =
    let buffers = bytes_under c.args.buffers.now in
    let end = map (λ (x : Bor (List ℕ)). x.now) c.plan_of-in-Both.new.inputs.items in
    let pair = plan_of_pair buffers c.in-Both.left.value c.in-Both.right.value c.deref.result.now c.deref-in-Both.result.now
    c.in_ok-left-in-Both.left c.in_ok-right-in-Both.right c.in_ok-new-in-Both.field-0.value c.in_ok-new-in-Both-2.field-0.value
    (map (λ (x : Bor (List ℕ)). x.now) c.args.inputs.now.items) (map (λ (x : Bor (List ℕ)). x.now) c.plan_of.new.inputs.items) end
    c.deref.ensures c.deref-in-Both.ensures c.in_ok-new-in-Both.ensures.ok c.in_ok-new-in-Both-2.ensures.ok c.in_ok-left-in-Both.ensures c.in_ok-right-in-Both.ensures in
    (pair.0, subst (λ tree. IsPlanOf buffers end tree (Both c.in_ok-new-in-Both.field-0 c.in_ok-new-in-Both-2.field-0)) (sym c.in-Both.is) pair.1)
