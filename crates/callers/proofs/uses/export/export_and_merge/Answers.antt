use Rattle.std.proofs.Common.{true, [], ◌∷◌, sym, subst}
use Rattle.std.proofs.lemmas.Result.{MatchResult-weaker}
use Rattle.xet_core_structures.specs.Trees.ExportTrees.{IsExportOf}
use Rattle.callers.proofs.Callers.{both_exported, other_times}
use Rattle.callers.proofs.uses.export.export_and_merge.Goals as goal

pub returns-clause-merged : goal.returns-clause-merged
returns-clause-merged c a b join one other agree is_join =
    let key = c.args.key in
    let first = subst (IsExportOf true key a) (sym c.as_slice.ensures.value) (c.in_ok-first.ensures.made a one) in
    let second = subst (IsExportOf true key b) (sym c.as_slice-2.ensures.value) (c.in_ok-second.ensures.made b other) in
    let merge = both_exported key a b join c.as_slice.result.now c.as_slice-2.result.now c.in_ok-plan.plan c.in_ok-plan.ensures.union c.in_ok-plan.ensures.leaves first second agree is_join in
    MatchResult-weaker c.shard_union_tree.result c.shard_union_tree.ensures.any_bytes
    (λ bytes writes. c.exports_merge_to_the_export_of_the_join.ensures.bytes true (c.as_slice.result.now ∷ c.as_slice-2.result.now ∷ []) c.in_ok-plan.plan key (a ∷ b ∷ []) join bytes.items merge writes)
    (λ e refused. tt)

pub returns-clause-times : goal.returns-clause-times
returns-clause-times c a b join one other agree is_join =
    MatchResult-weaker c.shard_union_tree.result (returns-clause-merged c a b join one other agree is_join)
    (λ bytes is. other_times join c.args.key c.args.now c.args.valid_seconds bytes.items (c.exports_merge_to_the_export_of_the_join.ensures.timestamps true join c.args.key) is) (λ e refused. tt)
