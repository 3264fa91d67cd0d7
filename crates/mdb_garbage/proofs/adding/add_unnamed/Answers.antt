use Rattle.std.proofs.Common.{◌<◌, ◌≤◌, length, rules, refl, subst}
use Rattle.mdb_garbage.specs.Steps.{Adds, IsOneOf, IsUnnamed}
use Rattle.mdb_garbage.proofs.Additions.{up_to_start, up_to_more, up_to_all}
use Rattle.mdb_garbage.proofs.adding.add_unnamed.Goals as goal

pub loop-index-init : goal.loop-index-init
loop-index-init c = up_to_start (λ h. h) (IsUnnamed c.args.segments.now.items.items) c.as_slice-items.result.now c.args.found.now.items

pub loop-index-preserved : goal.loop-index-preserved
loop-index-preserved c =
    let low : c.loop-index.index < length c.as_slice-items.result.now = search rules in
    up_to_more (λ h. h) (IsUnnamed c.args.segments.now.items.items) c.as_slice-items.result.now c.loop-index.index _ _ _ _ _ _ low refl
    c.unnamed_misfit-misfit.ensures c.loop-index.invariant c.in_ok-add_misfit.ensures

pub returns : goal.returns
returns c =
    let past : length c.as_slice-items.result.now ≤ c.loop-index.index = search rules in
    subst (λ l. Adds (IsOneOf (λ h. h) (IsUnnamed c.args.segments.now.items.items) l) c.args.found.now.items c.loop-index.found.items) c.as_slice-items.ensures.value
    (up_to_all (λ h. h) (IsUnnamed c.args.segments.now.items.items) c.as_slice-items.result.now c.loop-index.index _ _ past c.loop-index.invariant)
