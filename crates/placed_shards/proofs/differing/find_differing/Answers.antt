use Rattle.std.proofs.Common.{◌≤◌, length, map, rules, sym, subst}
use Rattle.placed_shards.specs.Steps.Differing.{AgreeAsRead, ComparesRun, IsRun}
use Rattle.placed_shards.proofs.DifferingFound.{HasCompared, compared_start, compared_on, found_differing}
use Rattle.placed_shards.proofs.differing.find_differing.Goals as goal

pub loop-from-init : goal.loop-from-init
loop-from-init g c =
    let agree = AgreeAsRead g.P.PlacedRecord.kind g.P.Agreement.agree in
    let lists = map g.P.Agreement.listed c.args.shards.now in
    subst (HasCompared agree lists c.in_ok-places.places.items 0) (sym c.new-found.ensures.items) (compared_start agree lists c.in_ok-places.places.items)

pub loop-from-preserved : goal.loop-from-preserved
loop-from-preserved g c =
    let agree = AgreeAsRead g.P.PlacedRecord.kind g.P.Agreement.agree in
    let lists = map g.P.Agreement.listed c.args.shards.now in
    let from = c.loop-from.from in
    compared_on agree lists c.in_ok-places.places.items from c.in_ok-from.from c.loop-from.found.items c.loop-from.invariant
    (subst (λ l. IsRun l from c.in_ok-from.from) c.as_slice.ensures.value c.in_ok-from.ensures.0) c.compare_run.new.found.items
    (subst (λ l. ComparesRun agree lists l from c.in_ok-from.from c.loop-from.found.items c.compare_run.new.found.items) c.as_slice.ensures.value c.in_ok-from.ensures.1)

pub returns : goal.returns
returns g c =
    let agree = AgreeAsRead g.P.PlacedRecord.kind g.P.Agreement.agree in
    let lists = map g.P.Agreement.listed c.args.shards.now in
    let past : length c.in_ok-places.places.items ≤ c.loop-from.from = search rules in
    found_differing g.P.PlacedRecord.kind agree lists c.requires c.in_ok-places.places.items c.in_ok-places.ensures.0 c.loop-from.from c.loop-from.found.items past c.loop-from.invariant
