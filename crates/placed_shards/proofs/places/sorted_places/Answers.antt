use Rattle.std.proofs.Common.{◌<◌, ◌≤◌, length, map, rules, refl, ap, ◌∙◌, subst, arith}
use Rattle.std.proofs.lemmas.List.{length-map}
use Rattle.std.specs.Prelude.{option_map}
use Rattle.std.proofs.lemmas.Option.{slice_get_read, slice_get-map}
use Rattle.placed_shards.specs.Steps.Differing.{AddsPlaces}
use Rattle.placed_shards.proofs.HashRuns.{places_on, all_places, places_permuted}
use Rattle.placed_shards.proofs.places.sorted_places.Goals as goal

pub loop-list-preserved : goal.loop-list-preserved
loop-list-preserved g c =
    let K = g.P.PlacedRecord.kind in
    let lists = map g.P.Agreement.listed c.args.shards.now in
    let low : c.loop-list.list < length c.args.shards.now = search rules in
    let at = slice_get-map g.P.Agreement.listed c.args.shards.now c.loop-list.list
    ∙ ap (option_map g.P.Agreement.listed) (slice_get_read c.args.shards.now (length c.args.shards.now) c.loop-list.list c.index-shards-list.result refl low c.index-shards-list.is) in
    places_on K lists c.loop-list.list (g.P.Agreement.listed c.index-shards-list.result) c.loop-list.places.items c.add_places.new.places.items at c.loop-list.invariant
    (subst (λ l. AddsPlaces K c.loop-list.list l c.loop-list.places.items c.add_places.new.places.items) c.records.ensures c.in_ok-add_places.ensures.ok)

pub returns : goal.returns
returns g c =
    let K = g.P.PlacedRecord.kind in
    let lists = map g.P.Agreement.listed c.args.shards.now in
    let all : length c.args.shards.now ≤ c.loop-list.list = search rules in
    let past : length lists ≤ c.loop-list.list = omega (arith, all, length-map c.args.shards.now g.P.Agreement.listed) in (
      places_permuted K lists c.loop-list.places.items c.sort_unstable.new.self.items c.sort_unstable.ensures.permutation (all_places K lists c.loop-list.list c.loop-list.places.items past c.loop-list.invariant),
      c.sort_unstable.ensures.sorted,
    )
