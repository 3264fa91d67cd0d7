use Rattle.std.proofs.Common.{◌<◌, ◌≤◌, length, get_or, rules, sym, ap, ◌∙◌, arith, true≢false}
use Rattle.std.proofs.lemmas.Option.{same_Some, slice_get_within, slice_get-get_or}
use Rattle.placed_shards.specs.declared.places.Place.{Place}
use Rattle.placed_shards.proofs.HashRuns.{no_place, running_on, run_ends}
use Rattle.placed_shards.proofs.places.run_end.Goals as goal

pub loop-end-preserved : goal.loop-end-preserved
loop-end-preserved c =
    let low : c.loop-end.end < length c.args.places.now = search rules in
    running_on c.args.places.now c.args.from c.loop-end.end _ (get_or c.args.places.now c.loop-end.end no_place) c.loop-end.invariant (slice_get-get_or c.args.places.now c.loop-end.end no_place low) (c.has_hash.ensures.0 c.if-has_hash.true)

pub returns-else-has_hash : goal.returns-else-has_hash
returns-else-has_hash c =
    let low : c.loop-end.end < length c.args.places.now = search rules in
    let at = slice_get-get_or c.args.places.now c.loop-end.end no_place low in
    run_ends c.args.places.now c.requires.sorted c.args.from c.loop-end.end _ _ c.loop-end.invariant (slice_get-get_or c.args.places.now c.args.from no_place c.requires.within)
    (λ q q_at same. true≢false (sym (c.has_hash.ensures.1 (ap (λ (p : Place). p.hash) (same_Some (get_or c.args.places.now c.loop-end.end no_place) q (sym at ∙ q_at)) ∙ same)) ∙ c.if-has_hash.false))

pub returns-after-loop-end : goal.returns-after-loop-end
returns-after-loop-end c =
    let past : length c.args.places.now ≤ c.loop-end.end = search rules in
    run_ends c.args.places.now c.requires.sorted c.args.from c.loop-end.end _ _ c.loop-end.invariant (slice_get-get_or c.args.places.now c.args.from no_place c.requires.within)
    (λ q q_at same. omega (arith, past, slice_get_within c.args.places.now c.loop-end.end q q_at))
