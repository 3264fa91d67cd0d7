use Rattle.std.proofs.Common.{◌≡◌, ◌+◌, ◌<◌, ◌≤◌, length, map, get_or, rules, refl, sym, arith, subst}
use Rattle.std.specs.Prelude.{MatchOption}
use Rattle.std.proofs.lemmas.Option.{slice_get-get_or}
use Rattle.placed_shards.specs.Steps.Differing.{AgreeAsRead, AgreeWithin, ComparesPlace, DiffersFromKept}
use Rattle.placed_shards.proofs.Comparing.{IsComparing, all_agree, comparing_start, compared_on, differ_here, one_agrees}
use Rattle.placed_shards.proofs.HashRuns.{no_place}
use Rattle.placed_shards.proofs.Items.{has_at}
use Rattle.placed_shards.proofs.differing.differ_in_run.Goals as goal

pub returns-then-to-from-eq1 : goal.returns-then-to-from-eq1
returns-then-to-from-eq1 g c =
    let K = g.P.PlacedRecord.kind in
    let laws = c.agreement_laws.ensures in
    let one : c.args.to ≡ c.args.from + 1 = search rules in
    one_agrees (AgreeAsRead K g.P.Agreement.agree) (map g.P.Agreement.listed c.args.shards.now) c.args.places.now c.args.from
    (λ r. laws.itself (K.as_read r)) (λ r s. laws.either_way (K.as_read r) (K.as_read s)) c.args.to one

pub loop-at-init : goal.loop-at-init
loop-at-init g c =
    let agree = AgreeAsRead g.P.PlacedRecord.kind g.P.Agreement.agree in
    let lists = map g.P.Agreement.listed c.args.shards.now in (
      omega (arith, c.requires.run.some),
      subst (IsComparing agree lists c.args.places.now c.args.from c.args.from) (sym c.new-kept.ensures.items) (comparing_start agree lists c.args.places.now c.args.from),
    )

pub compare_place-requires : goal.compare_place-requires
compare_place-requires g c = λ k.
    let places = c.args.places.now in
    let at = c.loop-at.at in
    let low : at < length places = omega (arith, c.loop-at-test.true, c.requires.run.within) in
    let here = get_or places at no_place in (
      (refl, (refl, tt)),
      (
        c.requires.each here (has_at places at here (slice_get-get_or places at no_place low)),
        λ p has. let is = c.loop-at.invariant.1.each p has in c.requires.each p (has_at places is.0 p is.3),
      ),
    )

pub loop-at-preserved : goal.loop-at-preserved
loop-at-preserved g c =
    let K = g.P.PlacedRecord.kind in
    let agree = AgreeAsRead K g.P.Agreement.agree in
    let laws = c.agreement_laws.ensures in
    let lists = map g.P.Agreement.listed c.args.shards.now in
    let places = c.args.places.now in
    let at = c.loop-at.at in
    let low : at < length places = omega (arith, c.loop-at-test.true, c.requires.run.within) in
    let here = get_or places at no_place in
    let old = c.loop-at.kept.items in
    let new = c.compare_place.new.kept.items in (
      omega (arith, c.loop-at-test.true),
      compared_on agree lists places c.args.from (λ r. laws.itself (K.as_read r)) (λ r s. laws.either_way (K.as_read r) (K.as_read s)) at old c.loop-at.invariant.1 here (slice_get-get_or places at no_place low) new
          (subst (λ o. MatchOption o (ComparesPlace agree lists here old new) (DiffersFromKept agree lists here old)) c.in-None.is c.in_ok-differing.ensures),
    )

pub returns-in-Some : goal.returns-in-Some
returns-in-Some g c =
    let K = g.P.PlacedRecord.kind in
    let agree = AgreeAsRead K g.P.Agreement.agree in
    let laws = c.agreement_laws.ensures in
    let lists = map g.P.Agreement.listed c.args.shards.now in
    let places = c.args.places.now in
    let at = c.loop-at.at in
    let low : at < length places = omega (arith, c.loop-at-test.true, c.requires.run.within) in
    let here = get_or places at no_place in
    let old = c.loop-at.kept.items in
    let new = c.compare_place.new.kept.items in
    differ_here agree lists places c.args.from (λ r. laws.itself (K.as_read r)) (λ r s. laws.either_way (K.as_read r) (K.as_read s)) at old c.loop-at.invariant.1 here (slice_get-get_or places at no_place low)
    c.args.to c.in-Some.differing c.requires.run c.loop-at-test.true
    (subst (λ o. MatchOption o (ComparesPlace agree lists here old new) (DiffersFromKept agree lists here old)) c.in-Some.is c.in_ok-differing.ensures)

pub returns : goal.returns
returns g c =
    let K = g.P.PlacedRecord.kind in
    let agree = AgreeAsRead K g.P.Agreement.agree in
    let laws = c.agreement_laws.ensures in
    let lists = map g.P.Agreement.listed c.args.shards.now in
    let places = c.args.places.now in
    let past : c.args.to ≤ c.loop-at.at = search rules in
    let same : c.loop-at.at ≡ c.args.to = omega (arith, past, c.loop-at.invariant.0) in
    subst (AgreeWithin agree lists places c.args.from) same
    (all_agree agree lists places c.args.from (λ r. laws.itself (K.as_read r)) (λ r s. laws.either_way (K.as_read r) (K.as_read s)) c.loop-at.at c.loop-at.kept.items c.loop-at.invariant.1)
