use Rattle.std.proofs.Common.{◌≡◌, inl, inr, map, take_all, get_or, Some, refl, sym, ap, ◌∙◌, subst, true≢false}
use Rattle.std.proofs.lemmas.Option.{same_Some, slice_get-get_or}
use Rattle.placed_shards.specs.Steps.Differing.{record_at, AgreeAsRead, AgreesWithAll}
use Rattle.placed_shards.proofs.HashRuns.{no_place}
use Rattle.placed_shards.proofs.Items.{has_at, taken_cases}
use Rattle.placed_shards.proofs.differing.find_against.Goals as goal

pub placed_at-requires : goal.placed_at-requires
placed_at-requires g c = λ k.
    let kept = c.args.kept.now in
    let i = c.loop-one.one-index in
    let one = get_or kept i no_place in
    ((refl, (refl, tt)), c.requires.kept one (has_at kept i one (slice_get-get_or kept i no_place c.loop-one-test.true)))

pub agree_apart-requires : goal.agree_apart-requires
agree_apart-requires g c = λ k.
    let kept = c.args.kept.now in
    let i = c.loop-one.one-index in
    let one = get_or kept i no_place in
    ((refl, tt), λ same. c.requires.apart one (has_at kept i one (slice_get-get_or kept i no_place c.loop-one-test.true)) (c.placed_at.ensures ∙ ap Some same))

pub returns-then-not-branch : goal.returns-then-not-branch
returns-then-not-branch g c =
    let kept = c.args.kept.now in
    let i = c.loop-one.one-index in
    let one = get_or kept i no_place in (
      one,
      c.placed_at.result.now,
      has_at kept i one (slice_get-get_or kept i no_place c.loop-one-test.true),
      c.placed_at.ensures,
      refl,
      λ agrees. true≢false (sym (c.in_ok-agree_apart.ensures.1 agrees) ∙ c.if-not-branch.true),
    )

pub loop-one-preserved : goal.loop-one-preserved
loop-one-preserved g c = λ k r has k_at.
    let kept = c.args.kept.now in
    let i = c.loop-one.one-index in
    let one = get_or kept i no_place in
    let lists = map g.P.Agreement.listed c.args.shards.now in
    let agree = AgreeAsRead g.P.PlacedRecord.kind g.P.Agreement.agree in
    elim (taken_cases kept i one k (slice_get-get_or kept i no_place c.loop-one-test.true) has) [
      | inl before ↦ c.loop-one.invariant k r before k_at
      | inr same ↦
          let placed_is : c.placed_at.result.now ≡ r = same_Some c.placed_at.result.now r (sym c.placed_at.ensures ∙ ap (record_at lists) same ∙ k_at) in
          subst (λ s. agree s c.args.other.now) placed_is (c.in_ok-agree_apart.ensures.0 c.if-not-branch.false)
    ]

pub returns : goal.returns
returns g c =
    let lists = map g.P.Agreement.listed c.args.shards.now in
    let agree = AgreeAsRead g.P.PlacedRecord.kind g.P.Agreement.agree in
    subst (λ l. AgreesWithAll agree lists l c.args.other.now) (take_all c.loop-one.one-index c.args.kept.now c.loop-one-test.false) c.loop-one.invariant
