use Rattle.std.proofs.Common.{inl, inr, map, take_all, get_or, IsTrue, false, Some, rules, refl, sym, ap, ◌∙◌, subst, true≢false}
use Rattle.std.specs.Prelude.{Contains}
use Rattle.std.proofs.lemmas.Option.{same_Some, slice_get-get_or}
use Rattle.placed_shards.specs.Steps.Differing.{record_at}
use Rattle.placed_shards.proofs.HashRuns.{no_place}
use Rattle.placed_shards.proofs.Items.{has_at, taken_cases}
use Rattle.placed_shards.proofs.differing.has_copy.Goals as goal

pub placed_at-requires : goal.placed_at-requires
placed_at-requires g c = λ k.
    let kept = c.args.kept.now in
    let i = c.loop-one.one-index in
    let one = get_or kept i no_place in
    ((refl, (refl, tt)), c.requires one (has_at kept i one (slice_get-get_or kept i no_place c.loop-one-test.true)))

pub returns-then-are_copies : goal.returns-then-are_copies
returns-then-are_copies g c =
    let kept = c.args.kept.now in
    let i = c.loop-one.one-index in
    let one = get_or kept i no_place in (
      λ yes. (one, has_at kept i one (slice_get-get_or kept i no_place c.loop-one-test.true), c.placed_at.ensures ∙ ap Some (c.are_copies.ensures.0 c.if-are_copies.true)),
      λ found. refl,
    )

pub loop-one-preserved : goal.loop-one-preserved
loop-one-preserved g c = λ k has k_at.
    let kept = c.args.kept.now in
    let i = c.loop-one.one-index in
    let one = get_or kept i no_place in
    let lists = map g.P.Agreement.listed c.args.shards.now in
    elim (taken_cases kept i one k (slice_get-get_or kept i no_place c.loop-one-test.true) has) [
      | inl before ↦ c.loop-one.invariant k before k_at
      | inr same ↦ true≢false (sym (c.are_copies.ensures.1 (same_Some c.placed_at.result.now c.args.other.now (sym c.placed_at.ensures ∙ ap (record_at lists) same ∙ k_at))) ∙ c.if-are_copies.false)
    ]

pub returns : goal.returns
returns g c =
    let none : ¬ IsTrue false = search rules in (
      λ yes. absurd (none yes),
      λ found. absurd (c.loop-one.invariant found.0 (subst (λ l. Contains l found.0) (sym (take_all c.loop-one.one-index c.args.kept.now c.loop-one-test.false)) found.1) found.2),
    )
