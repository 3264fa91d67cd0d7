use Rattle.std.proofs.Common.{inl, inr, map, refl, sym, ◌∙◌, subst, true≢false}
use Rattle.std.specs.Prelude.{Contains, MatchOption}
use Rattle.placed_shards.specs.Steps.Differing.{AgreeAsRead, AgreesWithAll, IsAgainst}
use Rattle.placed_shards.proofs.differing.compare_place.Goals as goal

pub has_copy-requires : goal.has_copy-requires
has_copy-requires g c = λ k.
    ((refl, (refl, tt)), λ p has. c.requires.kept p (subst (λ l. Contains l p) c.as_slice.ensures.value has))

pub find_against-requires : goal.find_against-requires
find_against-requires g c = λ k. (
  (refl, (refl, tt)),
  (
    λ p has. c.requires.kept p (subst (λ l. Contains l p) c.as_slice-2.ensures.value has),
    λ p has p_at. true≢false (sym (c.has_copy.ensures.1 (p, subst (λ l. Contains l p) (c.as_slice-2.ensures.value ∙ sym c.as_slice.ensures.value) has, p_at)) ∙ c.if-has_copy.false),
  ),
)

pub returns-then-has_copy : goal.returns-then-has_copy
returns-then-has_copy g c =
    let found = c.has_copy.ensures.0 c.if-has_copy.true in
    inl (refl, (found.0, subst (λ l. Contains l found.0) c.as_slice.ensures.value found.1, found.2 ∙ sym c.placed_at-record.ensures))

pub returns-in-Some : goal.returns-in-Some
returns-in-Some g c =
    let lists = map g.P.Agreement.listed c.args.shards.now in
    let agree = AgreeAsRead g.P.PlacedRecord.kind g.P.Agreement.agree in
    let s = c.placed_at-record.result.now in
    let l = c.as_slice-2.result.now in
    let against = subst (λ o. MatchOption o (AgreesWithAll agree lists l s) (IsAgainst agree lists l s)) c.in-Some.is c.in_ok-first.ensures in
    (s, c.placed_at-record.ensures, subst (λ l. IsAgainst agree lists l s c.in-Some.first) c.as_slice-2.ensures.value against, refl, refl)

pub returns-in_ok-push-in-None : goal.returns-in_ok-push-in-None
returns-in_ok-push-in-None g c =
    let lists = map g.P.Agreement.listed c.args.shards.now in
    let agree = AgreeAsRead g.P.PlacedRecord.kind g.P.Agreement.agree in
    let s = c.placed_at-record.result.now in
    let l = c.as_slice-2.result.now in
    let all = subst (λ o. MatchOption o (AgreesWithAll agree lists l s) (IsAgainst agree lists l s)) c.in-None.is c.in_ok-first.ensures in
    inr (c.in_ok-push-in-None.ensures.items, (s, c.placed_at-record.ensures, subst (λ l. AgreesWithAll agree lists l s) c.as_slice-2.ensures.value all))
