use Rattle.std.proofs.Common.{IsTrue, false, [], ◌∷◌, get_or, rules, arith, sym, ap, ◌∙◌, subst}
use Rattle.xet_shards.specs.Steps.FileStore.{AreClear}
use Rattle.shard_bytes.proofs.Malformed.{clear_at_first, clear_at_last, row_is_clear, still_clear}
use Rattle.shard_bytes.proofs.check.malformed.are_clear.Goals as goal

pub loop-rest-init : goal.loop-rest-init
loop-rest-init c = λ stored fit are. clear_at_first stored c.args.rows.now fit are

pub loop-rest-preserved : goal.loop-rest-preserved
loop-rest-preserved c = λ stored fit are.
    let first = c.split_reserved-first.ensures.row in
    let up : IsTrue c.are_zero.result = search rules in
    let zero = c.are_zero.ensures.0 up in
    still_clear stored c.loop-rest.rest.now (c.loop-rest.invariant stored fit are) first.0 first.1 c.split_reserved-first.result.2.now first.3 (first.2 ∙ (λ i. zero.0 i ∷ zero.1 i ∷ []))

pub returns-then-not-are_zero : goal.returns-then-not-are_zero
returns-then-not-are_zero c = λ stored fit are.
    let none : ¬ IsTrue false = search rules in
    let first = c.split_reserved-first.ensures.row in
    let words = λ (clear : AreClear stored). sym first.2 ∙ row_is_clear stored c.loop-rest.rest.now (c.loop-rest.invariant stored fit are) first.0 first.1 c.split_reserved-first.result.2.now first.3 clear in (
      λ yes. absurd (none yes),
      λ clear. absurd (none (subst IsTrue c.if-not-are_zero.true (c.are_zero.ensures.1 (ap (λ ws. get_or ws 0 0) (words clear), ap (λ ws. get_or ws 1 0) (words clear))))),
    )

pub returns : goal.returns
returns c = λ stored fit are.
    (λ yes. clear_at_last stored c.loop-rest.rest.now (c.loop-rest.invariant stored fit are) (omega (arith, c.loop-rest-test.false)), λ clear. search rules)
