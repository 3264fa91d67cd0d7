use Rattle.std.proofs.Common.{inr, refl, arith}
use Rattle.xet_c.specs.ListedRecords.{IsListedXorb}
use Rattle.xet_c.proofs.Listing.{more_listed, too_few, too_many, are_left}
use Rattle.xet_c.proofs.write.xorbs_of.Goals as goal

pub returns-then-rest-count : goal.returns-then-rest-count
returns-then-rest-count c =
    inr (refl, too_few (λ x. x.chunks) IsListedXorb c.args.listed.now c.args.chunks.now c.loop-xorb.xorb-index c.loop-xorb.rest.now c.loop-xorb.xorbs.items _ c.loop-xorb-test.true c.loop-xorb.invariant c.if-rest-count.true)

pub loop-xorb-preserved : goal.loop-xorb-preserved
loop-xorb-preserved c =
    more_listed (λ x. x.chunks) IsListedXorb c.args.listed.now c.args.chunks.now c.loop-xorb.xorb-index c.loop-xorb.rest.now c.first_items.result.now c.items_after-rest.result.now c.loop-xorb.xorbs.items _ _ c.in_ok-xorb_of.field-0 c.loop-xorb-test.true c.loop-xorb.invariant
    (omega (arith, c.if-rest-count.false)) c.first_items.ensures c.items_after-rest.ensures c.in_ok-xorb_of.ensures.ok c.in_ok-push.ensures.items

pub returns-then-not-is_empty : goal.returns-then-not-is_empty
returns-then-not-is_empty c =
    inr (
      refl,
      too_many (λ x. x.chunks) IsListedXorb c.args.listed.now c.args.chunks.now c.loop-xorb.xorb-index c.loop-xorb.rest.now c.loop-xorb.xorbs.items c.loop-xorb-test.false c.loop-xorb.auto.xorb-index-end c.loop-xorb.invariant
          (are_left c.loop-xorb.rest.now c.is_empty.result c.is_empty.ensures c.if-not-is_empty.true),
    )
