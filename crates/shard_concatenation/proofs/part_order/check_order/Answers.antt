use Rattle.std.proofs.Common.{refl, rules}
use Rattle.shard_concatenation.proofs.PartOrder.{none_ascend, not_found, next_empty, next_ascend, not_ascending, all_ascend}
use Rattle.shard_concatenation.proofs.part_order.check_order.Goals as goal

pub loop-section-init : goal.loop-section-init
loop-section-init g c = λ records hold stored each. none_ascend g.R.SectionRecord.kind

pub loop-section-preserved-then-is_empty : goal.loop-section-preserved-then-is_empty
loop-section-preserved-then-is_empty g c = λ records hold stored each.
    next_empty g.R.SectionRecord.kind c.laws.ensures c.args.sections.now records hold stored each c.loop-section.section-index _ c.loop-section-test.true c.loop-section.last (c.loop-section.invariant records hold stored each)
    c.if-is_empty.ensures

pub returns-in_default-clause-order : goal.returns-in_default-clause-order
returns-in_default-clause-order g c = λ records hold stored each.
    absurd (not_found g.R.SectionRecord.kind c.laws.ensures c.args.sections.now records hold stored each c.loop-section.section-index _ c.loop-section-test.true c.in_default.ensures c.if-is_empty.ensures)

pub returns-then-not-is_after-clause-order : goal.returns-then-not-is_after-clause-order
returns-then-not-is_after-clause-order g c = λ records hold stored each. (
  refl,
  not_ascending g.R.SectionRecord.kind c.laws.ensures c.args.sections.now records hold stored each c.loop-section.section-index _ c.loop-section-test.true c.loop-section.last c.in-Some.ends
      (c.loop-section.invariant records hold stored each) c.in-Some.ensures c.if-is_empty.ensures (search rules),
)

pub loop-section-preserved : goal.loop-section-preserved
loop-section-preserved g c = λ records hold stored each.
    next_ascend g.R.SectionRecord.kind c.laws.ensures c.args.sections.now records hold stored each c.loop-section.section-index _ c.loop-section-test.true c.loop-section.last c.in-Some.ends
    (c.loop-section.invariant records hold stored each) c.in-Some.ensures c.if-is_empty.ensures (search rules)

pub returns-clause-order : goal.returns-clause-order
returns-clause-order g c = λ records hold stored each.
    all_ascend g.R.SectionRecord.kind c.laws.ensures c.args.sections.now records hold stored each c.loop-section.section-index c.loop-section.last (search rules) (c.loop-section.invariant records hold stored each)
