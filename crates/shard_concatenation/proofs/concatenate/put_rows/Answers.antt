use Rattle.std.proofs.Common.{length, take, sym, append-nil, arith, rules}
use Rattle.shard_concatenation.specs.declared.section_parts.SectionPart.{SectionPart}
use Rattle.shard_concatenation.proofs.PartFilling.{room_for, rows_put, all_rows_put}
use Rattle.shard_concatenation.proofs.concatenate.put_rows.Goals as goal

pub loop-section-init : goal.loop-section-init
loop-section-init c = record { end_is = omega arith; puts = sym (append-nil (take c.args.at c.args.out.now)) }

pub put-end-requires : goal.put-end-requires
put-end-requires c =
    room_for (λ (s : SectionPart). length s.rows.now) c.args.sections.now c.loop-section.section-index c.args.at c.loop-section.end (length c.loop-section.out) _ c.loop-section-test.true
    (omega (arith, c.loop-section.invariant.end_is)) (omega (arith, c.requires, c.loop-section.auto.out))

pub loop-section-preserved : goal.loop-section-preserved
loop-section-preserved c =
    rows_put c.args.sections.now c.loop-section.section-index _ c.args.out.now c.loop-section.out c.put-end.new.row c.args.at c.loop-section.end c.put-end.result c.loop-section-test.true c.loop-section.invariant
    c.put-end.ensures.end c.put-end.ensures.front

pub returns-clause-end : goal.returns-clause-end
returns-clause-end c = (all_rows_put c.args.sections.now c.loop-section.section-index _ c.loop-section.out c.args.at _ (search rules) c.loop-section.invariant).0

pub returns-clause-bytes : goal.returns-clause-bytes
returns-clause-bytes c = (all_rows_put c.args.sections.now c.loop-section.section-index _ c.loop-section.out c.args.at _ (search rules) c.loop-section.invariant).1
