use Rattle.std.proofs.Common.{◌+◌, ◌≤◌, ◌++◌, ◌∙◌, length, flat_map, sym, ap, subst, append-nil, arith, rules}
use Rattle.std.specs.Prelude.{sum_by}
use Rattle.std.proofs.Math.Facts.{Fits-of_lt}
use Rattle.std.proofs.lemmas.List.{take_all}
use Rattle.shard_concatenation.specs.declared.section_parts.SectionPart.{SectionPart}
use Rattle.shard_concatenation.specs.Steps.SpansSteps.{HoldsSpan}
use Rattle.shard_concatenation.proofs.WithinSpan.{rows_within, room_below, end_more}
use Rattle.shard_concatenation.proofs.spans.put_rows_within.Goals as goal

pub loop-section-init : goal.loop-section-init
loop-section-init c = (omega arith, λ before at_is holds. subst (λ bs. HoldsSpan c.args.from bs c.args.out.now) (sym (append-nil before)) holds)

pub overflow_add-end : goal.overflow_add-end
overflow_add-end c =
    Fits-of_lt (room_below (λ (s : SectionPart). length s.rows.now) c.args.sections.now c.loop-section.section-index c.args.at c.loop-section.end _ c.loop-section-test.true c.loop-section.invariant.0 c.requires)

pub loop-section-preserved : goal.loop-section-preserved
loop-section-preserved c = (
  end_more (λ (s : SectionPart). length s.rows.now) c.args.sections.now c.loop-section.section-index c.args.at c.loop-section.end _ c.loop-section-test.true c.loop-section.invariant.0,
  λ before at_is holds.
      rows_within c.args.sections.now c.loop-section.section-index _ c.args.from c.args.at c.loop-section.end before c.loop-section.out c.put_within.new.out c.loop-section-test.true at_is c.loop-section.invariant.0 c.put_within.ensures
      (c.loop-section.invariant.1 before at_is holds),
)

pub returns-clause-end : goal.returns-clause-end
returns-clause-end c =
    let past : length c.args.sections.now ≤ c.loop-section.section-index = search rules in
    c.loop-section.invariant.0 ∙ ap (λ ss. c.args.at + sum_by (λ (s : SectionPart). length s.rows.now) ss) (take_all c.loop-section.section-index c.args.sections.now past)

pub returns-clause-bytes : goal.returns-clause-bytes
returns-clause-bytes c = λ before at_is holds.
    let past : length c.args.sections.now ≤ c.loop-section.section-index = search rules in
    subst (λ ss. HoldsSpan c.args.from (before ++ flat_map (λ (s : SectionPart). s.rows.now) ss) c.loop-section.out) (take_all c.loop-section.section-index c.args.sections.now past) (c.loop-section.invariant.1 before at_is holds)
