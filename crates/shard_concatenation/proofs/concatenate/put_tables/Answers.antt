use Rattle.std.proofs.Common.{ℕ, ◌+◌, ◌<◌, ◌≤◌, ◌^◌, Some, All, length, take, subst, arith, rules}
use Rattle.std.specs.Prelude.{sum_by}
use Rattle.std.proofs.lemmas.List.{take_all}
use Rattle.shard_concatenation.specs.declared.section_parts.SectionPart.{SectionPart}
use Rattle.shard_concatenation.proofs.PartFilling.{room_for, end_after}
use Rattle.shard_concatenation.proofs.SectionParts.{no_tables_written, later_fit, count_kept, one_table_written, all_tables_written}
use Rattle.shard_concatenation.proofs.concatenate.put_tables.Goals as goal

pub loop-section-init : goal.loop-section-init
loop-section-init g c = (omega arith, λ records hold few. no_tables_written g.R.SectionRecord.kind _)

pub put_later-end-requires : goal.put_later-end-requires
put_later-end-requires g c =
    room_for (λ (s : SectionPart). length s.table.now) c.args.sections.now c.loop-section.section-index c.args.at c.loop-section.end (length c.loop-section.out) _ c.loop-section-test.true
    c.loop-section.invariant.0 (omega (arith, c.requires, c.loop-section.auto.out))

pub loop-section-preserved : goal.loop-section-preserved
loop-section-preserved g c = (
  end_after (λ (s : SectionPart). length s.table.now) c.args.sections.now c.loop-section.section-index c.args.at c.loop-section.end c.put_later-end.result _ c.loop-section-test.true c.loop-section.invariant.0 c.put_later-end.ensures.end,
  λ records hold few.
      let K = g.R.SectionRecord.kind in
      let before = c.loop-section.invariant.1 records hold few in
      let fine = later_fit K c.args.sections.now records c.loop-section.section-index c.loop-section.first (Some (take c.args.at c.args.out.now)) (Some (take c.loop-section.end c.loop-section.out)) hold c.loop-section-test.true before few in
      one_table_written K c.args.sections.now records c.loop-section.section-index c.loop-section.first _ _ _ _ _ (λ rows. All (λ (row : ℕ × ℕ). row.1 + c.loop-section.first < 2 ^ 32) rows) hold c.loop-section-test.true before fine
      c.put_later-end.ensures.bytes (count_kept K c.args.sections.now records c.loop-section.section-index c.loop-section.first (Some (take c.args.at c.args.out.now)) (Some (take c.loop-section.end c.loop-section.out)) hold c.loop-section-test.true before few _),
)

pub returns-clause-end : goal.returns-clause-end
returns-clause-end g c =
    let past : length c.args.sections.now ≤ c.loop-section.section-index = search rules in
    subst (λ ss. c.loop-section.end ≤ c.args.at + sum_by (λ (s : SectionPart). length s.table.now) ss) (take_all c.loop-section.section-index c.args.sections.now past) c.loop-section.invariant.0

pub returns-clause-bytes : goal.returns-clause-bytes
returns-clause-bytes g c = λ records hold few.
    let past : length c.args.sections.now ≤ c.loop-section.section-index = search rules in
    all_tables_written g.R.SectionRecord.kind c.args.sections.now records c.loop-section.section-index c.loop-section.first _ _ hold past (c.loop-section.invariant.1 records hold few)
