use Rattle.std.proofs.Common.{◌+◌, ◌<◌, ◌≤◌, ◌^◌, List, Some, length, take}
use Rattle.std.specs.Prelude.{sum_by}
use Rattle.shard_concatenation.specs.Steps.SectionsSteps.{HoldSections, all_of}
use Rattle.xet_shards.specs.Write.Section.{total_rows}
use Rattle.shard_concatenation.proofs.SectionParts.{HasWrittenTables}
use Rattle.shard_concatenation.proofs.concatenate.put_tables.Given as goal

abbrev pub invariant-loop-section : goal.invariant-loop-section
invariant-loop-section g l = (l.end ≤ l.at + sum_by (λ s. length s.table.now) (take l.section-index l.sections))
    × ((records : List (List _)) → HoldSections g.R.SectionRecord.kind l.sections records → total_rows g.R.SectionRecord.kind (all_of records) < 2 ^ 32
    → HasWrittenTables g.R.SectionRecord.kind l.first (take l.section-index records) (Some (take l.at l.fn.out)) (Some (take l.end l.out)))
