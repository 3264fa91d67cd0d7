use Rattle.std.proofs.Common.{List, take}
use Rattle.shard_concatenation.specs.Steps.SectionsSteps.{HoldSections}
use Rattle.shard_concatenation.proofs.SectionParts.{HasWrittenTables}
use Rattle.shard_concatenation.proofs.section_parts.write_tables.Given as goal

abbrev pub invariant-loop-section : goal.invariant-loop-section
invariant-loop-section g l = (records : List (List _)) → HoldSections g.R.SectionRecord.kind l.sections records
    → HasWrittenTables g.R.SectionRecord.kind l.first (take l.section-index records) (g.W.Write.contents l.initial.writer) (g.W.Write.contents l.writer)
