use Rattle.std.proofs.Common.{List, All, take}
use Rattle.shard_concatenation.specs.Steps.SectionsSteps.{HoldSections, all_of}
use Rattle.xet_shards.specs.Write.WithOptions.{Ascends}
use Rattle.shard_concatenation.proofs.PartOrder.{AscendTo}
use Rattle.shard_concatenation.proofs.part_order.check_order.Given as goal

abbrev pub invariant-loop-section : goal.invariant-loop-section
invariant-loop-section g l = (records : List (List _)) → HoldSections g.R.SectionRecord.kind l.sections records → All (All g.R.SectionRecord.kind.IsStored) records → All (Ascends g.R.SectionRecord.kind) records
    → AscendTo g.R.SectionRecord.kind (all_of (take l.section-index records)) l.last
