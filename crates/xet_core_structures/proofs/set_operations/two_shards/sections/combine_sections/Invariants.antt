use Rattle.std.proofs.Common.{◌+◌}
use Rattle.xet_core_structures.proofs.TwoShards.OneSection.{weight}
use Rattle.xet_core_structures.proofs.TwoShards.MergeJoin.{IsMerging}
use Rattle.xet_core_structures.proofs.set_operations.two_shards.sections.combine_sections.Given as goal

abbrev pub invariant-loop-alloc : goal.invariant-loop-alloc
invariant-loop-alloc g l =
    IsMerging g.Sec.Record.SectionRecord.kind l.version_1 l.version_2 g.Op.RecordOperation.makes (g.S.ShardSource.meaning l.fn.r1) (g.S.ShardSource.meaning l.r1) (g.T.ShardSource.meaning l.fn.r2) (g.T.ShardSource.meaning l.r2)
    l.left_1 l.left_2 l.first l.second (g.Sec.WrittenSection.has_written l.written) (g.W.Write.contents l.fn.out) (g.W.Write.contents l.out)

abbrev pub decreases-loop-alloc : goal.decreases-loop-alloc
decreases-loop-alloc g l = weight l.left_1 l.first + weight l.left_2 l.second
