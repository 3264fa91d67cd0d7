use Rattle.xet_records.specs.RecordKind.{in_version}
use Rattle.xet_shards.specs.Read.SectionWalk.{HasKept}
use Rattle.xet_shards.proofs.shard_format.read.section_walk.walk_section.Given as goal

abbrev pub invariant-loop-found : goal.invariant-loop-found
invariant-loop-found g l =
    HasKept (in_version g.R.SectionRecord.kind l.version) g.T.WalkItem.keep (g.S.ShardSource.meaning l.fn.source) (g.S.ShardSource.meaning l.source) l.found.items l.rows_left

abbrev pub decreases-loop-found : goal.decreases-loop-found
decreases-loop-found g l = l.rows_left
