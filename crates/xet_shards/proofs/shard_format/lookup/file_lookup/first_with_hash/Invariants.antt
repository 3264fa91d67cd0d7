use Rattle.std.proofs.Common.{take}
use Rattle.xet_shards.specs.Read.SectionReading.{files_of}
use Rattle.xet_shards.specs.Steps.LookupSteps.{NoneHasHash}
use Rattle.xet_shards.proofs.shard_format.lookup.file_lookup.first_with_hash.Given as goal

abbrev pub invariant-loop-row : goal.invariant-loop-row
invariant-loop-row g l =
    NoneHasHash (files_of l.info) l.info.metadata.file_info_offset l.hash (take l.row-index l.rows) (g.S.ShardSource.meaning l.initial.source) (g.S.ShardSource.meaning l.source)
