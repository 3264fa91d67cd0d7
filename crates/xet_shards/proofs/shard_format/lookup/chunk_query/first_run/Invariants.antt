use Rattle.std.proofs.Common.{take}
use Rattle.xet_shards.specs.Steps.RunReadingSteps.{NoneTried}
use Rattle.xet_shards.proofs.shard_format.lookup.chunk_query.first_run.Given as goal

abbrev pub invariant-loop-location : goal.invariant-loop-location
invariant-loop-location g l =
    NoneTried l.info.metadata l.query_hashes (take l.location-index l.locations) (g.S.ShardSource.meaning l.initial.source) (g.S.ShardSource.meaning l.source)
