use Rattle.std.proofs.Common.{ap, ◌∙◌}
use Rattle.mdb_base.specs.declared.shard_file.ShardFile.{ShardFile}
use Rattle.mdb_base.specs.Expiries.{shard_expiry, earlier_of}
use Rattle.mdb_base.proofs.Earliest.{earliest_with}
use Rattle.mdb_merging.proofs.rounds.merged_parts.earliest_of.Goals as goal

-- one more shard
pub loop-shard-preserved : goal.loop-shard-preserved
loop-shard-preserved c =
    earliest_with (λ (s : ShardFile). shard_expiry s.info) c.args.shards.now c.loop-shard.shard-index _
    c.loop-shard.found c.earlier_of-found.result c.loop-shard-test.true c.loop-shard.invariant
    (c.earlier_of-found.ensures ∙ ap (earlier_of c.loop-shard.found) c.shard_expiry.ensures)
