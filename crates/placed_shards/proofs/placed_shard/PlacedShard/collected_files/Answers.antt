use Rattle.placed_shards.proofs.Contents.{collected}
use Rattle.placed_shards.proofs.placed_shard.PlacedShard.collected_files.Goals as goal

pub returns : goal.returns
returns c = collected c.args.self.now c.as_slice.result.now c.as_slice.ensures.value c.collect_files.result c.collect_files.ensures
