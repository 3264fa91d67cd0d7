use Rattle.std.proofs.Common.{arith}
use Rattle.xet_shards.proofs.StreamingShard.MinimalWriting.{few_as_kept}
use Rattle.xet_shards.proofs.streaming_shard.minimal_shard.MDBMinimalShard.size_of_kept.Goals as goal

pub sum_of_views-files-requires : goal.sum_of_views-files-requires
sum_of_views-files-requires c = few_as_kept c.args.kept c.files.result.now c.files.ensures.fit

pub overflow_add-records : goal.overflow_add-records
overflow_add-records c = omega (arith, few_as_kept c.args.kept c.files.result.now c.files.ensures.fit)

pub overflow_add-result : goal.overflow_add-result
overflow_add-result c = omega (arith, few_as_kept c.args.kept c.files.result.now c.files.ensures.fit)
