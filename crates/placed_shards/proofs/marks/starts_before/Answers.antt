use Rattle.std.proofs.Common.{rules}
use Rattle.std.proofs.lemmas.List.Sorted.{IsPartitionPoint-from_clause}
use Rattle.std.specs.Ordering.{is_lt}
use Rattle.xet_shards.specs.StreamingShard.MinimalShard.{start_cmp}
use Rattle.xet_shards.proofs.StreamingShard.FileStarts.{before_first}
use Rattle.placed_shards.proofs.Marking.{before_place}
use Rattle.placed_shards.proofs.marks.starts_before.Goals as goal

pub returns : goal.returns
returns c =
    let starts = c.args.starts.now in
    let end = c.args.end in
    before_place starts end c.partition_point-place.result
    (IsPartitionPoint-from_clause (λ s. is_lt (start_cmp s end)) _ _ c.partition_point-place.ensures.partitioned (before_first starts end c.requires) (λ a r q k. search rules))
