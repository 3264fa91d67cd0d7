use Rattle.std.proofs.Common.{rules}
use Rattle.std.proofs.lemmas.List.{take_rest}
use Rattle.std.proofs.lemmas.List.Sorted.{IsPartitionPoint-from_clause}
use Rattle.std.specs.Ordering.{is_lt}
use Rattle.xet_shards.specs.StreamingShard.MinimalShard.{start_cmp}
use Rattle.xet_shards.proofs.StreamingShard.FileStarts.{before_first, from_place}
use Rattle.placed_shards.proofs.marks.starts_from.Goals as goal

pub returns : goal.returns
returns c =
    let starts = c.args.starts.now in
    let first = c.args.first in
    rw take_rest (from_place starts first c.partition_point-place.result c.requires
    (IsPartitionPoint-from_clause (λ s. is_lt (start_cmp s first)) _ _ c.partition_point-place.ensures.partitioned (before_first starts first c.requires) (λ a r q k. search rules)))
