use Rattle.std.proofs.Common.{◌≡◌, ◌*◌, take, sum_by}
use Rattle.xet_shards.proofs.streaming_shard.minimal_shard.sum_of_views.Given as goal

abbrev pub invariant-loop-view : goal.invariant-loop-view
invariant-loop-view g l = l.bytes ≡ 48 * sum_by (g.V.WritableView.rows l.kept) (take l.view-index l.views)
