use Rattle.std.proofs.Common.{length}
use Rattle.placed_shards.proofs.merge.+merge_halves.Given as goal

abbrev pub decreases-merge_halves : goal.decreases-merge_halves
decreases-merge_halves l = length l.inputs.now
