use Rattle.std.proofs.Common.{◌≡◌, ◌++◌, map, take, drop}
use Rattle.xet_shards.specs.StreamingShard.MinimalShard.{has_start, mark_starts}
use Rattle.placed_shards.proofs.marks.all_marked.Given as goal

abbrev pub invariant-loop-index : goal.invariant-loop-index
invariant-loop-index l = l.xorbs.items ≡ map (mark_starts (has_start l.starts.items)) (take l.index l.initial.xorbs.items) ++ drop l.index l.initial.xorbs.items
