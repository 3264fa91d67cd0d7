use Rattle.std.proofs.Common.{length, ◌-◌}
use Rattle.mdb_garbage.proofs.FileSegments.{IsAdding}
use Rattle.mdb_garbage.proofs.segments.add_segments.Given as goal

abbrev pub invariant-loop-index : goal.invariant-loop-index
invariant-loop-index l = IsAdding l.range l.file l.index l.fn.items.items l.items.items

abbrev pub decreases-loop-index : goal.decreases-loop-index
decreases-loop-index l = length l.segments - l.index
