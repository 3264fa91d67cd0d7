use Rattle.std.proofs.Common.{length, ◌-◌}
use Rattle.mdb_garbage.specs.Steps.{Adds, IsUnnamed}
use Rattle.mdb_garbage.proofs.Additions.{IsUpTo}
use Rattle.mdb_garbage.proofs.adding.add_unnamed.Given as goal

abbrev pub invariant-loop-index : goal.invariant-loop-index
invariant-loop-index l = Adds (IsUpTo (λ h. h) (IsUnnamed l.segments.items.items) l.items l.index) l.fn.found.items l.found.items

abbrev pub decreases-loop-index : goal.decreases-loop-index
decreases-loop-index l = length l.items - l.index
