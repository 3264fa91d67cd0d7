use Rattle.std.proofs.Common.{length, ◌-◌}
use Rattle.mdb_garbage.specs.Garbage.{IsOfSegment}
use Rattle.mdb_garbage.specs.Steps.{Adds}
use Rattle.mdb_garbage.proofs.Additions.{IsUpTo}
use Rattle.mdb_garbage.proofs.adding.add_segment_misfits.Given as goal

abbrev pub invariant-loop-index : goal.invariant-loop-index
invariant-loop-index l =
    Adds (IsUpTo (λ s. l.xorb.metadata.xorb_hash) (λ s. IsOfSegment s l.xorb) l.segments l.index) l.fn.found.items l.found.items

abbrev pub decreases-loop-index : goal.decreases-loop-index
decreases-loop-index l = length l.segments - l.index
