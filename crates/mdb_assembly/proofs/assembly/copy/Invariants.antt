use Rattle.std.proofs.Common.{◌≡◌, ◌+◌, ℕ, List, length}
use Rattle.std.specs.Io.KnownBytes.{Appends}
use Rattle.mdb_assembly.proofs.assembly.copy.Given as goal

abbrev pub invariant-loop-left : goal.invariant-loop-left
invariant-loop-left g l = (bytes : List ℕ) × (length bytes + l.left ≡ l.fn.extent.size)
    × Appends (g.W.Write.contents l.fn.output) (g.W.Write.contents l.output) bytes

abbrev pub decreases-loop-left : goal.decreases-loop-left
decreases-loop-left g l = l.left
