use Rattle.std.proofs.Common.{◌≡◌, ℕ, List, length, take}
use Rattle.std.specs.Io.KnownBytes.{Appends}
use Rattle.mdb_assembly.specs.Assembly.{bytes_in}
use Rattle.mdb_assembly.proofs.assembly.copy_all.Given as goal

abbrev pub invariant-loop-extent : goal.invariant-loop-extent
invariant-loop-extent g l = (bytes : List ℕ) × (length bytes ≡ bytes_in (take l.extent-index l.extents))
    × Appends (g.W.Write.contents l.fn.output) (g.W.Write.contents l.output) bytes
