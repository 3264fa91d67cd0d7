use Rattle.std.proofs.Common.{take, flat_map}
use Rattle.std.specs.Io.KnownBytes.{Appends}
use Rattle.script_lines.specs.Printed.{verification_line}
use Rattle.script_lines.proofs.print.print_verification.Given as goal

abbrev pub invariant-loop-row : goal.invariant-loop-row
invariant-loop-row g l =
    Appends (g.W.Write.contents l.initial.output) (g.W.Write.contents l.output) (flat_map verification_line (take l.row-index l.rows))
