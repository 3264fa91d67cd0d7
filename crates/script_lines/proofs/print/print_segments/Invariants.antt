use Rattle.std.proofs.Common.{take, flat_map}
use Rattle.std.specs.Io.KnownBytes.{Appends}
use Rattle.script_lines.specs.Printed.{segment_line}
use Rattle.script_lines.proofs.print.print_segments.Given as goal

abbrev pub invariant-loop-segment : goal.invariant-loop-segment
invariant-loop-segment g l =
    Appends (g.W.Write.contents l.initial.output) (g.W.Write.contents l.output) (flat_map segment_line (take l.segment-index l.segments))
