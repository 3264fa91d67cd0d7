use Rattle.std.proofs.Common.{◌≡◌, length}
use Rattle.script_lines.proofs.records.parse_segments.Given as goal

abbrev pub invariant-loop-word : goal.invariant-loop-word
invariant-loop-word l = length l.segments.items ≡ l.word-index
