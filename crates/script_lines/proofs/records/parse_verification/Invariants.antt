use Rattle.std.proofs.Common.{map}
use Rattle.script_lines.proofs.SpelledHashes.{RowsOf}
use Rattle.script_lines.proofs.records.parse_verification.Given as goal

abbrev pub invariant-loop-hash : goal.invariant-loop-hash
invariant-loop-hash l = RowsOf (map (λ word. word.now) l.yielded) l.rows.items
