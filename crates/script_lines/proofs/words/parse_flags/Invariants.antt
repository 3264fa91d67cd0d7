use Rattle.std.proofs.Common.{◌≡◌, ◌<◌, ℕ, false, get_or, length}
use Rattle.script_lines.specs.Commands.{flag_byte}
use Rattle.script_lines.proofs.words.parse_flags.Given as goal

abbrev pub invariant-loop-i : goal.invariant-loop-i
invariant-loop-i g l = record {
  long : length l.flags ≡ g.row.N;
  at : (k : ℕ) → k < l.i → get_or l.word k 0 ≡ flag_byte (get_or l.letters k 0) (get_or l.flags k false);
}
