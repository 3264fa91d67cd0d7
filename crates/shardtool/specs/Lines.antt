-- The lines of a script.
use Rattle.std.specs.Prelude.{ℕ, List}
use Rattle.std.specs.Io.BufRead.{take_through}
use Rattle.script_lines.specs.Words.{without_last}

-- the first line of an input, without one LF at its end, and then without one CR
abbrev pub first_line : List ℕ → List ℕ
first_line input = without_last 13 (without_last 10 (take_through 10 input))
