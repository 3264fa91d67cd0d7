-- Numbers of the format.
use Rattle.std.specs.Prelude.{ℕ}

-- the most rows that a section may have
abbrev pub MAX_ROWS : ℕ
MAX_ROWS = 4294967295
