-- When shards expire.
use Rattle.std.specs.Prelude.{ℕ, ◌-◌, ◌^◌, ◌==◌, ◌||◌, Bool, false, nat_le, Option, Some, None, if◌then◌else◌}

-- the expiry that a footer's number of seconds says: 0 and the greatest number stand for none
abbrev pub expiry_in : ℕ → Option ℕ
expiry_in seconds = if (seconds == 0) || (seconds == 2 ^ 64 - 1) then None else Some seconds

-- whether an expiry has come by a time
abbrev pub has_come : Option ℕ → ℕ → Bool
has_come None now = false
has_come (Some expiry) now = nat_le expiry now
