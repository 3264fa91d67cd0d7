-- How large merges are.
use Rattle.std.specs.Prelude.{ℕ, ◌+◌, ◌*◌, ◌≤◌, List, length, sum_by}

-- a result has at most 344 bytes more than 8/3 of the inputs' bytes
abbrev pub IsResultSize : List (List ℕ) → ℕ → Type 0
IsResultSize inputs size = 3 * size ≤ 3 * 344 + 8 * sum_by length inputs
