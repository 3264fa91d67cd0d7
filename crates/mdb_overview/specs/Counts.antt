-- How often numbers occur.
use Rattle.std.specs.Prelude.{◌≡◌, ℕ, ◌+◌, ◌-◌, ◌^◌, ◌==◌, min, unwrap_or, if◌then◌else◌}
use Rattle.std.specs.BTreeMap.{BTreeMap, get}
use Rattle.std.specs.Ordering.{nat_cmp}

-- a count, as far as it goes
abbrev pub up_to_u64 : ℕ → ℕ
up_to_u64 n = min n (2 ^ 64 - 1)

-- a count after so many more
abbrev pub saturating_count : ℕ → ℕ → ℕ
saturating_count count more = if more == 0 then count else up_to_u64 (count + more)

-- how often a number was counted
abbrev pub count_in : BTreeMap ℕ ℕ → ℕ → ℕ
count_in counts number = unwrap_or (get nat_cmp counts number) 0

-- a number was counted once more, and no other one
abbrev pub CountsOneMore : ℕ → BTreeMap ℕ ℕ → BTreeMap ℕ ℕ → Type 0
CountsOneMore number old new = (q : ℕ)
    → count_in new q
    ≡ saturating_count (count_in old q) (if number == q then 1 else 0)
