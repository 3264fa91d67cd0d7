-- A table that is even, and how many of its rows hold a key.
use Rattle.std.proofs.Common.{◌≡◌, ℕ, zero, suc, ◌+◌, ◌*◌, ◌<◌, [], ◌∷◌, ◌++◌, refl, arith}
use Rattle.xet_base.specs.Bytes.{u64_bytes, u64_from_bytes}
use Rattle.xet_base.specs.Search.Table.{Table, offset_of_row, key_at, HasKey, IsEven, even_step, hits, hits_below}

-- two rows with values of four bytes, whose keys are a third and two thirds of the greatest
abbrev thirds : Table
thirds = record {
  bytes = u64_bytes 6148914691236517205 ++ (7 ∷ 0 ∷ 0 ∷ 0 ∷ []) ++ u64_bytes 12297829382473034410 ++ (8 ∷ 0 ∷ 0 ∷ 0 ∷ []);
  start = 0;
  rows = 2;
  width = 4;
}

keys_of_thirds : (i : ℕ) → i < 2 → HasKey thirds i → key_at thirds i ≡ (i + 1) * even_step 2
unfolding key_at offset_of_row u64_bytes u64_from_bytes
keys_of_thirds zero within there = refl
keys_of_thirds (suc zero) within there = refl
keys_of_thirds (suc (suc i)) within there = absurd (omega (arith, within))

pub thirds_are_even : IsEven thirds
thirds_are_even = record { wide = omega arith; keys = keys_of_thirds }

pub one_third : hits thirds 6148914691236517205 ≡ 1
unfolding hits_below key_at offset_of_row u64_bytes u64_from_bytes
one_third = refl
