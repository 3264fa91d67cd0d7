-- Bisection, and the words and rows of a table.
use Rattle.std.proofs.Common.{◌≡◌, ℕ, zero, suc, ◌+◌, ◌-◌, ◌*◌, ◌/◌, ◌<◌, ◌≤◌, ◌^◌, Bool, true, false, List, ◌++◌, length, drop, refl, sym, ap, ◌∙◌, arith, lt-ltb, le-ltb, ltb-true, ltb-false}
use Rattle.std.specs.Prelude.{nat_lt, if◌then◌else◌}
use Rattle.std.proofs.lemmas.List.{drop-drop}
use Rattle.std.proofs.lemmas.Nat.{from_le_bytes-to_le_bytes_4, from_le_bytes-to_le_bytes_8}
use Rattle.std.specs.Int.{from_le_bytes, w32, w64}
use Rattle.xet_base.specs.Bytes.{u32_bytes, u64_bytes}
use Rattle.xet_base.proofs.Bytes.{length-u32_bytes, length-u64_bytes}
use Rattle.xet_base.proofs.Lists.{front_is, rest_is}
use Rattle.xet_records.specs.Decoding.{u32_at, u64_at}
use Rattle.placed_shards.specs.RangeRows.{bisected, bisection, word_in, row_in, row_from}

module _ (passes : ℕ → Bool) where
  nothing_left : (steps low : ℕ) → bisected passes steps low 0 ≡ low
  nothing_left zero low = refl
  nothing_left (suc steps) low = refl

  both_ways : (b : Bool) (x y x' y' : ℕ) → x ≡ x' → y ≡ y' → (if b then x else y) ≡ (if b then x' else y')
  both_ways true x y x' y' first second = first
  both_ways false x y x' y' first second = second

  -- it ends in the same place, however many steps are left over
  steps_over : (a b low size : ℕ) → size ≤ a → size ≤ b → bisected passes a low size ≡ bisected passes b low size
  steps_over zero b low zero first second = sym (nothing_left b low)
  steps_over zero b low (suc n) first second = absurd (omega (arith, first))
  steps_over (suc a) zero low zero first second = refl
  steps_over (suc a) zero low (suc n) first second = absurd (omega (arith, second))
  steps_over (suc a) (suc b) low zero first second = refl
  steps_over (suc a) (suc b) low (suc n) first second =
      both_ways (passes (low + n / 2)) _ _ _ _
      (steps_over a b (low + (n / 2 + 1)) (n - n / 2) (omega (arith, first)) (omega (arith, second)))
      (steps_over a b low (n / 2) (omega (arith, first)) (omega (arith, second)))

  -- bisection goes on with these numbers
  pub record IsBisecting (count low size : ℕ) : Type 0 where
    pub within : low + size ≤ count
    pub same : bisected passes size low size ≡ bisection passes count

  module _ (count low : ℕ) where
    behind_middle : (n : ℕ) → passes (low + n / 2) ≡ true → bisected passes (n - n / 2) (low + (n / 2 + 1)) (n - n / 2) ≡ bisected passes (suc n) low (suc n)
    behind_middle n test =
        steps_over (n - n / 2) n (low + (n / 2 + 1)) (n - n / 2) (omega arith) (omega arith)
        ∙ ap (λ b. if b then bisected passes n (low + (n / 2 + 1)) (n - n / 2) else bisected passes n low (n / 2)) (sym test)

    before_middle : (n : ℕ) → passes (low + n / 2) ≡ false → bisected passes (n / 2) low (n / 2) ≡ bisected passes (suc n) low (suc n)
    before_middle n test =
        steps_over (n / 2) n low (n / 2) (omega arith) (omega arith)
        ∙ ap (λ b. if b then bisected passes n (low + (n / 2 + 1)) (n - n / 2) else bisected passes n low (n / 2)) (sym test)

    module _ (size : ℕ) (bisecting : IsBisecting count low size) (n : ℕ) (size_is : size ≡ suc n) where
      pub goes_behind : (low' size' : ℕ) → passes (low + n / 2) ≡ true → low' ≡ low + (n / 2 + 1) → size' ≡ n - n / 2 → IsBisecting count low' size'
      goes_behind low' size' test low_is rest_is = record {
        within = omega (arith, bisecting.within, low_is, rest_is, size_is);
        same = (λ i. bisected passes (rest_is i) (low_is i) (rest_is i)) ∙ behind_middle n test ∙ (λ i. bisected passes (sym size_is i) low (sym size_is i)) ∙ bisecting.same;
      }

      pub goes_before : passes (low + n / 2) ≡ false → IsBisecting count low (n / 2)
      goes_before test = record {
        within = omega (arith, bisecting.within, size_is);
        same = before_middle n test ∙ (λ i. bisected passes (sym size_is i) low (sym size_is i)) ∙ bisecting.same;
      }

-- a test of order
pub is_below : (a b : ℕ) → a < b → nat_lt a b ≡ true
is_below a b less = lt-ltb a b less

pub is_not_below : (a b : ℕ) → b ≤ a → nat_lt a b ≡ false
is_not_below a b not_less = le-ltb a b not_less

-- where those that pass are the first of the numbers below one, bisection ends after them
module _ (passes : ℕ → Bool) (count place : ℕ) (first : (i : ℕ) → i < count → passes i ≡ nat_lt i place) where
  by_test : (i : ℕ) (x y : ℕ) → i < count → (i < place → x ≡ place) → (place ≤ i → y ≡ place) → (b : Bool) → nat_lt i place ≡ b → (if passes i then x else y) ≡ place
  by_test i x y within below above true is = ap (λ b. if b then x else y) (first i within ∙ is) ∙ below (ltb-true i place is)
  by_test i x y within below above false is = ap (λ b. if b then x else y) (first i within ∙ is) ∙ above (ltb-false i place is)

  ends_after : (steps low size : ℕ) → size ≤ steps → low ≤ place → place ≤ low + size → low + size ≤ count → bisected passes steps low size ≡ place
  ends_after zero low size few above below within = omega (arith, few, above, below)
  ends_after (suc n) low zero few above below within = omega (arith, above, below)
  ends_after (suc n) low (suc m) few above below within =
      by_test (low + m / 2) _ _ (omega (arith, within))
      (λ less. ends_after n (low + (m / 2 + 1)) (m - m / 2) (omega (arith, few)) (omega (arith, less)) (omega (arith, below)) (omega (arith, within)))
      (λ more. ends_after n low (m / 2) (omega (arith, few)) above more (omega (arith, within)))
      (nat_lt (low + m / 2) place) refl

  pub ends_after_first : place ≤ count → place ≡ bisection passes count
  ends_after_first within = sym (ends_after count 0 count (omega arith) (omega arith) (omega (arith, within)) (omega arith))

-- the row that is found
module _ (table : List ℕ) (word last place : ℕ) (found : place ≡ bisection (λ i. nat_lt (word_in table i) word) (length table / 12)) where
  pub found_there : (row : ℕ) → place < length table / 12 → row ≡ row_in table place → row ≡ row_from table word last
  found_there row within row_is =
      row_is ∙ ap (λ b. if b then row_in table place else last) (sym (is_below place (length table / 12) within))
      ∙ ap (λ p. if nat_lt p (length table / 12) then row_in table p else last) found

  pub found_at_end : length table / 12 ≤ place → last ≡ row_from table word last
  found_at_end past =
      ap (λ b. if b then row_in table place else last) (sym (is_not_below place (length table / 12) past))
      ∙ ap (λ p. if nat_lt p (length table / 12) then row_in table p else last) found

-- an entry of a table
module _ (table : List ℕ) (i word row : ℕ) (after rest : List ℕ) (word_is : drop (12 * i) table ≡ u64_bytes word ++ after) where
  pub entry_word : word < 2 ^ 64 → word ≡ word_in table i
  unfolding u64_at u64_bytes
  entry_word fits = sym (ap (from_le_bytes w64) (front_is 8 (drop (12 * i) table) (u64_bytes word) after (length-u64_bytes word) word_is) ∙ from_le_bytes-to_le_bytes_8 word fits)

  pub entry_row : row < 2 ^ 32 → after ≡ u32_bytes row ++ rest → row ≡ row_in table i
  unfolding u32_at u32_bytes
  entry_row fits row_is =
      let behind : drop (12 * i + 8) table ≡ after = sym (drop-drop 8 (12 * i) table) ∙ rest_is 8 (drop (12 * i) table) (u64_bytes word) after (length-u64_bytes word) word_is in
      sym (ap (from_le_bytes w32) (front_is 4 (drop (12 * i + 8) table) (u32_bytes row) rest (length-u32_bytes row) (behind ∙ row_is)) ∙ from_le_bytes-to_le_bytes_4 row fits)
