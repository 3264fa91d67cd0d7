-- The offsets of a table's rows, and how many of the first rows hold a key.
use Rattle.std.proofs.Common.{◌≡◌, ◌≢◌, inl, inr, ◌&&◌, ◌==◌, if◌then◌else◌, nat_le, ℕ, zero, suc, ◌+◌, ◌-◌, ◌*◌, ◌<◌, ◌≤◌, length, refl, ap, ◌∙◌, add-one, add-zero, arith}
use Rattle.std.proofs.lemmas.Bool.{le-leb, lt-leb, eq-eqb, ne_eqb, and_from, and_left, and_right, cond-true, cond-false, cases_lt}
use Rattle.std.proofs.Math.Nat.{add-mul, mul-le-mul_right, eq-or-lt_of_le}
use Rattle.xet_base.specs.Search.Table.{Table, offset_of_row, row_offset, key_at, HasKey, IsSorted, hits_below}

pub offset_of_row-zero : (start width : ℕ) → offset_of_row start width 0 ≡ start
unfolding offset_of_row
offset_of_row-zero start width = omega arith

-- n rows further
pub offset_of_row-add : (start width i n : ℕ) → offset_of_row start width (i + n) ≡ offset_of_row start width i + n * (8 + width)
unfolding offset_of_row
offset_of_row-add start width i n = omega (arith, add-mul i n (8 + width))

pub offset_of_row-next : (start width i : ℕ) → offset_of_row start width (i + 1) ≡ offset_of_row start width i + (8 + width)
offset_of_row-next start width i = omega (arith, offset_of_row-add start width i 1)

pub offset_of_row-le : (start width i j : ℕ) → i ≤ j → offset_of_row start width i ≤ offset_of_row start width j
unfolding offset_of_row
offset_of_row-le start width i j le = omega (arith, mul-le-mul_right (8 + width) le)

hits_below-suc : (t : Table) (key i : ℕ) → hits_below t key (suc i) ≡ hits_below t key i + (if nat_le (row_offset t i + 8) (length t.bytes) && (key_at t i == key) then 1 else 0)
unfolding hits_below
hits_below-suc t key i = refl

-- a row with the key counts
pub hits_below-hit : (t : Table) (key i : ℕ) → HasKey t i → key_at t i ≡ key → hits_below t key (i + 1) ≡ hits_below t key i + 1
hits_below-hit t key i there same =
    ap (hits_below t key) (add-one i) ∙ hits_below-suc t key i
    ∙ ap (λ n. hits_below t key i + n) (cond-true _ 1 0 (and_from _ _ (le-leb _ _ there) (eq-eqb _ _ same)))

-- a row with another key does not
pub hits_below-miss : (t : Table) (key i : ℕ) → key_at t i ≢ key → hits_below t key (i + 1) ≡ hits_below t key i
hits_below-miss t key i other =
    ap (hits_below t key) (add-one i) ∙ hits_below-suc t key i
    ∙ ap (λ n. hits_below t key i + n) (cond-false _ 1 0 (and_right _ _ (ne_eqb _ _ other))) ∙ omega arith

-- nor does one that is not there
hits_below-absent : (t : Table) (key i : ℕ) → length t.bytes < row_offset t i + 8 → hits_below t key (i + 1) ≡ hits_below t key i
hits_below-absent t key i absent =
    ap (hits_below t key) (add-one i) ∙ hits_below-suc t key i
    ∙ ap (λ n. hits_below t key i + n) (cond-false _ 1 0 (and_left _ _ (lt-leb _ _ absent))) ∙ omega arith

-- the next row either counts or does not
hits_below-more : (t : Table) (key i : ℕ) → hits_below t key i ≤ hits_below t key (i + 1)
hits_below-more t key i = omega (arith, ap (hits_below t key) (add-one i), hits_below-suc t key i)

hits_below-add : (t : Table) (key i n : ℕ) → hits_below t key i ≤ hits_below t key (i + n)
hits_below-add t key i zero = omega (arith, ap (hits_below t key) (add-zero i))
hits_below-add t key i (suc n) =
    omega (arith, hits_below-add t key i n, hits_below-more t key (i + n), ap (hits_below t key) (next_of i n))
  where
    next_of : (i n : ℕ) → i + suc n ≡ i + n + 1
    next_of i n = omega arith

pub hits_below-le : (t : Table) (key i j : ℕ) → i ≤ j → hits_below t key i ≤ hits_below t key j
hits_below-le t key i j le =
    let e : i + (j - i) ≡ j = omega (arith, le) in
    omega (arith, hits_below-add t key i (j - i), ap (hits_below t key) e)

-- rows without the key count none
pub hits_below-none : (t : Table) (key i n : ℕ) → ((j : ℕ) → i ≤ j → j < i + n → HasKey t j → key_at t j ≢ key) → hits_below t key (i + n) ≡ hits_below t key i
hits_below-none t key i zero none = ap (hits_below t key) (add-zero i)
hits_below-none t key i (suc n) none =
    let before : hits_below t key (i + n) ≡ hits_below t key i = hits_below-none t key i n (λ j from to there. none j from (omega (arith, to)) there) in
    let next : hits_below t key (i + n + 1) ≡ hits_below t key (i + n) = elim (cases_lt (length t.bytes) (row_offset t (i + n) + 8)) [
      | inl absent ↦ hits_below-absent t key (i + n) absent
      | inr there ↦ hits_below-miss t key (i + n) (none (i + n) (omega arith) (omega arith) there)
    ] in
    ap (hits_below t key) (omega arith) ∙ next ∙ before

-- on a sorted table a later key is no smaller
pub keys_ascend : (t : Table) (i j : ℕ) → IsSorted t → i ≤ j → j < t.rows → HasKey t j → key_at t i ≤ key_at t j
keys_ascend t i j sorted le within there = elim (eq-or-lt_of_le le) [
  | inl same ↦ omega (arith, ap (key_at t) same)
  | inr less ↦ sorted i j less within there
]

-- past a greater key of a sorted table no row counts
pub none_after : (t : Table) (key i j : ℕ) → IsSorted t → HasKey t i → key < key_at t i → i ≤ j → j ≤ t.rows → hits_below t key j ≡ hits_below t key i
none_after t key i j sorted there greater le within =
    ap (hits_below t key) (omega (arith, le))
    ∙ hits_below-none t key i (j - i) (λ n above below n_there same_key. absurd (omega (
      arith,
      greater,
      same_key,
      keys_ascend t i n sorted above (omega (arith, below, le, within)) n_there,
    )))
