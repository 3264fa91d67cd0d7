-- The seeks of a search on an even table: the first guess is at most one row off.
use Rattle.std.proofs.Common.{◌≡◌, inl, inr, ℕ, ◌+◌, ◌-◌, ◌*◌, ◌^◌, ◌<◌, ◌≤◌, min, max, sym, ap, ◌∙◌, arith, add-mul, mul_assoc, mul_comm, mul-le-mul_left, mul-le-mul_right, mul-lt-mul_of_pos_right, le_of_mul-le-mul_right, lt_of_mul-lt-mul_right, div-mul-le_self}
use Rattle.std.proofs.lemmas.Bool.{cases_lt}
use Rattle.std.proofs.Math.Nat.{lt-div-mul-add}
use Rattle.xet_base.specs.declared.interpolation_search.window.Window.{Window}
use Rattle.xet_base.specs.Search.Table.{Table, even_step, IsEven}
use Rattle.xet_base.specs.Steps.Probes.{guess_of, AroundKey, IsWhole, NarrowsBelow, NarrowsAbove, NarrowsEqual, Narrows, OnEven, KeepsEven}
use Rattle.xet_base.proofs.Search.Probing.{guess_quotient}

-- the quotient q of the first guess, in a table of `all` - 1 keys that are s apart: q * s is not past the key
first_not_past : (s all most key q : ℕ) → s * all ≤ most → q * most ≤ key * all → 0 < all → q * s ≤ key
first_not_past s all most key q fits not_past some =
    le_of_mul-le-mul_right (omega (arith, mul_assoc q s all, mul-le-mul_left q fits, not_past)) some

-- and the key is less than two rows past it
first_near : (s all most key q : ℕ) → most < (s + 1) * all → key * all < (q + 1) * most → q + 1 ≤ s → key < (q + 2) * s
first_near s all most key q fills near small =
    let less : most ≤ (s + 1) * all = omega (arith, fills) in
    let below : key < (q + 1) * (s + 1) = lt_of_mul-lt-mul_right all (omega (arith, near, mul-le-mul_left (q + 1) less, mul_assoc (q + 1) (s + 1) all)) in
    omega (arith, below, small, expand q s)
  where
    expand : (q s : ℕ) → ((q + 1) * (s + 1) ≡ q * s + q + s + 1) × ((q + 2) * s ≡ q * s + 2 * s)
    expand q s = (grind arith, grind arith)

-- the next quotient q, above a row that is less than two rows below the key
next_near : (s w k d q : ℕ) → 0 < w → k < 2 * s → s * w ≤ d → q * d ≤ k * w → q ≤ 1
next_near s w k d q some near fits quotient = elim (cases_lt 1 q) [
  | inl more ↦ absurd (omega (arith, some, fits, quotient, mul-le-mul_right d more, mul-le-mul_right w near, expand k s w))
  | inr few ↦ few
]
  where
    expand : (k s w : ℕ) → ((k + 1) * w ≡ k * w + w) × (2 * s * w ≡ 2 * (s * w))
    expand k s w = (grind arith, grind arith)

-- what the step of an even table is
step_fits : (rows : ℕ) → even_step rows * (rows + 1) ≤ 2 ^ 64 - 1
step_fits rows = div-mul-le_self (2 ^ 64 - 1) (rows + 1)

step_fills : (rows : ℕ) → 2 ^ 64 - 1 < (even_step rows + 1) * (rows + 1)
step_fills rows = omega (arith, lt-div-mul-add {a = 2 ^ 64 - 1} {b = rows + 1} (omega arith), add-mul (even_step rows) 1 (rows + 1))

module _ (t : Table) (key : ℕ) (w : Window) (found : ℕ) (even : IsEven t) (around : AroundKey w key) (running : w.low + 256 < w.high)
    (above : w.low < w.probe) (below : w.probe < w.high) (found_is : found ≡ w.probe * even_step t.rows) where
  -- the quotient of the first guess
  abbrev First : ℕ → Type 0
  First q = (q * even_step t.rows ≤ key) × (q + 1 ≤ even_step t.rows → key < (q + 2) * even_step t.rows) × (w.probe ≡ min (max q 1) t.rows)

  first : IsWhole t.rows key w → (q : ℕ) × First q
  first whole =
      let g = guess_quotient 0 0 (t.rows + 1) (2 ^ 64 - 1) key key (t.rows + 1) (2 ^ 64 - 1) (omega arith) (omega arith) (omega arith) (omega arith) in (
        g.0,
        (
          first_not_past (even_step t.rows) (t.rows + 1) (2 ^ 64 - 1) key g.0 (step_fits t.rows) g.1 (omega arith),
          first_near (even_step t.rows) (t.rows + 1) (2 ^ 64 - 1) key g.0 (step_fills t.rows) g.2,
          omega (arith, whole.probe, g.3),
        ),
      )

  first_below : IsWhole t.rows key w → key < found → w.probe ≤ 1
  first_below whole past = elim (cases_lt 1 w.probe) [
    | inl more ↦ let f = first whole in
        let rows : w.probe ≤ f.0 = omega (arith, more, f.1.2) in
        absurd (omega (arith, past, found_is, f.1.0, mul-le-mul_right (even_step t.rows) rows))
    | inr few ↦ few
  ]

  -- above the first guess the key is less than two rows off, and the next guess is the next row
  first_above : IsWhole t.rows key w → found < key → w.probe + 1 < w.high
      → (key < (w.probe + 2) * even_step t.rows) × (guess_of w.probe found w.high w.high_key key ≤ w.probe + 1)
  first_above whole past wide =
      let s = even_step t.rows in
      let f = first whole in
      let rows : f.0 ≤ w.probe = omega (arith, f.1.2, wide, whole.high) in
      let near : key < (w.probe + 2) * s = omega (arith, f.1.1 (omega (arith, rows, wide, whole.high, even.wide)), mul-le-mul_right s rows, expand f.0 s, expand w.probe s) in
      let g = guess_quotient w.probe found w.high w.high_key key (key - found) (w.high - w.probe) (w.high_key - found)
      (omega (arith, past)) (omega (arith, below)) (omega (arith, past, around.above)) (omega (arith, past, around.above)) in
      let all_is : w.probe + (w.high - w.probe) ≡ t.rows + 1 = omega (arith, below, whole.high) in
      let fits : s * (w.high - w.probe) ≤ w.high_key - found = omega (
        arith,
        step_fits t.rows,
        ap (λ n. s * n) all_is,
        product_of_sum s w.probe (w.high - w.probe),
        mul_comm s (t.rows + 1),
        found_is,
        whole.high_key,
      ) in (
        near,
        omega (
          arith,
          g.3,
          next_near s (w.high - w.probe) (key - found) (w.high_key - found) g.0 (omega (arith, below))
              (omega (arith, near, found_is, expand w.probe s)) fits g.1,
        ),
      )
    where
      expand : (n s : ℕ) → (n + 2) * s ≡ n * s + 2 * s
      expand n s = grind arith

      product_of_sum : (s a b : ℕ) → s * (a + b) ≡ a * s + s * b
      product_of_sum s a b = grind arith

  -- a row that is a step past one that is two rows off at most has a greater key
  step_past : w.probe ≡ w.low + 256 → key < (w.low + 2) * even_step t.rows → key < found
  step_past stepped near =
      let rows : w.low + 2 ≤ w.probe = omega (arith, stepped) in
      omega (arith, near, found_is, mul-le-mul_right (even_step t.rows) rows)

  -- rows before one with the key have smaller keys
  step_short : key ≡ w.high * even_step t.rows → found < key
  step_short key_is = omega (arith, key_is, found_is, mul-lt-mul_of_pos_right {k = even_step t.rows} below (omega (arith, even.wide)))

  even_below : (made : ℕ) (new : Window) → OnEven t key w made → key < found → NarrowsBelow w key found new → OnEven t key new (made + 1)
  even_below made new (inl (none, whole)) past narrows =
      inr (inr (inr (omega (arith, none), omega (arith, narrows.high, narrows.low, whole.low, first_below whole past))))
  even_below made new (inr (inl (one, key_is, stepped))) past narrows = absurd (omega (arith, past, step_short key_is))
  even_below made new (inr (inr (inl (one, stepped, near)))) past narrows =
      inr (inr (inr (omega (arith, one), omega (arith, narrows.high, narrows.low, stepped))))
  even_below made new (inr (inr (inr (few, small)))) past narrows = absurd (omega (arith, small, running))

  even_above : (made : ℕ) (new : Window) → OnEven t key w made → found < key → NarrowsAbove w key found new → OnEven t key new (made + 1)
  even_above made new (inl (none, whole)) past narrows = elim (cases_lt (w.probe + 256) w.high) [
    | inl wide ↦ let f = first_above whole past (omega (arith, wide)) in
        inr (inr (inl (
          omega (arith, none),
          omega (arith, narrows.low, wide, narrows.probe.step (omega (arith, f.1))),
          rw narrows.low f.0,
        )))
    | inr small ↦ inr (inr (inr (omega (arith, none), omega (arith, narrows.high, narrows.low, small))))
  ]
  even_above made new (inr (inl (one, key_is, stepped))) past narrows =
      inr (inr (inr (omega (arith, one), omega (arith, narrows.high, narrows.low, stepped))))
  even_above made new (inr (inr (inl (one, stepped, near)))) past narrows = absurd (omega (arith, past, step_past stepped near))
  even_above made new (inr (inr (inr (few, small)))) past narrows = absurd (omega (arith, small, running))

  even_equal : (made : ℕ) (new : Window) → OnEven t key w made → found ≡ key → NarrowsEqual w new → OnEven t key new (made + 1)
  even_equal made new (inl (none, whole)) same narrows = elim (cases_lt (w.low + 256) w.probe) [
    | inl wide ↦ inr (inl (
      omega (arith, none),
      rw narrows.high (sym same ∙ found_is),
      omega (arith, narrows.high, narrows.probe, wide),
    ))
    | inr small ↦ inr (inr (inr (omega (arith, none), omega (arith, narrows.high, narrows.low, small))))
  ]
  even_equal made new (inr (inl (one, key_is, stepped))) same narrows = absurd (omega (arith, same, step_short key_is))
  even_equal made new (inr (inr (inl (one, stepped, near)))) same narrows = absurd (omega (arith, same, step_past stepped near))
  even_equal made new (inr (inr (inr (few, small)))) same narrows = absurd (omega (arith, small, running))

-- a turn of the window, whichever of the keys is greater
pub keeps_even : (w : Window) (key found : ℕ) (new : Window) → AroundKey w key → w.low < w.probe → w.probe < w.high → Narrows w key found new → KeepsEven w key found new
keeps_even w key found new around above below narrows = λ t made even running found_is before. elim (cases_lt key found) [
  | inl past ↦ even_below t key w found even around running above below found_is made new before past (narrows.below past)
  | inr not_past ↦ elim (cases_lt found key) [
    | inl past ↦ even_above t key w found even around running above below found_is made new before past (narrows.above past)
    | inr not_short ↦ let same : found ≡ key = omega (arith, not_past, not_short) in
        even_equal t key w found even around running above below found_is made new before same (narrows.equal same)
  ]
]
