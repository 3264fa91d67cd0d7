-- Where a probe is: between the ends of its window, and how the quotient of a guess bounds it.
use Rattle.std.proofs.Common.{◌≡◌, inl, inr, ℕ, ◌+◌, ◌-◌, ◌*◌, ◌/◌, ◌<◌, ◌≤◌, min, max, arith, div-mul-le_self}
use Rattle.std.proofs.lemmas.Bool.{cases_lt}
use Rattle.std.proofs.Math.Nat.{lt-div-mul-add, add-mul}
use Rattle.xet_base.specs.declared.interpolation_search.window.Window.{Window}
use Rattle.xet_base.specs.Steps.Probes.{guess_of, AfterBelow, AfterAbove, NarrowsBelow, NarrowsAbove, NarrowsEqual}

-- the quotient that a guess takes, in a window of `all` rows with keys d apart, for a key k past the lower
pub guess_quotient : (low low_key high high_key key k all d : ℕ) → low_key + k ≡ key → low + all ≡ high → low_key + d ≡ high_key → 0 < d
    → (q : ℕ) × (q * d ≤ k * all) × (k * all < (q + 1) * d) × (guess_of low low_key high high_key key ≡ min (max (low + q) (low + 1)) (high - 1))
unfolding guess_of
guess_quotient low low_key high high_key key k all d key_is high_is high_key_is apart =
    let keys : key - low_key ≡ k = omega (arith, key_is) in
    let rows : high - low ≡ all = omega (arith, high_is) in
    let distance : high_key - low_key ≡ d = omega (arith, high_key_is) in (
      k * all / d,
      div-mul-le_self (k * all) d,
      omega (arith, lt-div-mul-add {a = k * all} apart, add-mul (k * all / d) 1 d),
      λ i. min (max (low + keys i * rows i / distance i) (low + 1)) (high - 1),
    )

pub guess_within : (low low_key high high_key key : ℕ) → low + 1 < high
    → (low < guess_of low low_key high high_key key) × (guess_of low low_key high high_key key < high)
unfolding guess_of
guess_within low low_key high high_key key wide = (omega (arith, wide), omega (arith, wide))

pub guess_most : (low low_key high high_key key : ℕ) → guess_of low low_key high high_key key ≤ high - 1
unfolding guess_of
guess_most low low_key high high_key key = omega arith

pub below_within : (low low_key probe found key next : ℕ) → AfterBelow low probe (guess_of low low_key probe found key) next
    → low + 1 < probe → (low < next) × (next < probe)
below_within low low_key probe found key next after wide = elim (cases_lt probe (guess_of low low_key probe found key + 256)) [
  | inl near ↦ (omega (arith, wide, after.step near), omega (arith, wide, after.step near))
  | inr far ↦ let within = guess_within low low_key probe found key wide in
      (omega (arith, within.0, after.far far), omega (arith, within.1, after.far far))
]

pub above_within : (probe found high high_key key next : ℕ) → AfterAbove high probe (guess_of probe found high high_key key) next
    → probe + 1 < high → (probe < next) × (next < high)
above_within probe found high high_key key next after wide = elim (cases_lt (probe + 256) (guess_of probe found high high_key key)) [
  | inl far ↦ let within = guess_within probe found high high_key key wide in
      (omega (arith, within.0, after.far far), omega (arith, within.1, after.far far))
  | inr near ↦ (omega (arith, wide, after.step near), omega (arith, wide, after.step near))
]

abbrev pub window : ℕ → ℕ → ℕ → ℕ → ℕ → Window
window low low_key high high_key probe = record { low = low; low_key = low_key; high = high; high_key = high_key; probe = probe }

pub is_below : (w : Window) (key found : ℕ) (new : Window) → NarrowsBelow w key found new → new ≡ window w.low w.low_key w.probe found new.probe
is_below w key found new narrows = λ i. window (narrows.low i) (narrows.low_key i) (narrows.high i) (narrows.high_key i) new.probe

pub is_above : (w : Window) (key found : ℕ) (new : Window) → NarrowsAbove w key found new → new ≡ window w.probe found w.high w.high_key new.probe
is_above w key found new narrows = λ i. window (narrows.low i) (narrows.low_key i) (narrows.high i) (narrows.high_key i) new.probe

pub is_equal : (w new : Window) → NarrowsEqual w new → new ≡ window w.low w.low_key w.probe w.high_key new.probe
is_equal w new narrows = λ i. window (narrows.low i) (narrows.low_key i) (narrows.high i) (narrows.high_key i) new.probe
