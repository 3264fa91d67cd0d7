-- How far apart two guesses in a row are: about a quarter of the window at most.
use Rattle.std.proofs.Common.{◌≡◌, inl, inr, ℕ, ◌+◌, ◌-◌, ◌*◌, ◌<◌, ◌≤◌, ap, arith, mul_assoc, mul_comm, mul_left_comm, mul_right_comm, mul-le-mul_left, mul-le-mul_right, mul-lt-mul_of_pos_right, lt_of_mul-lt-mul_right, le_of_mul-le-mul_right}
use Rattle.std.proofs.lemmas.Bool.{cases_lt}

-- twice a product is at most the sum of the squares
squares : (a b : ℕ) → 2 * (a * b) ≤ a * a + b * b
squares a b = elim (cases_lt a b) [
  | inl less ↦ let e : a + (b - a) ≡ b = omega (arith, less) in omega (arith, apart a (b - a), ap (λ n. a * n) e, ap (λ n. n * n) e)
  | inr more ↦ let e : b + (a - b) ≡ a = omega (arith, more) in
      omega (arith, apart b (a - b), ap (λ n. b * n) e, ap (λ n. n * n) e, mul_comm a b)
]
  where
    apart : (a d : ℕ) → 2 * (a * (a + d)) ≤ a * a + (a + d) * (a + d)
    apart a d = grind arith

-- `w` rows are left of `all` below a probe: w * d0 ≤ k * all, where the keys are d0 apart and `key` is k past the lower;
-- in the smaller window keys are d1 apart, and the next guess is less than p rows up
rest_below : (w all k d0 d1 p : ℕ) → 0 < all → w * d0 ≤ k * all → d1 ≤ d0 → k * w < p * d1 → w * w < p * all
rest_below w all k d0 d1 p some left closer next = lt_of_mul-lt-mul_right d1 (omega (
  arith,
  mul-le-mul_left (w * w) closer,
  mul_assoc w w d0,
  mul-le-mul_left w left,
  mul_left_comm w k all,
  mul_assoc k w all,
  mul-lt-mul_of_pos_right next some,
  mul_right_comm p d1 all,
))

pub left_below : (w all k d0 d1 p : ℕ) → 0 < all → w * d0 ≤ k * all → d1 ≤ d0 → k * w < p * d1 → 4 * w ≤ 4 * p + all
left_below w all k d0 d1 p some left closer next = elim (cases_lt (4 * p + all) (4 * w)) [
  | inl far ↦ absurd (omega (
    arith,
    rest_below w all k d0 d1 p some left closer next,
    mul-le-mul_right all far,
    expand w p all,
    squares (2 * w) all,
    double w all,
  ))
  | inr near ↦ near
]
  where
    expand : (w p all : ℕ) → (4 * p + all + 1) * all ≡ 4 * (p * all) + all * all + all
    expand w p all = grind arith

    double : (w all : ℕ) → (2 * w * (2 * w) ≡ 4 * (w * w)) × (2 * w * all ≡ 2 * (w * all)) × (4 * w * all ≡ 4 * (w * all))
    double w all = (grind arith, grind arith, grind arith)

-- v rows are below a probe and w above it; the keys there are s and d1 apart, and `key` is k1 past the probe's; the
-- next guess is q rows up
rest_above : (v w k1 s d1 q : ℕ) → 0 < w → 0 < d1 → (k1 + s) * (v + w) ≤ (v + 1) * (d1 + s) → q * d1 ≤ k1 * w → q * (v + w) ≤ (v + 1) * w
rest_above v w k1 s d1 q some apart left next =
    let shorter : k1 * (v + w) ≤ (v + 1) * d1 = omega (arith, left, expand v w k1 s d1, mul-le-mul_left s some) in
    le_of_mul-le-mul_right (omega (
      arith,
      mul_right_comm q (v + w) d1,
      mul-le-mul_right (v + w) next,
      mul_right_comm k1 w (v + w),
      mul-le-mul_right w shorter,
      mul_right_comm (v + 1) d1 w,
    )) apart
  where
    expand : (v w k1 s d1 : ℕ) → ((k1 + s) * (v + w) ≡ k1 * (v + w) + (s * v + s * w)) × ((v + 1) * (d1 + s) ≡ (v + 1) * d1 + (s * v + s))
    expand v w k1 s d1 = (grind arith, grind arith)

pub left_above : (v w k1 s d1 q : ℕ) → 0 < w → 0 < d1 → (k1 + s) * (v + w) ≤ (v + 1) * (d1 + s) → q * d1 ≤ k1 * w → 4 * q ≤ v + w + 4
left_above v w k1 s d1 q some apart left next = elim (cases_lt (v + w + 4) (4 * q)) [
  | inl far ↦ absurd (omega (
    arith,
    some,
    rest_above v w k1 s d1 q some apart left next,
    mul-le-mul_right (v + w) far,
    expand v w q,
    squares (v + 1) w,
  ))
  | inr near ↦ near
]
  where
    expand : (v w q : ℕ) → ((v + w + 4 + 1) * (v + w) ≡ v * v + 2 * (v * w) + w * w + 5 * v + 5 * w)
        × ((v + 1) * w ≡ v * w + w) × ((v + 1) * (v + 1) ≡ v * v + 2 * v + 1) × (4 * q * (v + w) ≡ 4 * (q * (v + w)))
    expand v w q = (grind arith, grind arith, grind arith, grind arith)
