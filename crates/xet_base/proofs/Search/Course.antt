-- The seeks of a search on a sorted table: how each turn shortens the window.
use Rattle.std.proofs.Common.{◌≡◌, inl, inr, ℕ, ◌+◌, ◌-◌, ◌*◌, ◌/◌, ◌<◌, ◌≤◌, min, max, refl, arith, mul-le-mul_right}
use Rattle.std.proofs.lemmas.Bool.{cases_lt}
use Rattle.xet_base.specs.Steps.Probes.{guess_of, IsBetweenKeys, AfterBelow, AfterAbove}
use Rattle.xet_base.proofs.Search.Progress.{Shrinks, IsProbe, IsMatching, Course}
use Rattle.xet_base.proofs.Search.Quarter.{left_below, left_above}
use Rattle.xet_base.proofs.Search.Probing.{guess_quotient, guess_most, below_within, above_within}

-- a guess, and a guess below it
guessed_below : (low low_key high high_key probe found key : ℕ) → IsBetweenKeys low low_key high high_key key → low + 1 < probe → probe < high
    → probe ≡ guess_of low low_key high high_key key → found ≤ high_key → key < found
    → (q : ℕ) × (guess_of low low_key probe found key ≡ min (max (low + q) (low + 1)) (probe - 1)) × (4 * (probe - low) ≤ 4 * (q + 1) + (high - low))
guessed_below low low_key high high_key probe found key around wide below guessed under past =
    let k_is : low_key + (key - low_key) ≡ key = omega (arith, around.below) in
    let first = guess_quotient low low_key high high_key key (key - low_key) (high - low) (high_key - low_key) k_is
    (omega (arith, around.rows)) (omega (arith, around.apart)) (omega (arith, around.apart)) in
    let next = guess_quotient low low_key probe found key (key - low_key) (probe - low) (found - low_key) k_is
    (omega (arith, wide)) (omega (arith, past, around.below)) (omega (arith, past, around.below)) in
    let rows : probe - low ≤ first.0 = omega (arith, guessed, first.3, wide, below) in (
      next.0,
      next.3,
      left_below (probe - low) (high - low) (key - low_key) (high_key - low_key) (found - low_key) (next.0 + 1) (omega (arith, around.rows))
          (omega (arith, mul-le-mul_right (high_key - low_key) rows, first.1)) (omega (arith, under)) next.2,
    )

-- a guess, and a guess above it
guessed_above : (low low_key high high_key probe found key : ℕ) → IsBetweenKeys low low_key high high_key key → low < probe → probe + 1 < high
    → probe ≡ guess_of low low_key high high_key key → low_key ≤ found → found < key
    → (q : ℕ) × (guess_of probe found high high_key key ≡ min (max (probe + q) (probe + 1)) (high - 1)) × (4 * q ≤ high - low + 4)
guessed_above low low_key high high_key probe found key around above wide guessed over past =
    let first = guess_quotient low low_key high high_key key (key - low_key) (high - low) (high_key - low_key) (omega (arith, around.below))
    (omega (arith, around.rows)) (omega (arith, around.apart)) (omega (arith, around.apart)) in
    let next = guess_quotient probe found high high_key key (key - found) (high - probe) (high_key - found) (omega (arith, past))
    (omega (arith, wide)) (omega (arith, past, around.above)) (omega (arith, past, around.above)) in
    let v = probe - low in
    let w = high - probe in
    let rows : first.0 + 1 ≤ v + 1 = omega (arith, guessed, first.3, wide, above) in
    let all_is : v + w ≡ high - low = omega (arith, wide, above) in
    let k_is : key - found + (found - low_key) ≡ key - low_key = omega (arith, past, over) in
    let d_is : high_key - found + (found - low_key) ≡ high_key - low_key = omega (arith, past, over, around.above) in
    let left : (key - found + (found - low_key)) * (v + w) ≤ (v + 1) * (high_key - found + (found - low_key)) = rw (k_is, all_is, d_is)
    (omega (arith, first.2, mul-le-mul_right (high_key - low_key) rows)) in (
      next.0,
      next.3,
      omega (
        arith,
        all_is,
        left_above v w (key - found) (found - low_key) (high_key - found) next.0 (omega (arith, wide))
            (omega (arith, past, around.above)) left next.1,
      ),
    )

turn_below : (low low_key high high_key probe found key next : ℕ) → IsBetweenKeys low low_key high high_key key → low + 256 < probe → probe < high
    → IsProbe low low_key high high_key key probe → found ≤ high_key → key < found → AfterBelow low probe (guess_of low low_key probe found key) next
    → Shrinks low probe next (high - low)
turn_below low low_key high high_key probe found key next around wide below chosen under past after =
    let within = below_within low low_key probe found key next after (omega (arith, wide)) in
    record {
      down = λ _. elim (cases_lt probe (guess_of low low_key probe found key + 256)) [
        | inl near ↦ omega (arith, after.step near, wide, below)
        | inr far ↦ omega (arith, after.far far, far, below)
      ];
      up = λ distant. elim (cases_lt probe (guess_of low low_key probe found key + 256)) [
        | inl near ↦ absurd (omega (arith, after.step near, wide, distant))
        | inr far ↦ elim chosen [
          | inl guessed ↦ let g = guessed_below low low_key high high_key probe found key around (omega (arith, wide)) below guessed under past in
              omega (arith, g.1, g.2, after.far far, distant, within.0, wide, below)
          | inr (inl step) ↦ omega (arith, step, within.0, wide)
          | inr (inr step) ↦ absurd (omega (arith, step, wide))
        ]
      ];
    }

turn_above : (low low_key high high_key probe found key next : ℕ) → IsBetweenKeys low low_key high high_key key → low < probe → probe + 256 < high
    → IsProbe low low_key high high_key key probe → low_key ≤ found → found < key → AfterAbove high probe (guess_of probe found high high_key key) next
    → Shrinks probe high next (high - low)
turn_above low low_key high high_key probe found key next around above wide chosen over past after =
    let within = above_within probe found high high_key key next after (omega (arith, wide)) in
    record {
      down = λ distant. elim (cases_lt (probe + 256) (guess_of probe found high high_key key)) [
        | inl far ↦ elim chosen [
          | inl guessed ↦ let g = guessed_above low low_key high high_key probe found key around above (omega (arith, wide)) guessed over past in
              omega (arith, g.1, g.2, after.far far, distant, within.1, wide, above)
          | inr (inl step) ↦ absurd (omega (arith, step, wide))
          | inr (inr step) ↦ omega (arith, step, within.1, wide)
        ]
        | inr near ↦ absurd (omega (arith, after.step near, wide, distant))
      ];
      up = λ _. elim (cases_lt (probe + 256) (guess_of probe found high high_key key)) [
        | inl far ↦ omega (arith, after.far far, far, wide, above)
        | inr near ↦ omega (arith, after.step near, wide, above)
      ];
    }

pub course_start : (R : Type 0) (all high_key key : ℕ) → Course R all 0 0 0 all high_key key (guess_of 0 0 all high_key key) 0
course_start R all high_key key = inl (record {
  before = all + 256;
  spent = omega arith;
  spent_before = omega arith;
  shrinks = λ wide. record { down = λ _. omega (arith, guess_most 0 0 all high_key key); up = λ _. omega arith };
  chosen = λ wide. inl refl;
})

module _ (R R' : Type 0) (all later low low_key high high_key key probe made found next : ℕ) (around : IsBetweenKeys low low_key high high_key key)
    (running : low + 256 < high) (above : low < probe) (below : probe < high) where
  pub course_below : Course R all later low low_key high high_key key probe made → (R → ⊥) → found ≤ high_key → key < found
      → AfterBelow low probe (guess_of low low_key probe found key) next → (later' : ℕ) → Course R' all later' low low_key probe found key next (made + 1)
  course_below (inl going) not_equal under past after later' = elim (cases_lt (low + 256) probe) [
    | inl wide ↦ inl (record {
      before = high - low;
      spent = omega (arith, going.spent_before, (going.shrinks running).down wide, wide);
      spent_before = omega (arith, going.spent);
      shrinks = λ _. turn_below low low_key high high_key probe found key next around wide below (going.chosen running) under past after;
      chosen = λ _. elim (cases_lt probe (guess_of low low_key probe found key + 256)) [
        | inl near ↦ inr (inl (omega (arith, after.step near, wide)))
        | inr far ↦ inl (after.far far)
      ];
    })
    | inr small ↦ inr (inr (record { small = small; equal = 0; spent = omega (arith, going.spent); matched = omega arith }))
  ]
  course_below (inr (inl matching)) not_equal under past after later' = absurd (not_equal matching.is_equal)
  course_below (inr (inr ended)) not_equal under past after later' = absurd (omega (arith, ended.small, running))

  pub course_above : Course R all later low low_key high high_key key probe made → low_key ≤ found → found < key
      → AfterAbove high probe (guess_of probe found high high_key key) next → Course R all later probe found high high_key key next (made + 1)
  course_above (inl going) over past after = elim (cases_lt (probe + 256) high) [
    | inl wide ↦ inl (record {
      before = high - low;
      spent = omega (arith, going.spent_before, (going.shrinks running).up wide, wide);
      spent_before = omega (arith, going.spent);
      shrinks = λ _. turn_above low low_key high high_key probe found key next around above wide (going.chosen running) over past after;
      chosen = λ _. elim (cases_lt (probe + 256) (guess_of probe found high high_key key)) [
        | inl far ↦ inl (after.far far)
        | inr near ↦ inr (inr (omega (arith, after.step near, wide)))
      ];
    })
    | inr small ↦ inr (inr (record { small = small; equal = 0; spent = omega (arith, going.spent); matched = omega arith }))
  ]
  course_above (inr (inl matching)) over past after = inr (inr (record {
    small = omega (arith, matching.stepped running);
    equal = matching.equal;
    spent = omega (arith, matching.spent);
    matched = matching.matched;
  }))
  course_above (inr (inr ended)) over past after = absurd (omega (arith, ended.small, running))

  pub course_equal : Course R all later low low_key high high_key key probe made → R' → next ≡ probe - min 4 (probe - (low + 1)) → (later' : ℕ) → 1 ≤ later'
      → (IsMatching R all later low high probe made → later + 4 ≤ later') → Course R' all later' low low_key probe high_key key next (made + 1)
  course_equal (inl going) equal stepped later' some more = inr (inl (record {
    is_equal = equal;
    equal = 1;
    spent = omega (arith, going.spent);
    matched = omega (arith, some);
    stepped = λ wide. omega (arith, stepped, wide);
  }))
  course_equal (inr (inl matching)) equal stepped later' some more = inr (inl (record {
    is_equal = equal;
    equal = matching.equal + 1;
    spent = omega (arith, matching.spent);
    matched = omega (arith, matching.matched, more matching);
    stepped = λ wide. omega (arith, stepped, wide);
  }))
  course_equal (inr (inr ended)) equal stepped later' some more = absurd (omega (arith, ended.small, running))

pub course_end : (R : Type 0) (all later hits low low_key high high_key key probe made : ℕ) → Course R all later low low_key high high_key key probe made
    → later ≤ hits → made + 1 ≤ all / 128 + hits / 4 + 8
course_end R all later hits low low_key high high_key key probe made (inl going) most = omega (arith, going.spent)
course_end R all later hits low low_key high high_key key probe made (inr (inl matching)) most = omega (arith, matching.spent, matching.matched, most)
course_end R all later hits low low_key high high_key key probe made (inr (inr ended)) most = omega (arith, ended.spent, ended.matched, most)
