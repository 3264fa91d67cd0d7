-- A table whose rows are known: its keys and values, and how many rows hold a key.
use Rattle.std.proofs.Common.{◌≡◌, ◌==◌, if◌then◌else◌, inl, inr, ℕ, zero, suc, ◌+◌, ◌*◌, ◌^◌, ◌<◌, ◌≤◌, List, [], ◌∷◌, ◌++◌, length, take, drop, flat_map, get_or, refl, sym, ap, ◌∙◌, append_assoc, arith, add-one}
use Rattle.std.proofs.lemmas.List.{drop-drop, length-append, length-drop}
use Rattle.std.proofs.Math.Nat.{add-mul}
use Rattle.std.proofs.lemmas.Bool.{cases_eq, eq-eqb, ne_eqb, cond-true, cond-false}
use Rattle.xet_base.specs.Bytes.{u64_bytes, u64_from_bytes}
use Rattle.xet_base.specs.Search.Table.{Table, offset_of_row, row_offset, key_at, value_at, HasKey, hits_below}
use Rattle.xet_base.proofs.Bytes.{length-u64_bytes, u64_from_bytes-bytes}
use Rattle.xet_base.proofs.Lists.{front_is, rest_is}
use Rattle.xet_base.proofs.Search.Tables.{hits_below-hit, hits_below-miss, offset_of_row-next}

module _ {X : Type 0} (key : X → ℕ) (value : X → List ℕ) (width : ℕ) (length-value : (x : X) → length (value x) ≡ width) where
  abbrev row : X → List ℕ
  row x = u64_bytes (key x) ++ value x

  length-row : (x : X) → length (row x) ≡ 8 + width
  length-row x = length-append (u64_bytes (key x)) (value x) ∙ omega (arith, length-u64_bytes (key x), length-value x)

  -- the rows from row i on
  drop_rows : (xs : List X) (rest : List ℕ) (i : ℕ) (d : X) → i < length xs
      → (after : List ℕ) × (drop (i * (8 + width)) (flat_map row xs ++ rest) ≡ row (get_or xs i d) ++ after)
  drop_rows [] rest i d within = absurd (omega (arith, within))
  drop_rows (x ∷ xs) rest zero d within =
      let none : zero * (8 + width) ≡ 0 = omega arith in
      (flat_map row xs ++ rest, ap (λ n. drop n ((row x ++ flat_map row xs) ++ rest)) none ∙ append_assoc (row x) (flat_map row xs) rest)
  drop_rows (x ∷ xs) rest (suc i) d within =
      let found = drop_rows xs rest i d (omega (arith, within)) in
      let split : suc i * (8 + width) ≡ (8 + width) + i * (8 + width) = ap (λ n. n * (8 + width)) (sym (add-one i)) ∙ add-mul i 1 (8 + width) ∙ omega arith in (
        found.0,
        ap (λ n. drop n ((row x ++ flat_map row xs) ++ rest)) split
            ∙ sym (drop-drop (i * (8 + width)) (8 + width) ((row x ++ flat_map row xs) ++ rest))
            ∙ ap (drop (i * (8 + width))) (rest_is (8 + width) ((row x ++ flat_map row xs) ++ rest) (row x) (flat_map row xs ++ rest) (length-row x) (append_assoc (row x) (flat_map row xs) rest))
            ∙ found.1,
      )

  module _ (t : Table) (xs : List X) (rest : List ℕ) (bytes_are : drop t.start t.bytes ≡ flat_map row xs ++ rest) (same_width : t.width ≡ width) where
    row_is_at : (i : ℕ) (d : X) → i < length xs → (after : List ℕ) × (drop (row_offset t i) t.bytes ≡ row (get_or xs i d) ++ after)
    unfolding offset_of_row
    row_is_at i d within =
        let found = drop_rows xs rest i d within in (
          found.0,
          ap (λ w. drop (t.start + i * (8 + w)) t.bytes) same_width ∙ sym (drop-drop (i * (8 + width)) t.start t.bytes)
              ∙ ap (drop (i * (8 + width))) bytes_are ∙ found.1,
        )

    pub row_is_there : (i : ℕ) (d : X) → i < length xs → row_offset t (i + 1) ≤ length t.bytes
    row_is_there i d within =
        let found = row_is_at i d within in
        omega (arith, offset_of_row-next t.start t.width i, same_width, ap length found.1, length-drop (row_offset t i) t.bytes, length-append (row (get_or xs i d)) found.0, length-row (get_or xs i d))

    pub key_is_there : (i : ℕ) (d : X) → i < length xs → HasKey t i
    key_is_there i d within = omega (arith, row_is_there i d within, offset_of_row-next t.start t.width i)

    pub key_is : (i : ℕ) (d : X) → i < length xs → key (get_or xs i d) < 2 ^ 64 → key_at t i ≡ key (get_or xs i d)
    unfolding key_at
    key_is i d within fits =
        let x = get_or xs i d in
        let found = row_is_at i d within in
        let split = found.1 ∙ append_assoc (u64_bytes (key x)) (value x) found.0 in
        ap u64_from_bytes (front_is 8 (drop (row_offset t i) t.bytes) (u64_bytes (key x)) (value x ++ found.0) (length-u64_bytes (key x)) split)
        ∙ u64_from_bytes-bytes (key x) fits

    pub value_is : (i : ℕ) (d : X) → i < length xs → value_at t i ≡ value (get_or xs i d)
    value_is i d within =
        let x = get_or xs i d in
        let found = row_is_at i d within in
        let split = found.1 ∙ append_assoc (u64_bytes (key x)) (value x) found.0 in
        ap (λ w. take w (drop (row_offset t i + 8) t.bytes)) same_width
        ∙ front_is width (drop (row_offset t i + 8) t.bytes) (value x) found.0 (length-value x)
        (sym (drop-drop 8 (row_offset t i) t.bytes) ∙ rest_is 8 (drop (row_offset t i) t.bytes) (u64_bytes (key x)) (value x ++ found.0) (length-u64_bytes (key x)) split)

-- the sum of f over the numbers below n
abbrev pub sum_below : (ℕ → ℕ) → ℕ → ℕ
sum_below f zero = 0
sum_below f (suc n) = sum_below f n + f n

-- hits are counted row by row
pub hits_below-sum : (t : Table) (word n : ℕ) (f : ℕ → ℕ) → ((i : ℕ) → i < n → HasKey t i) → ((i : ℕ) → i < n → f i ≡ (if key_at t i == word then 1 else 0))
    → hits_below t word n ≡ sum_below f n
unfolding hits_below
hits_below-sum t word zero f there counts = refl
hits_below-sum t word (suc n) f there counts =
    let before : hits_below t word n ≡ sum_below f n = hits_below-sum t word n f (λ i below. there i (omega (arith, below))) (λ i below. counts i (omega (arith, below))) in
    let here : f n ≡ (if key_at t n == word then 1 else 0) = counts n (omega arith) in
    elim (cases_eq (key_at t n) word) [
      | inl same ↦ ap (hits_below t word) (sym (add-one n)) ∙ hits_below-hit t word n (there n (omega arith)) same
          ∙ omega (arith, before, here, cond-true {A = ℕ} _ 1 0 (eq-eqb _ _ same))
      | inr other ↦ ap (hits_below t word) (sym (add-one n)) ∙ hits_below-miss t word n other
          ∙ omega (arith, before, here, cond-false {A = ℕ} _ 1 0 (ne_eqb _ _ other))
    ]
