-- What `{:016x}` writes of a word: its sixteen digits.
use Rattle.std.proofs.Common.{◌≡◌, ◌≢◌, ◌⊎◌, inl, inr, ℕ, zero, suc, ◌+◌, ◌-◌, ◌/◌, ◌%◌, ◌<◌, ◌≤◌, ◌^◌, Bool, true, false, cond, eqb, Option, Some, option_map, List, [], ◌∷◌, ◌++◌, length, replicate, refl, sym, ap, ◌∙◌, arith, append_assoc, append-nil}
use Rattle.std.specs.Fmt.{◌++?◌, digits, digits_onto, char_count, padded_integral, format_spec}
use Rattle.std.proofs.lemmas.Bool.Decides.{eqb_tells}
use Rattle.std.proofs.lemmas.List.{replicate_more}
use Rattle.std.proofs.Math.Nat.{pow-zero, pow-suc}
use Rattle.xet_base.specs.declared.merklehash.DataHash.{DataHash}
use Rattle.xet_base.specs.Hex.{hex_digit, hex_digits, hash_hex}

hex_of_zero : (count : ℕ) → hex_digits count 0 ≡ replicate count 48
unfolding hex_digits
hex_of_zero zero = refl
hex_of_zero (suc count) =
    let next : count + 1 ≡ suc count = omega arith in
    ap (λ ds. ds ++ 48 ∷ []) (hex_of_zero count) ∙ replicate_more count 48 ∙ ap (λ n. replicate n 48) next

-- zeros before digits, up to so many before `acc`
abbrev with_zeros : ℕ → List ℕ → List ℕ → List ℕ
with_zeros count acc ds = replicate (count + length acc - length ds) 48 ++ ds

digits_step : (k n : ℕ) (acc : List ℕ) (t : Bool) → eqb (n / 16) 0 ≡ t
    → digits_onto (suc k) 16 false n acc ≡ cond t (hex_digit (n % 16) ∷ acc) (digits_onto k 16 false (n / 16) (hex_digit (n % 16) ∷ acc))
digits_step k n acc t e = ap (λ (b : Bool). cond b (hex_digit (n % 16) ∷ acc) (digits_onto k 16 false (n / 16) (hex_digit (n % 16) ∷ acc))) e

last_digit : (count n : ℕ) (acc : List ℕ) → hex_digits count (n / 16) ++ hex_digit (n % 16) ∷ acc ≡ hex_digits (suc count) n ++ acc
unfolding hex_digits
last_digit count n acc = sym (append_assoc (hex_digits count (n / 16)) (hex_digit (n % 16) ∷ []) acc)

one_digit : (count k n : ℕ) (acc : List ℕ) → eqb (n / 16) 0 ≡ true → n / 16 ≡ 0
    → with_zeros (suc count) acc (digits_onto (suc k) 16 false n acc) ≡ hex_digits (suc count) n ++ acc
one_digit count k n acc test none =
    let d = hex_digit (n % 16) in
    let room : suc count + length acc - suc (length acc) ≡ count = omega arith in
    ap (with_zeros (suc count) acc) (digits_step k n acc true test) ∙ ap (λ m. replicate m 48 ++ d ∷ acc) room
    ∙ ap (λ ds. ds ++ d ∷ acc) (sym (hex_of_zero count) ∙ ap (hex_digits count) (sym none)) ∙ last_digit count n acc

padded_onto : (count k n : ℕ) (acc : List ℕ) → count ≤ k → n < 16 ^ suc count
    → ((eqb (n / 16) 0 ≡ true) × (n / 16 ≡ 0)) ⊎ ((eqb (n / 16) 0 ≡ false) × (n / 16 ≢ 0))
    → with_zeros (suc count) acc (digits_onto (suc k) 16 false n acc) ≡ hex_digits (suc count) n ++ acc
padded_onto zero k n acc fuel fits (inl none) = one_digit zero k n acc none.0 none.1
padded_onto zero k n acc fuel fits (inr some) = absurd (some.1 (omega (arith, fits, pow-suc 16 0, pow-zero 16)))
padded_onto (suc count) zero n acc fuel fits test = absurd (omega arith)
padded_onto (suc count) (suc k) n acc fuel fits (inl none) = one_digit (suc count) (suc k) n acc none.0 none.1
padded_onto (suc count) (suc k) n acc fuel fits (inr some) =
    let d = hex_digit (n % 16) in
    let ds = digits_onto (suc k) 16 false (n / 16) (d ∷ acc) in
    let below : n / 16 < 16 ^ suc count = omega (arith, fits, pow-suc 16 (suc count)) in
    let long : suc (suc count) + length acc ≡ suc count + suc (length acc) = omega arith in
    ap (with_zeros (suc (suc count)) acc) (digits_step (suc k) n acc false some.0)
    ∙ ap (λ m. replicate (m - length ds) 48 ++ ds) long
    ∙ padded_onto count k (n / 16) (d ∷ acc) (omega arith) below (eqb_tells (n / 16 / 16) 0)
    ∙ last_digit (suc count) n acc

-- one word alone
sixteen_digits : (n : ℕ) → n < 2 ^ 64 → padded_integral (format_spec 32 0 4 16 (2 ^ 64 - 1)) false [] (digits 16 false n) ≡ hex_digits 16 n
unfolding padded_integral char_count digits
sixteen_digits n fits =
    let ds = digits_onto 64 16 false n [] in
    let room : 16 - length ds - 0 - 0 ≡ 16 - length ds = omega arith in
    ap (λ xs. replicate (16 - length ds - 0 - 0) 48 ++ xs) (append-nil ds) ∙ ap (λ m. replicate m 48 ++ ds) room
    ∙ padded_onto 15 63 n [] (omega arith) fits (eqb_tells (n / 16) 0) ∙ append-nil (hex_digits 16 n)

-- one word where a text may be unknown
pub word_written : (n : ℕ) (output : Option (List ℕ)) → n < 2 ^ 64 → output ≡ Some (digits 16 false n)
    → option_map (padded_integral (format_spec 32 0 4 16 (2 ^ 64 - 1)) false []) output ≡ Some (hex_digits 16 n)
word_written n output fits is =
    ap (option_map (padded_integral (format_spec 32 0 4 16 (2 ^ 64 - 1)) false [])) is ∙ ap (λ bs. Some bs) (sixteen_digits n fits)

-- four words one after another
pub words_written : (hash : DataHash) (a b c d : Option (List ℕ)) → a ≡ Some (hex_digits 16 hash.word0) → b ≡ Some (hex_digits 16 hash.word1)
    → c ≡ Some (hex_digits 16 hash.word2) → d ≡ Some (hex_digits 16 hash.word3) → a ++? (b ++? (c ++? d)) ≡ Some (hash_hex hash)
unfolding hash_hex
words_written hash a b c d first second third fourth =
    let x = hex_digits 16 hash.word0 in
    let y = hex_digits 16 hash.word1 in
    let z = hex_digits 16 hash.word2 in
    let w = hex_digits 16 hash.word3 in
    (λ i. first i ++? (second i ++? (third i ++? fourth i)))
    ∙ ap (λ bs. Some bs) (sym (append_assoc (x ++ y) z w ∙ append_assoc x y (z ++ w)))
