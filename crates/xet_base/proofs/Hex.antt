-- The hexadecimal digits of a number: written one by one, read one by one, and telling the number.
use Rattle.std.proofs.Common.{◌≡◌, ℕ, zero, suc, ◌+◌, ◌-◌, ◌*◌, ◌/◌, ◌%◌, ◌<◌, ◌≤◌, ◌^◌, List, [], ◌∷◌, ◌++◌, length, take, drop, map, refl, sym, ap, ◌∙◌, arith, add-one, All}
use Rattle.std.proofs.lemmas.Bool.Decides.{nat_tests}
use Rattle.std.proofs.Math.Nat.{pow-zero, pow-suc, pow-le-pow_right}
use Rattle.std.proofs.Math.Seq.{take-add}
use Rattle.std.proofs.lemmas.Nat.{shr-shr}
use Rattle.std.proofs.lemmas.List.{length-append, map-append, take_all}
use Rattle.std.proofs.lemmas.List.Elements.{All-append, All-cons, All-nil}
use Rattle.std.specs.Char.{to_ascii_lowercase}
use Rattle.std.specs.Str.{str_to_ascii_lowercase}
use Rattle.xet_base.specs.declared.merklehash.DataHash.{DataHash}
use Rattle.xet_base.specs.Hash.{IsHash}
use Rattle.xet_base.specs.Hex.{hex_digit, hex_digits, hash_hex, IsHexDigit, IsHexText}
use Rattle.xet_base.proofs.Lists.{same_parts}

pub hex_digits-zero : (n : ℕ) → hex_digits 0 n ≡ []
unfolding hex_digits
hex_digits-zero n = refl

-- one more digit of a word that is written from its highest digit on
pub hex_digits-written : (i word : ℕ) → i < 16
    → hex_digits i (word / 2 ^ (64 - 4 * i)) ++ hex_digit (word / 2 ^ (60 - 4 * i) % 16) ∷ [] ≡ hex_digits (i + 1) (word / 2 ^ (64 - 4 * (i + 1)))
unfolding hex_digits
hex_digits-written i word below =
    let above : 60 - 4 * i + 4 ≡ 64 - 4 * i = omega arith in
    let next : 64 - 4 * (i + 1) ≡ 60 - 4 * i = omega arith in
    let front : word / 2 ^ (60 - 4 * i) / 16 ≡ word / 2 ^ (64 - 4 * i) = shr-shr word (60 - 4 * i) 4 ∙ ap (λ k. word / 2 ^ k) above in
    rw (next, add-one) (ap (λ n. hex_digits i n ++ hex_digit (word / 2 ^ (60 - 4 * i) % 16) ∷ []) (sym front))

-- one more digit that is read after the others
pub hex_digits-read : (i word value : ℕ) → value < 16 → hex_digits (i + 1) (word * 16 + value) ≡ hex_digits i word ++ hex_digit value ∷ []
unfolding hex_digits
hex_digits-read i word value below =
    let high : (word * 16 + value) / 16 ≡ word = omega arith in
    let low : (word * 16 + value) % 16 ≡ value = omega arith in
    rw add-one (ap (λ n. hex_digits i n ++ hex_digit ((word * 16 + value) % 16) ∷ []) high ∙ ap (λ d. hex_digits i word ++ hex_digit d ∷ []) low)

pub digits_fit : (i word value : ℕ) → value < 16 → word < 16 ^ i → word * 16 + value < 16 ^ (i + 1)
digits_fit i word value below fits = rw (add-one, pow-suc) (omega arith)

pub digits_fit_word : (i : ℕ) → i ≤ 16 → 16 ^ i ≤ 2 ^ 64
digits_fit_word i within = pow-le-pow_right {n = 16} (omega arith) within

length-hex_digits : (count n : ℕ) → length (hex_digits count n) ≡ count
unfolding hex_digits
length-hex_digits zero n = refl
length-hex_digits (suc count) n = length-append (hex_digits count (n / 16)) _ ∙ ap (λ k. k + 1) (length-hex_digits count (n / 16)) ∙ add-one count

quarters : (xs : List ℕ) → length xs ≡ 64 → ((take 16 xs ++ take 16 (drop 16 xs)) ++ take 16 (drop 32 xs)) ++ take 16 (drop 48 xs) ≡ xs
quarters xs len =
    ap (λ ys. (ys ++ take 16 (drop 32 xs)) ++ take 16 (drop 48 xs)) (sym (take-add 16 16 xs))
    ∙ ap (λ ys. ys ++ take 16 (drop 48 xs)) (sym (take-add 32 16 xs))
    ∙ sym (take-add 48 16 xs) ∙ take_all 64 xs (omega arith)

-- a text of 64 digits whose quarters are the digits of four words
pub lowered-quarters : (text : List ℕ) (a b c d : ℕ) → length text ≡ 64
    → hex_digits 16 a ≡ str_to_ascii_lowercase (take 16 text) → hex_digits 16 b ≡ str_to_ascii_lowercase (take 16 (drop 16 text))
    → hex_digits 16 c ≡ str_to_ascii_lowercase (take 16 (drop 32 text)) → hex_digits 16 d ≡ str_to_ascii_lowercase (take 16 (drop 48 text))
    → str_to_ascii_lowercase text ≡ ((hex_digits 16 a ++ hex_digits 16 b) ++ hex_digits 16 c) ++ hex_digits 16 d
lowered-quarters text a b c d len first second third fourth =
    let low = to_ascii_lowercase in
    let w = take 16 text in let x = take 16 (drop 16 text) in let y = take 16 (drop 32 text) in let z = take 16 (drop 48 text) in
    ap (map low) (sym (quarters text len)) ∙ map-append low ((w ++ x) ++ y) z
    ∙ ap (λ s. s ++ map low z) (map-append low (w ++ x) y ∙ ap (λ s. s ++ map low y) (map-append low w x))
    ∙ (λ i. ((sym first i ++ sym second i) ++ sym third i) ++ sym fourth i)

digit_below : (n : ℕ) → n < 16 → IsHexDigit (hex_digit n)
digit_below n below = grind (arith, nat_tests)

digit_low : (n : ℕ) → n < 16 → to_ascii_lowercase (hex_digit n) ≡ hex_digit n
digit_low n below = grind (arith, nat_tests)

digit_injective : (m n : ℕ) → m < 16 → n < 16 → hex_digit m ≡ hex_digit n → m ≡ n
digit_injective m n m_below n_below same = grind (arith, nat_tests)

digits_are_hex : (count n : ℕ) → All IsHexDigit (hex_digits count n)
unfolding hex_digits
digits_are_hex zero n = All-nil IsHexDigit
digits_are_hex (suc count) n =
    let last : n % 16 < 16 = omega arith in
    All-append IsHexDigit (hex_digits count (n / 16)) _ (digits_are_hex count (n / 16)) (All-cons IsHexDigit (hex_digit (n % 16)) [] (digit_below (n % 16) last) (All-nil IsHexDigit))

digits_are_low : (count n : ℕ) → str_to_ascii_lowercase (hex_digits count n) ≡ hex_digits count n
unfolding hex_digits
digits_are_low zero n = refl
digits_are_low (suc count) n =
    let last : n % 16 < 16 = omega arith in
    map-append to_ascii_lowercase (hex_digits count (n / 16)) _
    ∙ (λ i. digits_are_low count (n / 16) i ++ digit_low (n % 16) last i ∷ [])

digits_injective : (count m n : ℕ) → m < 16 ^ count → n < 16 ^ count → hex_digits count m ≡ hex_digits count n → m ≡ n
unfolding hex_digits
digits_injective zero m n m_fits n_fits same = omega (arith, pow-zero 16)
digits_injective (suc count) m n m_fits n_fits same =
    let m_last : m % 16 < 16 = omega arith in let n_last : n % 16 < 16 = omega arith in
    let parts = same_parts (hex_digits count (m / 16)) (hex_digits count (n / 16)) _ _ (length-hex_digits count (m / 16) ∙ sym (length-hex_digits count (n / 16))) same in
    let high = digits_injective count (m / 16) (n / 16) (omega (arith, pow-suc 16 count)) (omega (arith, pow-suc 16 count)) parts.0 in
    let heads : hex_digit (m % 16) ≡ hex_digit (n % 16) = cc (parts.1) in
    let low = digit_injective (m % 16) (n % 16) m_last n_last heads in
    omega arith

-- the text of a hash is one that the hash is read from
pub hash_hex-IsHexText : (hash : DataHash) → IsHexText (hash_hex hash)
unfolding hash_hex
hash_hex-IsHexText hash = record {
  digits = All-append IsHexDigit _ _ (All-append IsHexDigit _ _ (All-append IsHexDigit _ _ (digits_are_hex 16 hash.word0) (digits_are_hex 16 hash.word1))
      (digits_are_hex 16 hash.word2)) (digits_are_hex 16 hash.word3);
  length = simp (length-append, length-hex_digits);
}

pub lowered-hash_hex : (hash : DataHash) → str_to_ascii_lowercase (hash_hex hash) ≡ hash_hex hash
unfolding hash_hex
lowered-hash_hex hash = simp (map-append {A = ℕ} {B = ℕ}, digits_are_low)

-- and the text determines the hash
pub hash_hex-injective : (a b : DataHash) → IsHash a → IsHash b → hash_hex a ≡ hash_hex b → a ≡ b
unfolding hash_hex
hash_hex-injective a b a_fits b_fits same =
    let len : (m n : ℕ) → length (hex_digits 16 m) ≡ length (hex_digits 16 n) = λ m n. length-hex_digits 16 m ∙ sym (length-hex_digits 16 n) in
    let len2 : (m m' n n' : ℕ) → length (hex_digits 16 m ++ hex_digits 16 m') ≡ length (hex_digits 16 n ++ hex_digits 16 n') = λ m m' n n'. simp (length-append, length-hex_digits) in
    let len3 : length ((hex_digits 16 a.word0 ++ hex_digits 16 a.word1) ++ hex_digits 16 a.word2) ≡ length ((hex_digits 16 b.word0 ++ hex_digits 16 b.word1) ++ hex_digits 16 b.word2) = simp (length-append, length-hex_digits) in
    let last = same_parts _ _ _ _ len3 same in
    let third = same_parts _ _ _ _ (len2 a.word0 a.word1 b.word0 b.word1) last.0 in
    let first = same_parts _ _ _ _ (len a.word0 b.word0) third.0 in
    let e0 = digits_injective 16 a.word0 b.word0 a_fits.word0 b_fits.word0 first.0 in
    let e1 = digits_injective 16 a.word1 b.word1 a_fits.word1 b_fits.word1 first.1 in
    let e2 = digits_injective 16 a.word2 b.word2 a_fits.word2 b_fits.word2 third.1 in
    let e3 = digits_injective 16 a.word3 b.word3 a_fits.word3 b_fits.word3 last.1 in
    λ i. record { word0 = e0 i; word1 = e1 i; word2 = e2 i; word3 = e3 i }
