-- The bytes of numbers and hashes: how many they are, and that they determine the number. Parts of lists of bytes.
use Rattle.std.proofs.Common.{◌≡◌, ℕ, zero, suc, ◌+◌, ◌*◌, ◌<◌, ◌^◌, List, [], ◌∷◌, ◌++◌, length, take, drop, flat_map, refl, sym, ap, ◌∙◌, arith}
use Rattle.std.specs.Int.{from_le_bytes, w32, w64}
use Rattle.std.proofs.lemmas.List.{length-append, get_or-drop}
use Rattle.std.proofs.Math.Nat.{mul-suc}
use Rattle.std.proofs.lemmas.Nat.{from_le_bytes-to_le_bytes_4, from_le_bytes-to_le_bytes_8}
use Rattle.xet_base.specs.declared.merklehash.DataHash.{DataHash}
use Rattle.xet_base.specs.Bytes.{u32_bytes, u64_bytes, u64_from_bytes, AreBytes}
use Rattle.xet_base.specs.Hash.{hash_bytes, IsHash}
use Rattle.xet_base.proofs.Lists.{same_parts}

pub length-u32_bytes : (n : ℕ) → length (u32_bytes n) ≡ 4
unfolding u32_bytes
length-u32_bytes n = refl

pub length-u64_bytes : (n : ℕ) → length (u64_bytes n) ≡ 8
unfolding u64_bytes
length-u64_bytes n = refl

pub length-hash_bytes : (hash : DataHash) → length (hash_bytes hash) ≡ 32
unfolding hash_bytes
length-hash_bytes hash = simp (length-append, length-u64_bytes)

pub u32_bytes-injective : (m n : ℕ) → m < 2 ^ 32 → n < 2 ^ 32 → u32_bytes m ≡ u32_bytes n → m ≡ n
unfolding u32_bytes
u32_bytes-injective m n m_fits n_fits same =
    sym (from_le_bytes-to_le_bytes_4 m m_fits) ∙ ap (from_le_bytes w32) same ∙ from_le_bytes-to_le_bytes_4 n n_fits

pub u64_bytes-injective : (m n : ℕ) → m < 2 ^ 64 → n < 2 ^ 64 → u64_bytes m ≡ u64_bytes n → m ≡ n
unfolding u64_bytes
u64_bytes-injective m n m_fits n_fits same =
    sym (from_le_bytes-to_le_bytes_8 m m_fits) ∙ ap (from_le_bytes w64) same ∙ from_le_bytes-to_le_bytes_8 n n_fits

pub u64_from_bytes-bytes : (n : ℕ) → n < 2 ^ 64 → u64_from_bytes (u64_bytes n) ≡ n
unfolding u64_from_bytes u64_bytes
u64_from_bytes-bytes n fits = from_le_bytes-to_le_bytes_8 n fits

-- the front of a list is a number's bytes in one way only
pub u32_bytes-front : (m n : ℕ) (x y : List ℕ) → m < 2 ^ 32 → n < 2 ^ 32 → u32_bytes m ++ x ≡ u32_bytes n ++ y → (m ≡ n) × (x ≡ y)
u32_bytes-front m n x y m_fits n_fits same =
    let parts = same_parts (u32_bytes m) (u32_bytes n) x y (length-u32_bytes m ∙ sym (length-u32_bytes n)) same in
    (u32_bytes-injective m n m_fits n_fits parts.0, parts.1)

pub u64_bytes-front : (m n : ℕ) (x y : List ℕ) → m < 2 ^ 64 → n < 2 ^ 64 → u64_bytes m ++ x ≡ u64_bytes n ++ y → (m ≡ n) × (x ≡ y)
u64_bytes-front m n x y m_fits n_fits same =
    let parts = same_parts (u64_bytes m) (u64_bytes n) x y (length-u64_bytes m ∙ sym (length-u64_bytes n)) same in
    (u64_bytes-injective m n m_fits n_fits parts.0, parts.1)

-- numbers of one length each, one after another
pub length-numbers : (bytes : ℕ → List ℕ) (size : ℕ) → ((n : ℕ) → length (bytes n) ≡ size) → (ns : List ℕ) → length (flat_map bytes ns) ≡ size * length ns
length-numbers bytes size len [] = omega arith
length-numbers bytes size len (n ∷ ns) =
    length-append (bytes n) (flat_map bytes ns) ∙ omega (arith, len n, length-numbers bytes size len ns, mul-suc size (length ns))

-- the bytes determine the hash
pub hash_bytes-injective : (a b : DataHash) → IsHash a → IsHash b → hash_bytes a ≡ hash_bytes b → a ≡ b
unfolding hash_bytes
hash_bytes-injective a b a_fits b_fits same =
    let len : (m n : ℕ) → length (u64_bytes m) ≡ length (u64_bytes n) = λ m n. length-u64_bytes m ∙ sym (length-u64_bytes n) in
    let len2 : (m m' n n' : ℕ) → length (u64_bytes m ++ u64_bytes m') ≡ length (u64_bytes n ++ u64_bytes n') = λ m m' n n'. simp (length-append, length-u64_bytes) in
    let len3 : length ((u64_bytes a.word0 ++ u64_bytes a.word1) ++ u64_bytes a.word2) ≡ length ((u64_bytes b.word0 ++ u64_bytes b.word1) ++ u64_bytes b.word2) = simp (length-append, length-u64_bytes) in
    let last = same_parts _ _ _ _ len3 same in
    let third = same_parts _ _ _ _ (len2 a.word0 a.word1 b.word0 b.word1) last.0 in
    let first = same_parts _ _ _ _ (len a.word0 b.word0) third.0 in
    let e0 = u64_bytes-injective a.word0 b.word0 a_fits.word0 b_fits.word0 first.0 in
    let e1 = u64_bytes-injective a.word1 b.word1 a_fits.word1 b_fits.word1 first.1 in
    let e2 = u64_bytes-injective a.word2 b.word2 a_fits.word2 b_fits.word2 third.1 in
    let e3 = u64_bytes-injective a.word3 b.word3 a_fits.word3 b_fits.word3 last.1 in
    λ i. record { word0 = e0 i; word1 = e1 i; word2 = e2 i; word3 = e3 i }

-- parts of a list of bytes, and lists of bytes one after another
pub take-bytes : (n : ℕ) (bytes : List ℕ) → AreBytes bytes → AreBytes (take n bytes)
take-bytes zero bytes are i = omega arith
take-bytes (suc n) [] are i = are i
take-bytes (suc n) (b ∷ bytes) are zero = are zero
take-bytes (suc n) (b ∷ bytes) are (suc i) = take-bytes n bytes (λ j. are (suc j)) i

pub drop-bytes : (n : ℕ) (bytes : List ℕ) → AreBytes bytes → AreBytes (drop n bytes)
drop-bytes n bytes are i = omega (arith, get_or-drop n bytes i 0, are (n + i))

pub append-bytes : (xs ys : List ℕ) → AreBytes xs → AreBytes ys → AreBytes (xs ++ ys)
append-bytes [] ys first last i = last i
append-bytes (x ∷ xs) ys first last zero = first zero
append-bytes (x ∷ xs) ys first last (suc i) = append-bytes xs ys (λ j. first (suc j)) last i
