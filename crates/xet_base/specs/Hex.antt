-- The text of a hash: each word as sixteen digits, most significant first, words in order.
use Rattle.std.specs.Prelude.{◌≡◌, ℕ, ◌+◌, ◌/◌, ◌%◌, ◌≤◌, ◌⊎◌, List, [], ◌∷◌, ◌++◌, length, zero, suc, nat_lt, if◌then◌else◌, All}
use Rattle.std.specs.Str.{str_to_ascii_lowercase}
use Rattle.xet_base.specs.declared.merklehash.DataHash.{DataHash}

-- the digit of a number below 16, `0` to `9` and `a` to `f`
abbrev pub hex_digit : ℕ → ℕ
hex_digit n = if nat_lt n 10 then 48 + n else 87 + n

-- the lowest `count` digits of a number, most significant first
unfoldable pub hex_digits : ℕ → ℕ → List ℕ
hex_digits zero n = []
hex_digits (suc count) n = hex_digits count (n / 16) ++ hex_digit (n % 16) ∷ []

-- the 64 digits of a hash
unfoldable pub hash_hex : DataHash → List ℕ
hash_hex hash =
    ((hex_digits 16 hash.word0 ++ hex_digits 16 hash.word1) ++ hex_digits 16 hash.word2)
    ++ hex_digits 16 hash.word3

-- `0` to `9`, `A` to `F` or `a` to `f`
abbrev pub IsHexDigit : ℕ → Type 0
IsHexDigit c = ((48 ≤ c) × (c ≤ 57)) ⊎ ((65 ≤ c) × (c ≤ 70)) ⊎ ((97 ≤ c) × (c ≤ 102))

-- 64 hexadecimal digits of either case
pub record IsHexText (text : List ℕ) : Type 0 where
  pub digits : All IsHexDigit text
  pub length : length text ≡ 64

-- a text spells a hash when it has the hash's digits, in either case
abbrev pub Spells : List ℕ → DataHash → Type 0
Spells text hash = str_to_ascii_lowercase text ≡ hash_hex hash
