-- Lines, their words, and what words spell.
use Rattle.std.specs.Prelude.{ℕ, ◌≡◌, ◌≢◌, ◌^◌, ◌<◌, ◌≤◌, ◌-◌, ◌⊎◌, ◌==◌, ⊤, List, [], ◌∷◌, ◌++◌, length, map, replicate, slice_index, take, if◌then◌else◌, All}
use Rattle.std.specs.Int.{IsInRange}
use Rattle.std.specs.List.{AllZip, slice_split}
use Rattle.std.specs.Str.Parse.{IsNumeral, digits_value}
use Rattle.xet_core_structures.specs.declared.file_structs.HashRow.{HashRow}
use Rattle.xet_core_structures.specs.declared.merklehash.DataHash.{DataHash}
use Rattle.xet_core_structures.specs.Hash.{words_of}
use Rattle.xet_core_structures.specs.Hex.{IsHexText, Spells}

-- an empty line, or one that begins with `#`
abbrev pub IsSkipped : List ℕ → Type 0
IsSkipped line = (line ≡ []) ⊎ (slice_index line 0 ≡ 35)

-- a line without this byte at its end
abbrev pub without_last : ℕ → List ℕ → List ℕ
without_last byte line =
    if slice_index line (length line - 1) == byte then take (length line - 1) line else line

-- a byte of a word that is no parenthesis: neither space nor parenthesis
abbrev pub IsWordByte : ℕ → Type 0
IsWordByte byte = (byte ≢ 32) × (byte ≢ 40) × (byte ≢ 41)

-- a word ends before such a rest of its line: the rest is empty, or begins with a space or a
-- parenthesis
abbrev pub EndsWord : List ℕ → Type 0
EndsWord [] = ⊤
EndsWord (byte ∷ rest) = ¬ IsWordByte byte

-- the last byte of a part of a line is a space or a parenthesis
abbrev pub EndsInSeparator : List ℕ → Type 0
EndsInSeparator part =
    (front : List ℕ) × (byte : ℕ) × (part ≡ front ++ byte ∷ []) × ¬ IsWordByte byte

-- a word is `(` or `)`
abbrev pub IsParenthesis : List ℕ → Type 0
IsParenthesis word = (word ≡ 40 ∷ []) ⊎ (word ≡ 41 ∷ [])

-- a word before the rest of its line: a parenthesis, or word bytes up to the first other one
abbrev pub IsWordBefore : List ℕ → List ℕ → Type 0
IsWordBefore word rest =
    IsParenthesis word ⊎ ((0 < length word) × All IsWordByte word × EndsWord rest)

-- the words of a line: spaces alone have none; after spaces stand a word and a rest, and the other
-- words are those of the rest
abbrev pub AreWordsOf : List ℕ → List (List ℕ) → Type 0
AreWordsOf line [] = All (λ byte. byte ≡ 32) line
AreWordsOf line (word ∷ words) =
    (spaces : ℕ) × (rest : List ℕ) × (line ≡ replicate spaces 32 ++ (word ++ rest))
    × IsWordBefore word rest × AreWordsOf rest words

-- an ASCII digit or letter, or `_`
abbrev pub IsNameByte : ℕ → Type 0
IsNameByte byte = IsInRange 48 57 byte ⊎ IsInRange 65 90 byte ⊎ IsInRange 97 122 byte ⊎ (byte ≡ 95)

-- 1 to 32 ASCII digits, letters and `_`
abbrev pub IsName : List ℕ → Type 0
IsName word = (1 ≤ length word) × (length word ≤ 32) × All IsNameByte word

-- a decimal number of at most this many bits, without a sign
abbrev pub IsNumber : ℕ → List ℕ → Type 0
IsNumber bits word = IsNumeral 10 word × (digits_value 10 word < 2 ^ bits)

-- the words of the small hash n
abbrev pub small_words : ℕ → List ℕ
small_words n = n ∷ 1 ∷ 0 ∷ 0 ∷ []

-- a word spells a hash: it has the hash's 64 digits, or else is the number of a small hash
abbrev pub SpellsHash : List ℕ → DataHash → Type 0
SpellsHash word hash =
    (IsHexText word × Spells word hash)
    ⊎ ((¬ IsHexText word) × IsNumber 64 word
    × (words_of hash ≡ small_words (digits_value 10 word)))

-- the parts of a list, which stand between its commas; the empty list has none
abbrev pub parts_of : List ℕ → List (List ℕ)
parts_of [] = []
parts_of (byte ∷ bytes) = slice_split (λ b. b == 44) (byte ∷ bytes)

-- a list spells hashes, each by the part at its place
abbrev pub ListsHashes : List ℕ → List DataHash → Type 0
ListsHashes list hashes = AllZip SpellsHash (parts_of list) hashes

-- the verification row of a hash, with zero reserved words
abbrev pub verification_of : DataHash → HashRow
verification_of hash = record { hash = hash; _unused = 0 ∷ 0 ∷ [] }

-- a list spells verification rows, those of the hashes that it spells
abbrev pub ListsVerification : List ℕ → List HashRow → Type 0
ListsVerification list rows =
    (hashes : List DataHash) × ListsHashes list hashes × (rows ≡ map verification_of hashes)
