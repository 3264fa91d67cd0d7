-- Worked values of the definitions of hashes.
use Rattle.std.proofs.Common.{◌≡◌, [], ◌∷◌, refl}
use Rattle.xet_base.specs.declared.merklehash.DataHash.{DataHash}
use Rattle.xet_base.specs.Bytes.{u64_bytes}
use Rattle.xet_base.specs.Hash.{hash_bytes}
use Rattle.xet_base.specs.Hex.{hex_digits, hash_hex}

-- the words 100, 1, 0 and 0
abbrev small_hash : DataHash
small_hash = record { word0 = 100; word1 = 1; word2 = 0; word3 = 0 }

pub bytes_of_small : hash_bytes small_hash
    ≡ 100 ∷ 0 ∷ 0 ∷ 0 ∷ 0 ∷ 0 ∷ 0 ∷ 0 ∷ 1 ∷ 0 ∷ 0 ∷ 0 ∷ 0 ∷ 0 ∷ 0 ∷ 0 ∷ 0 ∷ 0 ∷ 0 ∷ 0 ∷ 0 ∷ 0 ∷ 0 ∷ 0 ∷ 0 ∷ 0 ∷ 0 ∷ 0 ∷ 0 ∷ 0 ∷ 0 ∷ 0 ∷ []
unfolding hash_bytes u64_bytes
bytes_of_small = refl

-- a hash of four full words
abbrev full_hash : DataHash
full_hash = record { word0 = 15457280828836065046; word1 = 17481007698929162686; word2 = 7156389106548758220; word3 = 5662687109606101151 }

pub bytes_of_full : hash_bytes full_hash
    ≡ 22 ∷ 175 ∷ 58 ∷ 132 ∷ 4 ∷ 75 ∷ 131 ∷ 214 ∷ 190 ∷ 153 ∷ 138 ∷ 66 ∷ 226 ∷ 3 ∷ 153 ∷ 242 ∷ 204 ∷ 86 ∷ 80 ∷ 234 ∷ 249 ∷ 153 ∷ 80 ∷ 99 ∷ 159 ∷ 80 ∷ 65 ∷ 138 ∷ 236 ∷ 231 ∷ 149 ∷ 78 ∷ []
unfolding hash_bytes u64_bytes
bytes_of_full = refl

-- `d6834b04843aaf16f29903e2428a99be635099f9ea5056cc4e95e7ec8a41509f`
pub hex_of_full : hash_hex full_hash
    ≡ 100 ∷ 54 ∷ 56 ∷ 51 ∷ 52 ∷ 98 ∷ 48 ∷ 52 ∷ 56 ∷ 52 ∷ 51 ∷ 97 ∷ 97 ∷ 102 ∷ 49 ∷ 54 ∷ 102 ∷ 50 ∷ 57 ∷ 57 ∷ 48 ∷ 51 ∷ 101 ∷ 50 ∷ 52 ∷ 50 ∷ 56 ∷ 97 ∷ 57 ∷ 57 ∷ 98 ∷ 101 ∷ 54 ∷ 51 ∷ 53 ∷ 48 ∷ 57 ∷ 57 ∷ 102 ∷ 57 ∷ 101 ∷ 97 ∷ 53 ∷ 48 ∷ 53 ∷ 54 ∷ 99 ∷ 99 ∷ 52 ∷ 101 ∷ 57 ∷ 53 ∷ 101 ∷ 55 ∷ 101 ∷ 99 ∷ 56 ∷ 97 ∷ 52 ∷ 49 ∷ 53 ∷ 48 ∷ 57 ∷ 102 ∷ []
unfolding hash_hex hex_digits
hex_of_full = refl

-- `0123456789abcdeffedcba987654321000000000000000000000000000000001`
abbrev rising_hash : DataHash
rising_hash = record { word0 = 81985529216486895; word1 = 18364758544493064720; word2 = 0; word3 = 1 }

pub hex_of_rising : hash_hex rising_hash
    ≡ 48 ∷ 49 ∷ 50 ∷ 51 ∷ 52 ∷ 53 ∷ 54 ∷ 55 ∷ 56 ∷ 57 ∷ 97 ∷ 98 ∷ 99 ∷ 100 ∷ 101 ∷ 102 ∷ 102 ∷ 101 ∷ 100 ∷ 99 ∷ 98 ∷ 97 ∷ 57 ∷ 56 ∷ 55 ∷ 54 ∷ 53 ∷ 52 ∷ 51 ∷ 50 ∷ 49 ∷ 48 ∷ 48 ∷ 48 ∷ 48 ∷ 48 ∷ 48 ∷ 48 ∷ 48 ∷ 48 ∷ 48 ∷ 48 ∷ 48 ∷ 48 ∷ 48 ∷ 48 ∷ 48 ∷ 48 ∷ 48 ∷ 48 ∷ 48 ∷ 48 ∷ 48 ∷ 48 ∷ 48 ∷ 48 ∷ 48 ∷ 48 ∷ 48 ∷ 48 ∷ 48 ∷ 48 ∷ 48 ∷ 49 ∷ []
unfolding hash_hex hex_digits
hex_of_rising = refl
