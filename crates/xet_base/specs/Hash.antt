-- A hash: its words, its order and its bytes.
use Rattle.std.specs.Prelude.{◌≡◌, ℕ, ◌%◌, ◌^◌, ◌<◌, ◌==◌, ◌&&◌, Bool, List, [], ◌∷◌, ◌++◌}
use Rattle.std.specs.Ordering.{nat_cmp, ordering_then}
use Rattle.std.specs.declared.cmp.Ordering.{Ordering}
use Rattle.xet_base.specs.declared.merklehash.DataHash.{DataHash}
use Rattle.xet_base.specs.Bytes.{u64_bytes}

-- each word of a hash is below 2 ^ 64, which a definition has to say, since its numbers are
-- unbounded
pub record IsHash (hash : DataHash) : Type 0 where
  pub word0 : hash.word0 < 2 ^ 64
  pub word1 : hash.word1 < 2 ^ 64
  pub word2 : hash.word2 < 2 ^ 64
  pub word3 : hash.word3 < 2 ^ 64

-- the four words of a hash in order
abbrev pub words_of : DataHash → List ℕ
words_of hash = hash.word0 ∷ hash.word1 ∷ hash.word2 ∷ hash.word3 ∷ []

-- the order of hashes: by word 0, then 1, 2 and 3
abbrev pub hash_cmp : DataHash → DataHash → Ordering
hash_cmp a b =
    ordering_then (nat_cmp a.word0 b.word0) (ordering_then (nat_cmp a.word1 b.word1)
    (ordering_then (nat_cmp a.word2 b.word2) (nat_cmp a.word3 b.word3)))

-- two hashes have equal words
abbrev pub hash_eq : DataHash → DataHash → Bool
hash_eq a b =
    (a.word0 == b.word0) && ((a.word1 == b.word1) && ((a.word2 == b.word2) && (a.word3 == b.word3)))

-- the 32 bytes of a hash: its words in order, each lowest byte first
unfoldable pub hash_bytes : DataHash → List ℕ
hash_bytes hash =
    ((u64_bytes hash.word0 ++ u64_bytes hash.word1) ++ u64_bytes hash.word2) ++ u64_bytes hash.word3

-- the hash that marks the end of a section
abbrev pub all_ones : DataHash
all_ones =
    record {
      word0 = 18446744073709551615;
      word1 = 18446744073709551615;
      word2 = 18446744073709551615;
      word3 = 18446744073709551615;
    }

-- the global index keeps a chunk with this hash: word 3 is a multiple of 1024
abbrev pub IsEligible : DataHash → Type 0
IsEligible hash = hash.word3 % 1024 ≡ 0
