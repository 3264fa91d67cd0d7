-- BLAKE3's keyed mode, for bytes of any length. The bytes are cut into chunks of 1024 bytes, and a chunk
-- into blocks of 64. The chunks are the leaves of a binary tree. A key is eight words of 32 bits, and so is
-- the chaining value of a chunk or of a node. Chunks are numbered from 0; t is the number of a chunk.
use Rattle.std.specs.Prelude.{ℕ, zero, suc, ◌+◌, ◌-◌, ◌*◌, ◌/◌, ◌%◌, ◌^◌, ◌==◌, nat_le, List, [], ◌∷◌, ◌++◌, length, take, drop, map, flat_map, bit_xor, slice_index, if◌then◌else◌}
use Rattle.xet_base.specs.declared.merklehash.DataHash.{DataHash}
use Rattle.xet_base.specs.Bytes.{u32_bytes}
use Rattle.xet_base.specs.Hash.{hash_bytes}
use Rattle.xet_base.specs.KeyedHash.{state_after, word_at, words_before, hash_of}

-- the flags of a block, which are added up: it is the first of its chunk, or the last; it holds two
-- chaining values; it is the last one of the tree's root; and the hash has a key
abbrev pub chunk_start_flag : ℕ
chunk_start_flag = 1

abbrev pub chunk_end_flag : ℕ
chunk_end_flag = 2

abbrev pub parent_flag : ℕ
parent_flag = 4

abbrev pub root_flag : ℕ
root_flag = 8

abbrev pub keyed_flag : ℕ
keyed_flag = 16

-- the sixteen words that a block is compressed into: the chaining value before it, four constants, the
-- counter in two words, the number of the block's bytes, and its flags
abbrev pub block_state : List ℕ → ℕ → ℕ → ℕ → List ℕ
block_state before counter len flags =
    before ++ (0x6A09E667 ∷ 0xBB67AE85 ∷ 0x3C6EF372 ∷ 0xA54FF53A ∷ counter % 2 ^ 32
    ∷ counter / 2 ^ 32 ∷ len ∷ flags ∷ [])

-- the first half of a state, combined with the second by exclusive or
unfoldable pub xor_halves : List ℕ → List ℕ
xor_halves v =
    map (λ i. bit_xor (slice_index v i) (slice_index v (i + 8)))
    (0 ∷ 1 ∷ 2 ∷ 3 ∷ 4 ∷ 5 ∷ 6 ∷ 7 ∷ [])

-- the chaining value after a block of sixteen words
unfoldable pub chaining_value : List ℕ → List ℕ → ℕ → ℕ → ℕ → List ℕ
chaining_value before block counter len flags =
    xor_halves (state_after 7 (block_state before counter len flags) block)

-- block n of the bytes as sixteen words, with zeros after the last byte
unfoldable pub block_at : List ℕ → ℕ → List ℕ
block_at bytes n =
    map (λ i. word_at bytes (16 * n + i))
    (0 ∷ 1 ∷ 2 ∷ 3 ∷ 4 ∷ 5 ∷ 6 ∷ 7 ∷ 8 ∷ 9 ∷ 10 ∷ 11 ∷ 12 ∷ 13 ∷ 14 ∷ 15 ∷ [])

-- the flags of block n of a chunk that has more blocks after it
abbrev pub block_flags : ℕ → ℕ
block_flags n = keyed_flag + (if n == 0 then chunk_start_flag else 0)

-- the chaining value after the first n blocks of chunk t
unfoldable pub after_blocks : List ℕ → ℕ → List ℕ → ℕ → List ℕ
after_blocks key t bytes zero = key
after_blocks key t bytes (suc n) =
    chaining_value (after_blocks key t bytes n) (block_at bytes n) t 64 (block_flags n)

-- the chaining value of chunk t: whole blocks, then a last one of up to 64 bytes, which is empty only if
-- the chunk is. `top` is the root's flag if the chunk is the whole tree, else 0
unfoldable pub chunk_words : List ℕ → ℕ → ℕ → List ℕ → List ℕ
chunk_words key t top bytes =
    let n = (length bytes - 1) / 64 in
    chaining_value (after_blocks key t bytes n) (block_at bytes n) t (length bytes - 64 * n)
    (block_flags n + chunk_end_flag + top)

-- the chaining value of a node, from those of its two subtrees
unfoldable pub parent_words : List ℕ → ℕ → List ℕ → List ℕ → List ℕ
parent_words key top left right = chaining_value key (left ++ right) 0 64 (keyed_flag + parent_flag + top)

-- the chaining value of the tree over at most 2 ^ level chunks, the first of which is chunk t. If they
-- are more than half as many, the left subtree has exactly half of 2 ^ level chunks: the largest power of
-- two that leaves some for the right one. `top` is the root's flag if this is the whole tree, else 0
unfoldable pub tree_words : List ℕ → ℕ → ℕ → ℕ → List ℕ → List ℕ
tree_words key zero t top bytes = chunk_words key t top bytes
tree_words key (suc n) t top bytes =
    if nat_le (length bytes) (1024 * 2 ^ n) then tree_words key n t top bytes
    else parent_words key top (tree_words key n t 0 (take (1024 * 2 ^ n) bytes))
    (tree_words key n (t + 2 ^ n) 0 (drop (1024 * 2 ^ n) bytes))

-- the 32 bytes of the keyed hash of at most 2 ^ 64 bytes
unfoldable pub blake3_bytes : List ℕ → List ℕ → List ℕ
blake3_bytes key bytes = flat_map u32_bytes (tree_words (words_before key []) 54 0 root_flag bytes)

-- the keyed hash of the bytes
abbrev pub keyed_hash : DataHash → List ℕ → DataHash
keyed_hash key bytes = hash_of (blake3_bytes (hash_bytes key) bytes)
