-- BLAKE3's keyed mode step by step, and that on 32 bytes it is the keyed hash of one block.
use Rattle.std.proofs.Common.{◌≡◌, ℕ, zero, suc, ◌+◌, ◌-◌, ◌*◌, ◌/◌, ◌^◌, ◌<◌, ◌≤◌, nat_le, Bool, true, false, if◌then◌else◌, List, [], ◌∷◌, ◌++◌, length, take, drop, flat_map, slice_index, refl, sym, ap, ap₂, ◌∙◌, arith, subst, le_trans}
use Rattle.std.proofs.Math.ListN.{get_or-eq_default}
use Rattle.std.proofs.Math.Numerals.{add-one}
use Rattle.std.specs.Int.{from_le_bytes, w32}
use Rattle.std.proofs.Math.Nat.{pow-le-pow_right, pow-suc}
use Rattle.std.proofs.lemmas.Bool.{le-leb, lt-leb}
use Rattle.std.proofs.lemmas.Nat.{pow_pos}
use Rattle.xet_base.specs.declared.merklehash.DataHash.{DataHash}
use Rattle.xet_base.specs.Bytes.{u32_bytes}
use Rattle.xet_base.specs.Hash.{hash_bytes}
use Rattle.xet_base.specs.KeyedHash.{hash_of, hmac, keyed_bytes, digest, state_after, initial_state, message_of, words_before, word_at}
use Rattle.xet_base.specs.Blake3.{chunk_end_flag, root_flag, xor_halves, chaining_value, block_at, block_flags, after_blocks, chunk_words, parent_words, tree_words, blake3_bytes, keyed_hash}
use Rattle.xet_base.proofs.Bytes.{length-hash_bytes}

-- what holds of each list of eight elements
for_eight : (P : List ℕ → Type 0) → ((a b c d e f g h : ℕ) → P (a ∷ b ∷ c ∷ d ∷ e ∷ f ∷ g ∷ h ∷ [])) → (xs : List ℕ) → length xs ≡ 8 → P xs
for_eight P p (a ∷ b ∷ c ∷ d ∷ e ∷ f ∷ g ∷ h ∷ []) len = p a b c d e f g h
for_eight P p [] len = absurd (omega (arith, len))
for_eight P p (a ∷ []) len = absurd (omega (arith, len))
for_eight P p (a ∷ b ∷ []) len = absurd (omega (arith, len))
for_eight P p (a ∷ b ∷ c ∷ []) len = absurd (omega (arith, len))
for_eight P p (a ∷ b ∷ c ∷ d ∷ []) len = absurd (omega (arith, len))
for_eight P p (a ∷ b ∷ c ∷ d ∷ e ∷ []) len = absurd (omega (arith, len))
for_eight P p (a ∷ b ∷ c ∷ d ∷ e ∷ f ∷ []) len = absurd (omega (arith, len))
for_eight P p (a ∷ b ∷ c ∷ d ∷ e ∷ f ∷ g ∷ []) len = absurd (omega (arith, len))
for_eight P p (a ∷ b ∷ c ∷ d ∷ e ∷ f ∷ g ∷ h ∷ i ∷ xs) len = absurd (omega (arith, len))

abbrev first_eight : List ℕ → List ℕ
first_eight v =
    slice_index v 0 ∷ slice_index v 1 ∷ slice_index v 2 ∷ slice_index v 3 ∷ slice_index v 4 ∷ slice_index v 5 ∷ slice_index v 6 ∷ slice_index v 7 ∷ []

pub are_eight : (v : List ℕ) → length v ≡ 8 → first_eight v ≡ v
are_eight = for_eight (λ v. first_eight v ≡ v) (λ a b c d e f g h. refl)

-- eight words as bytes, one after another
abbrev side_by_side : List ℕ → List ℕ
side_by_side v =
    let word : ℕ → List ℕ = λ i. u32_bytes (slice_index v i) in
    ((((((word 0 ++ word 1) ++ word 2) ++ word 3) ++ word 4) ++ word 5) ++ word 6) ++ word 7

pub bytes_of_eight : (v : List ℕ) → length v ≡ 8 → side_by_side v ≡ flat_map u32_bytes v
unfolding u32_bytes
bytes_of_eight = for_eight (λ v. side_by_side v ≡ flat_map u32_bytes v) (λ a b c d e f g h. refl)

-- the sixteen words of a block that was read
pub block_is : (w bytes : List ℕ) (n : ℕ) → w ≡ block_at bytes n
    → slice_index w 0 ∷ slice_index w 1 ∷ slice_index w 2 ∷ slice_index w 3 ∷ slice_index w 4 ∷ slice_index w 5 ∷ slice_index w 6 ∷ slice_index w 7
    ∷ slice_index w 8 ∷ slice_index w 9 ∷ slice_index w 10 ∷ slice_index w 11 ∷ slice_index w 12 ∷ slice_index w 13 ∷ slice_index w 14 ∷ slice_index w 15 ∷ []
    ≡ block_at bytes n
unfolding block_at
block_is w bytes n is = λ i.
    slice_index (is i) 0 ∷ slice_index (is i) 1 ∷ slice_index (is i) 2 ∷ slice_index (is i) 3 ∷ slice_index (is i) 4 ∷ slice_index (is i) 5 ∷ slice_index (is i) 6 ∷ slice_index (is i) 7
    ∷ slice_index (is i) 8 ∷ slice_index (is i) 9 ∷ slice_index (is i) 10 ∷ slice_index (is i) 11 ∷ slice_index (is i) 12 ∷ slice_index (is i) 13 ∷ slice_index (is i) 14 ∷ slice_index (is i) 15 ∷ []

pub no_blocks : (key : List ℕ) (t : ℕ) (bytes : List ℕ) → key ≡ after_blocks key t bytes 0
unfolding after_blocks
no_blocks key t bytes = refl

pub block_more : (key : List ℕ) (t : ℕ) (bytes : List ℕ) (n : ℕ)
    → chaining_value (after_blocks key t bytes n) (block_at bytes n) t 64 (block_flags n) ≡ after_blocks key t bytes (n + 1)
unfolding after_blocks
block_more key t bytes n = sym (ap (after_blocks key t bytes) (add-one n))

-- a chunk after its whole blocks
pub chunk_is : (key : List ℕ) (t top : ℕ) (bytes words block : List ℕ) (n whole len flags : ℕ) → whole ≡ (length bytes - 1) / 64 → n ≡ whole
    → words ≡ after_blocks key t bytes n → block ≡ block_at bytes whole → len ≡ length bytes - 64 * whole → flags ≡ block_flags whole
    → chaining_value words block t len (flags + 2 + top) ≡ chunk_words key t top bytes
unfolding chunk_words
chunk_is key t top bytes words block n whole len flags whole_is n_is words_are block_is len_is flags_are =
    let all : words ≡ after_blocks key t bytes whole = words_are ∙ ap (after_blocks key t bytes) n_is in
    (λ i. chaining_value (all i) (block_is i) t (len_is i) (flags_are i + 2 + top))
    ∙ ap (λ m. chaining_value (after_blocks key t bytes m) (block_at bytes m) t (length bytes - 64 * m) (block_flags m + chunk_end_flag + top)) whole_is

-- a chunk of 1024 bytes
pub whole_chunk : (key : List ℕ) (t u : ℕ) (bytes words block : List ℕ) (n flags : ℕ) → length bytes ≡ 1024 → n ≡ 15 → u ≡ t
    → words ≡ after_blocks key u bytes n → block ≡ block_at bytes 15 → flags ≡ 16
    → chaining_value words block u 64 (flags + 2) ≡ chunk_words key t 0 bytes
whole_chunk key t u bytes words block n flags len n_is t_is words_are block_is flags_are =
    let flags_add : flags + 2 ≡ flags + 2 + 0 = omega arith in
    ap (chaining_value words block u 64) flags_add
    ∙ chunk_is key u 0 bytes words block n 15 64 flags (ap (λ l. (l - 1) / 64) (sym len)) n_is words_are block_is (omega (arith, len)) flags_are
    ∙ ap (λ v. chunk_words key v 0 bytes) t_is

pub leaf_is_chunk : (key : List ℕ) (n t top : ℕ) (bytes : List ℕ) → n ≡ 0 → chunk_words key t top bytes ≡ tree_words key n t top bytes
unfolding tree_words
leaf_is_chunk key n t top bytes is = ap (λ m. tree_words key m t top bytes) (sym is)

cond_true : {A : Type 0} (b : Bool) (x y : A) → b ≡ true → x ≡ (if b then x else y)
cond_true b x y is = ap (λ c. if c then x else y) (sym is)

cond_false : {A : Type 0} (b : Bool) (x y : A) → b ≡ false → y ≡ (if b then x else y)
cond_false b x y is = ap (λ c. if c then x else y) (sym is)

-- a tree of at most half as many chunks, and one of more
pub half_is_tree : (key : List ℕ) (n m t top : ℕ) (bytes : List ℕ) → n ≡ m + 1 → length bytes ≤ 1024 * 2 ^ m
    → tree_words key m t top bytes ≡ tree_words key n t top bytes
unfolding tree_words
half_is_tree key n m t top bytes is fits =
    cond_true (nat_le (length bytes) (1024 * 2 ^ m)) (tree_words key m t top bytes)
    (parent_words key top (tree_words key m t 0 (take (1024 * 2 ^ m) bytes)) (tree_words key m (t + 2 ^ m) 0 (drop (1024 * 2 ^ m) bytes)))
    (le-leb (length bytes) (1024 * 2 ^ m) fits)
    ∙ sym (ap (λ k. tree_words key k t top bytes) (is ∙ add-one m))

pub parent_is_tree : (key : List ℕ) (n m t top : ℕ) (bytes : List ℕ) → n ≡ m + 1 → 1024 * 2 ^ m < length bytes
    → parent_words key top (tree_words key m t 0 (take (1024 * 2 ^ m) bytes)) (tree_words key m (t + 2 ^ m) 0 (drop (1024 * 2 ^ m) bytes))
    ≡ tree_words key n t top bytes
unfolding tree_words
parent_is_tree key n m t top bytes is more =
    cond_false (nat_le (length bytes) (1024 * 2 ^ m)) (tree_words key m t top bytes)
    (parent_words key top (tree_words key m t 0 (take (1024 * 2 ^ m) bytes)) (tree_words key m (t + 2 ^ m) 0 (drop (1024 * 2 ^ m) bytes)))
    (lt-leb (length bytes) (1024 * 2 ^ m) more)
    ∙ sym (ap (λ k. tree_words key k t top bytes) (is ∙ add-one m))

-- two parts, of which the first is half a tree
pub parts_are : (key : List ℕ) (n m t top half : ℕ) (bytes front rest left right : List ℕ) → n ≡ m + 1 → half ≡ 2 ^ m → 1024 * half < length bytes
    → front ≡ take (1024 * half) bytes → rest ≡ drop (1024 * half) bytes
    → left ≡ tree_words key m t 0 front → right ≡ tree_words key m (t + half) 0 rest
    → parent_words key top left right ≡ tree_words key n t top bytes
parts_are key n m t top half bytes front rest left right is half_is more front_is rest_is left_is right_is =
    let is_left : left ≡ tree_words key m t 0 (take (1024 * 2 ^ m) bytes) =
    left_is ∙ ap (tree_words key m t 0) (front_is ∙ ap (λ h. take (1024 * h) bytes) half_is) in
    let is_right : right ≡ tree_words key m (t + 2 ^ m) 0 (drop (1024 * 2 ^ m) bytes) =
    right_is ∙ ap (tree_words key m (t + half) 0) rest_is ∙ ap (λ h. tree_words key m (t + h) 0 (drop (1024 * h) bytes)) half_is in
    ap₂ (parent_words key top) is_left is_right ∙ parent_is_tree key n m t top bytes is (subst (λ h. 1024 * h < length bytes) half_is more)

-- four chunks
pub four_are : (key : List ℕ) (t top : ℕ) (bytes front back a b c d : List ℕ) → length bytes ≡ 4096 → front ≡ take 2048 bytes → back ≡ drop 2048 bytes
    → length front ≡ 2048 → length back ≡ 2048
    → a ≡ take 1024 front → b ≡ drop 1024 front → c ≡ take 1024 back → d ≡ drop 1024 back
    → parent_words key top (parent_words key 0 (chunk_words key t 0 a) (chunk_words key (t + 1) 0 b))
    (parent_words key 0 (chunk_words key (t + 2) 0 c) (chunk_words key (t + 3) 0 d))
    ≡ tree_words key 2 t top bytes
four_are key t top bytes front back a b c d len front_is back_is front_len back_len a_is b_is c_is d_is =
    let later : t + 3 ≡ t + 2 + 1 = omega arith in
    parts_are key 2 1 t top 2 bytes front back _ _ refl refl (omega (arith, len)) front_is back_is
    (parts_are key 1 0 t 0 1 front a b _ _ refl refl (omega (arith, front_len)) a_is b_is (leaf_is_chunk key 0 t 0 a refl) (leaf_is_chunk key 0 (t + 1) 0 b refl))
    (parts_are key 1 0 (t + 2) 0 1 back c d _ _ refl refl (omega (arith, back_len)) c_is d_is (leaf_is_chunk key 0 (t + 2) 0 c refl)
    (ap (λ n. chunk_words key n 0 d) later ∙ leaf_is_chunk key 0 (t + 2 + 1) 0 d refl))

-- the size of a tree
pub fits_53 : (n : ℕ) → n < 54 → 2 ^ n ≤ 9007199254740992
fits_53 n below = pow-le-pow_right {n = 2} (omega arith) {i = n} {j = 53} (omega (arith, below))

pub pow-double : (n m : ℕ) → n ≡ m + 1 → 2 ^ n ≡ 2 ^ m + 2 ^ m
pow-double n m is = ap (λ k. 2 ^ k) (is ∙ add-one m) ∙ omega (arith, pow-suc 2 m)

-- one chunk is a tree of any level
one_chunk : (key : List ℕ) (n t top : ℕ) (bytes : List ℕ) → length bytes ≤ 1024 → tree_words key n t top bytes ≡ chunk_words key t top bytes
one_chunk key zero t top bytes fits = sym (leaf_is_chunk key 0 t top bytes refl)
one_chunk key (suc n) t top bytes fits =
    sym (half_is_tree key (suc n) n t top bytes (sym (add-one n)) (omega (arith, fits, pow_pos n))) ∙ one_chunk key n t top bytes fits

-- a tree with room to spare
taller_tree_is_same : (key : List ℕ) (d n t top : ℕ) (bytes : List ℕ) → length bytes ≤ 1024 * 2 ^ n → tree_words key n t top bytes ≡ tree_words key (d + n) t top bytes
taller_tree_is_same key zero n t top bytes fits = let same : n ≡ 0 + n = omega arith in ap (λ m. tree_words key m t top bytes) same
taller_tree_is_same key (suc d) n t top bytes fits =
    taller_tree_is_same key d n t top bytes fits
    ∙ half_is_tree key (suc d + n) (d + n) t top bytes (omega arith) (le_trans fits (omega (arith, pow-le-pow_right {n = 2} (omega arith) {i = n} {j = d + n} (omega arith))))

pub whole_tree : (key : List ℕ) (level : ℕ) (bytes : List ℕ) → level ≤ 54 → length bytes ≤ 1024 * 2 ^ level
    → tree_words key level 0 root_flag bytes ≡ tree_words key 54 0 root_flag bytes
whole_tree key level bytes few fits =
    taller_tree_is_same key (54 - level) level 0 root_flag bytes fits ∙ ap (λ n. tree_words key n 0 root_flag bytes) (omega (arith, few))

digest_is : (v : List ℕ) → digest v ≡ flat_map u32_bytes (xor_halves v)
unfolding digest xor_halves u32_bytes
digest_is v = refl

-- the last of the words of 32 bytes as a block: there are no bytes for them
no_word : (bytes : List ℕ) (i : ℕ) → length bytes ≤ 4 * i → word_at bytes i ≡ 0
unfolding word_at
no_word bytes i past = λ k.
    from_le_bytes w32 (get_or-eq_default bytes 0 {n = 4 * i} past k ∷ get_or-eq_default bytes 0 {n = 4 * i + 1} (omega (arith, past)) k
    ∷ get_or-eq_default bytes 0 {n = 4 * i + 2} (omega (arith, past)) k ∷ get_or-eq_default bytes 0 {n = 4 * i + 3} (omega (arith, past)) k ∷ [])

message_is : (bytes : List ℕ) → length bytes ≡ 32 → block_at bytes 0 ≡ message_of bytes
unfolding block_at
message_is bytes len = λ k.
    words_before bytes (no_word bytes 8 (omega (arith, len)) k ∷ no_word bytes 9 (omega (arith, len)) k ∷ no_word bytes 10 (omega (arith, len)) k
    ∷ no_word bytes 11 (omega (arith, len)) k ∷ no_word bytes 12 (omega (arith, len)) k ∷ no_word bytes 13 (omega (arith, len)) k
    ∷ no_word bytes 14 (omega (arith, len)) k ∷ no_word bytes 15 (omega (arith, len)) k ∷ [])

-- 32 bytes are one block, which is the first and the last of its chunk and of the tree
one_block : (key bytes : List ℕ) → length bytes ≡ 32 → chunk_words key 0 root_flag bytes ≡ chaining_value key (block_at bytes 0) 0 32 27
unfolding chunk_words after_blocks
one_block key bytes len =
    ap (λ l. chaining_value (after_blocks key 0 bytes ((l - 1) / 64)) (block_at bytes ((l - 1) / 64)) 0 (l - 64 * ((l - 1) / 64)) (block_flags ((l - 1) / 64) + chunk_end_flag + root_flag)) len

keyed_32 : (key bytes : List ℕ) → length bytes ≡ 32 → keyed_bytes key bytes ≡ blake3_bytes key bytes
unfolding keyed_bytes blake3_bytes chaining_value
keyed_32 key bytes len =
    let words = words_before key [] in
    digest_is (state_after 7 (initial_state key) (message_of bytes))
    ∙ ap (λ m. flat_map u32_bytes (xor_halves (state_after 7 (initial_state key) m))) (sym (message_is bytes len))
    ∙ ap (flat_map u32_bytes) (sym (one_chunk words 54 0 root_flag bytes (omega (arith, len)) ∙ one_block words bytes len))

-- the keyed hash of a hash is the keyed hash of its bytes
pub hmac_is_keyed : (key hash : DataHash) → hmac key hash ≡ keyed_hash key (hash_bytes hash)
hmac_is_keyed key hash = ap hash_of (keyed_32 (hash_bytes key) (hash_bytes hash) (length-hash_bytes hash))
