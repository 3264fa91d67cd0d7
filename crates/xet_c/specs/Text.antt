-- Hashes and their texts, and hashes under a key.
use Rattle.std.specs.Prelude.{◌≡◌, ◌⊎◌, ℕ, List}
use Rattle.xet_core_structures.specs.declared.merklehash.DataHash.{DataHash}
use Rattle.xet_c.specs.declared.hash.XetHash.{XetHash}
use Rattle.xet_c.specs.Arguments.{c_hash}

-- a text is that of the hash with these words
abbrev pub WritesTextOf : (DataHash → List ℕ) → XetHash → List ℕ → Type 0
WritesTextOf text_of words text = (h : DataHash) × (c_hash h ≡ words) × (text ≡ text_of h)

-- the hash that a text names was read; or the text is of another form, the answer is this error,
-- and the hash stays
abbrev pub Reads : (List ℕ → DataHash → Type 0) → (List ℕ → Type 0) → List ℕ → ℕ
    → (old new : XetHash) → ℕ → Type 0
Reads Names HasForm text error old new answer =
    ((h : DataHash) × Names text h × (new ≡ c_hash h) × (answer ≡ 0))
    ⊎ ((¬ HasForm text) × (new ≡ old) × (answer ≡ error))

-- the hash that a key with these words gives was written
abbrev pub Hashes : (DataHash → DataHash) → XetHash → XetHash → ℕ → Type 0
Hashes Of key new answer = (k : DataHash) × (c_hash k ≡ key) × (new ≡ c_hash (Of k)) × (answer ≡ 0)
