-- Numbers as bytes, lowest byte first, how many bytes a reader is known to have, and bytes that an
-- input passes.
use Rattle.std.specs.Prelude.{◌≡◌, ℕ, ◌<◌, ◌≤◌, List, length, slice_index, Option, Some, None, ⊤}
use Rattle.std.specs.Int.{to_le_bytes, from_le_bytes, w32, w64}

-- the four bytes of a number below 2 ^ 32
unfoldable pub u32_bytes : ℕ → List ℕ
u32_bytes n = to_le_bytes w32 n

-- the eight bytes of a number below 2 ^ 64
unfoldable pub u64_bytes : ℕ → List ℕ
u64_bytes n = to_le_bytes w64 n

-- the number that eight bytes spell, lowest byte first
unfoldable pub u64_from_bytes : List ℕ → ℕ
u64_from_bytes bytes = from_le_bytes w64 bytes

-- a reader has at least n bytes, if its bytes are known
abbrev pub HasBytes : Option (List ℕ) → ℕ → Type 0
HasBytes None n = ⊤
HasBytes (Some bytes) n = n ≤ length bytes

-- a reader has fewer than n bytes, if its bytes are known
abbrev pub LacksBytes : Option (List ℕ) → ℕ → Type 0
LacksBytes None n = ⊤
LacksBytes (Some bytes) n = length bytes < n

-- each number of a list is a byte
abbrev pub AreBytes : List ℕ → Type 0
AreBytes bytes = (i : ℕ) → slice_index bytes i < 256

-- an input took so many bytes
pub record ReadsThrough (Took : List ℕ → Type 0) (count : ℕ) : Type 0 where
  pub passed : List ℕ
  pub bytes : AreBytes passed
  pub len : length passed ≡ count
  pub taken : Took passed
