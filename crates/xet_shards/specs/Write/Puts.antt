-- Bytes that are put into a slice which has room for them.
use Rattle.std.specs.Prelude.{◌≡◌, ℕ, ◌+◌, List, ◌++◌, length, take, drop}

-- bytes were put at an offset, `end` is the offset after them, and what is behind it stays
pub record Puts (old new : List ℕ) (at end : ℕ) (bytes : List ℕ) : Type 0 where
  pub end_is : end ≡ at + length bytes
  pub front : take end new ≡ take at old ++ bytes
  pub rest : drop end new ≡ drop end old
