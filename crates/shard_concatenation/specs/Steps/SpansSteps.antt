-- Steps towards a span of a concatenation, which only contracts inside the crate speak of.
use Rattle.std.specs.Prelude.{◌≡◌, ◌⊎◌, ℕ, ◌+◌, ◌≤◌, List, [], ◌++◌, length, take, drop}
use Rattle.shard_concatenation.specs.declared.spans.ChunkSpan.{ChunkSpan}

-- what a span of so many bytes from an offset on has of the bytes that were put so far
abbrev pub within_span : (from count : ℕ) → List ℕ → List ℕ
within_span from count bytes = take count (drop from bytes)

-- a slice has at its front what the span from an offset on has of these bytes
abbrev pub HoldsSpan : ℕ → List ℕ → List ℕ → Type 0
HoldsSpan from bytes slice =
    take (length (within_span from (length slice) bytes)) slice
    ≡ within_span from (length slice) bytes

-- these are rows of a chunk table that begins at an offset, and all that the span from one offset of
-- the whole up to another has of it
pub record IsChunkSpan (table : List ℕ) (start from until : ℕ) (chunks : ChunkSpan) : Type 0 where
  pub front : List ℕ
  pub back : List ℕ
  pub table_is : table ≡ (front ++ chunks.rows.items) ++ back
  pub before_is : chunks.before ≡ length front
  pub front_out : (front ≡ []) ⊎ (start + length front ≤ from)
  pub back_out : (back ≡ []) ⊎ (until ≤ start + length (front ++ chunks.rows.items))
