-- Steps towards cuts through chunk tables at words, which only contracts inside the crate speak of.
use Rattle.std.specs.Prelude.{◌≡◌, ◌⊎◌, ◌+◌, ◌≤◌, ◌^◌, ℕ, length, Bool, true, not, nat_lt, List, map, filter, flat_map, take, drop, All, Option, Some, None}
use Rattle.shard_concatenation.specs.declared.chunk_merging.Cursor.{Cursor}
use Rattle.shard_concatenation.specs.Steps.ChunkMerging.{HoldsRows, rows_held}
use Rattle.xet_shards.specs.declared.shard_format.write.xorb_writer.ChunkTableRow.{ChunkTableRow}

-- a row is before the cut at a word: the first word of its hash is below it
abbrev pub is_before : ℕ → ChunkTableRow → Bool
is_before word row = nat_lt row.word word

abbrev pub is_behind : ℕ → ChunkTableRow → Bool
is_behind word row = not (is_before word row)

-- the rows before the cut at a word, and those behind it
abbrev pub rows_before : ℕ → List ChunkTableRow → List ChunkTableRow
rows_before word = filter (is_before word)

abbrev pub rows_behind : ℕ → List ChunkTableRow → List ChunkTableRow
rows_behind word = filter (is_behind word)

-- where there is no word, the cut is at the end
abbrev pub is_until : Option ℕ → ChunkTableRow → Bool
is_until None row = true
is_until (Some word) row = is_before word row

-- the rows from one cut to another
abbrev pub rows_between : ℕ → Option ℕ → List ChunkTableRow → List ChunkTableRow
rows_between low high rows = filter (is_until high) (rows_behind low rows)

-- the number that the words of all rows before a cut are below
abbrev pub end_of : Option ℕ → ℕ
end_of None = 2 ^ 64
end_of (Some word) = word

-- two cuts have no more rows between them than there are tables, or those with one word alone
abbrev pub AreClose : (tables low : ℕ) → Option ℕ → List ChunkTableRow → Type 0
AreClose tables low high rows = (length (rows_between low high rows) ≤ tables) ⊎ (end_of high ≡ low + 1)

-- so many rows of a table are before the cut, and the others behind it
pub record IsCut (word : ℕ) (rows : List ChunkTableRow) (count : ℕ) : Type 0 where
  pub front : take count rows ≡ rows_before word rows
  pub back : drop count rows ≡ rows_behind word rows

-- cursors have these rows before them, with row numbers counted from the start of the section of all parts
pub record HoldInTables (rows : List ChunkTableRow) (cursors : List Cursor) : Type 0 where
  pub held : List (Cursor × List ChunkTableRow)
  pub cursors_are : map (λ h. h.0) held ≡ cursors
  pub hold : All HoldsRows held
  pub rows_are : flat_map rows_held held ≡ rows
