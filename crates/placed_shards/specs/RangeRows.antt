-- The rows at which ranges of hashes begin and end in a section, as its lookup table has them.
use Rattle.std.specs.Prelude.{ℕ, zero, suc, ◌+◌, ◌-◌, ◌*◌, ◌/◌, Bool, nat_lt, min, List, length, take, drop, Option, None, Some, if◌then◌else◌}
use Rattle.xet_base.specs.declared.merklehash.DataHash.{DataHash}
use Rattle.xet_records.specs.Decoding.{u32_at, u64_at}
use Rattle.xet_records.specs.Limits.{MAX_ROWS}
use Rattle.xet_shards.specs.declared.shard_format.ends.info.MDBShardInfo.{MDBShardInfo}

module _ (passes : ℕ → Bool) where
  -- where bisection of the `size` numbers from `low` on ends, in so many steps at most: each goes
  -- on behind the middle one if that passes, else before it
  abbrev pub bisected : (steps low size : ℕ) → ℕ
  bisected zero low size = low
  bisected (suc steps) low zero = low
  bisected (suc steps) low (suc n) =
      let half = n / 2 in
      if passes (low + half) then bisected steps (low + (half + 1)) (n - half)
      else bisected steps low half

  -- where bisection of the numbers below one ends: if those that pass come first, behind them
  abbrev pub bisection : ℕ → ℕ
  bisection count = bisected count 0 count

-- the first word of a hash at an index of a file table or of a xorb table
abbrev pub word_in : List ℕ → ℕ → ℕ
word_in table i = u64_at table (12 * i)

-- the row of the section at an index of such a table
abbrev pub row_in : List ℕ → ℕ → ℕ
row_in table i = u32_at table (12 * i + 8)

-- the row beside the first word of a table that is not below this one, as bisection finds it, or
-- `last` at the end of the table
abbrev pub row_from : List ℕ → (word last : ℕ) → ℕ
row_from table word last =
    let count = length table / 12 in
    let place = bisection (λ i. nat_lt (word_in table i) word) count in
    if nat_lt place count then row_in table place else last

-- the row at which a range begins in a section, as its table has it: row 0 if it has no lower bound
abbrev pub first_row : List ℕ → (last : ℕ) → Option DataHash → ℕ
first_row table last None = 0
first_row table last (Some k) = row_from table k.word0 last

-- the row before which a range ends in a section, as its table has it: the last row if it has no
-- upper bound
abbrev pub end_row : List ℕ → (last : ℕ) → Option DataHash → ℕ
end_row table last None = last
end_row table last (Some k) = row_from table k.word0 last

-- the rows of a table at an offset, as far as they are in the bytes
abbrev pub table_rows : List ℕ → (offset count : ℕ) → List ℕ
table_rows bytes offset count = take (12 * count) (drop offset bytes)

-- the last row for which there is room between two offsets, if it fits 32 bits
abbrev pub last_row : (start end : ℕ) → ℕ
last_row start end = min ((end - start) / 48 - 1) MAX_ROWS

-- the file table that a footer names
abbrev pub file_table : List ℕ → MDBShardInfo → List ℕ
file_table bytes info =
    table_rows bytes info.metadata.file_lookup_offset info.metadata.file_lookup_num_entry

-- the xorb table that a footer names
abbrev pub xorb_table : List ℕ → MDBShardInfo → List ℕ
xorb_table bytes info =
    table_rows bytes info.metadata.xorb_lookup_offset info.metadata.xorb_lookup_num_entry

-- the last row of the file section, where its bookend is
abbrev pub last_file_row : MDBShardInfo → ℕ
last_file_row info = last_row info.metadata.file_info_offset info.metadata.xorb_info_offset

-- the last row of the xorb section, where its bookend is
abbrev pub last_xorb_row : MDBShardInfo → ℕ
last_xorb_row info = last_row info.metadata.xorb_info_offset info.metadata.file_lookup_offset
