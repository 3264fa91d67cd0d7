-- The rows of tables, with row numbers raised by the rows of the records before.
use Rattle.std.specs.Prelude.{ℕ, ◌+◌}
use Rattle.xet_shards.specs.Write.Tables.{ChunkTableRow}

-- a row of the file table or the xorb table, with its row number raised
abbrev pub start_later : ℕ → ℕ × ℕ → ℕ × ℕ
start_later rows start = (start.0, rows + start.1)

-- a row of the chunk table, with its row number raised
abbrev pub chunk_row_later : ℕ → ChunkTableRow → ChunkTableRow
chunk_row_later rows row = record row { row = rows + row.row }
