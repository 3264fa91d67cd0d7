-- The bar of a shard's parts.
use Rattle.std.specs.Prelude.{ℕ, ◌*◌, ◌/◌, ◌≤◌, List, map, nat_lt, if◌then◌else◌}
use Rattle.std.specs.List.{range_with_len}
use Rattle.mdb_report.specs.declared.parts_bar.Parts.{Parts}

-- the letter of the part in which a byte is: H header, F files, X xorbs, T tables, E footer
abbrev pub letter_of : Parts → ℕ → ℕ
letter_of parts offset =
    if nat_lt offset parts.header.end then 72
    else if nat_lt offset parts.files.end then 70
    else if nat_lt offset parts.xorbs.end then 88
    else if nat_lt offset parts.chunk_table.end then 84
    else 69

-- the first columns of a bar of 60, each with the letter of the byte at its place
abbrev pub columns : Parts → ℕ → ℕ → List ℕ
columns parts bytes count =
    map (λ column. letter_of parts (column * bytes / 60)) (range_with_len 0 count)

-- each part ends where the one before it ends or later, and none after the shard
pub record PartsAscend (parts : Parts) : Type 0 where
  pub files : parts.header.end ≤ parts.files.end
  pub xorbs : parts.files.end ≤ parts.xorbs.end
  pub file_table : parts.xorbs.end ≤ parts.file_table.end
  pub xorb_table : parts.file_table.end ≤ parts.xorb_table.end
  pub chunk_table : parts.xorb_table.end ≤ parts.chunk_table.end
  pub footer : parts.chunk_table.end ≤ parts.footer.end
