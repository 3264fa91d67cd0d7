-- What reading rows takes from an input, and what bytes spell. A type of rows has the bytes of a
-- stored row, the widths of its numbers, and the row that reading returns for a stored one; an
-- input says of some bytes that it took them.
use Rattle.std.specs.Prelude.{◌≡◌, ℕ, ◌*◌, Bool, List, length, take, map, flat_map, All, Option, is_some, IfSome, option_map, option_to_list, if◌then◌else◌}
use Rattle.std.specs.Io.KnownBytes.{Appends, Consumes}
use Rattle.std.specs.IoError.{error_kind}
use Rattle.std.specs.declared.io.Error.{Error}
use Rattle.std.specs.declared.io.ErrorKind.TheVariants.{UnexpectedEof}
use Rattle.xet_base.specs.Bytes.{HasBytes, LacksBytes}

-- a row has the 48 bytes at the front of some bytes, and its numbers are within their widths
pub record Spells {T : Type 0} (row_bytes : T → List ℕ) (Fits : T → Type 0) (bytes : List ℕ) (row : T) : Type 0 where
  pub row_is : row_bytes row ≡ take 48 bytes
  pub fits : Fits row

-- a stored row was read, and `row` returned for it
pub record ReadsRow {T : Type 0} (row_bytes : T → List ℕ) (Fits : T → Type 0) (as_read : T → T)
    (Took : List ℕ → Type 0) (row : T) : Type 0 where
  pub stored : T
  pub widths : Fits stored
  pub size : length (row_bytes stored) ≡ 48
  pub taken : Took (row_bytes stored)
  pub returned : as_read stored ≡ row

-- `count` stored rows were read, and `rows` returned for them
pub record ReadsRows {T : Type 0} (row_bytes : T → List ℕ) (Fits : T → Type 0) (as_read : T → T)
    (Took : List ℕ → Type 0) (count : ℕ) (rows : List T) : Type 0 where
  pub stored : List T
  pub len : length stored ≡ count
  pub widths : All Fits stored
  pub size : length (flat_map row_bytes stored) ≡ 48 * count
  pub taken : Took (flat_map row_bytes stored)
  pub returned : map as_read stored ≡ rows

-- a stored row was read if it was wanted, and `row` returned for it
pub record ReadsOptional {T : Type 0} (row_bytes : T → List ℕ) (Fits : T → Type 0)
    (as_read : T → T) (Took : List ℕ → Type 0) (wanted : Bool) (row : Option T) : Type 0 where
  pub stored : Option T
  pub present : is_some stored ≡ wanted
  pub widths : IfSome stored Fits
  pub size : length (flat_map row_bytes (option_to_list stored)) ≡ (if wanted then 48 else 0)
  pub taken : Took (flat_map row_bytes (option_to_list stored))
  pub returned : option_map as_read stored ≡ row

-- a row was written: its bytes were appended, and their number returned
pub record WritesRow (old new : Option (List ℕ)) (row_bytes : List ℕ) (n : ℕ) : Type 0 where
  pub bytes : Appends old new row_bytes
  pub count : n ≡ 48

-- a row was read with all its fields from a reader that had so many bytes
pub record ReadsWhole {T : Type 0} (row_bytes : T → List ℕ) (Fits : T → Type 0)
    (old new : Option (List ℕ)) (row : T) : Type 0 where
  pub value : Consumes old new (row_bytes row)
  pub widths : Fits row
  pub enough : HasBytes old 48

-- a row was read from such a reader, and its reserved words cleared
pub record ReadsCleared {T : Type 0} (row_bytes : T → List ℕ) (Fits : T → Type 0) (cleared : T → T)
    (old new : Option (List ℕ)) (row : T) : Type 0 where
  pub value : ReadsRow row_bytes Fits cleared (Consumes old new) row
  pub enough : HasBytes old 48

-- an error of such a reader: it is the end of the input only if fewer bytes were left
abbrev pub LacksRow : Option (List ℕ) → Error → Type 0
LacksRow old e = error_kind e ≡ UnexpectedEof → LacksBytes old 48
