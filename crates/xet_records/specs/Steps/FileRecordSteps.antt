-- Steps towards what `FileRecord` defines, which only contracts inside the crate speak of.
use Rattle.std.specs.Prelude.{◌≡◌, length}
use Rattle.xet_records.specs.declared.file_structs.part.OptionalPart.{OptionalPart}
use Rattle.xet_records.specs.declared.file_structs.MDBFileInfo.{MDBFileInfo}
use Rattle.xet_records.specs.Part.{part_rows, rows_of}

-- the record has as many rows of a part as its header announces
abbrev pub HasAnnounced : OptionalPart → MDBFileInfo → Type 0
HasAnnounced part r = length (rows_of part r) ≡ part_rows part r.metadata
