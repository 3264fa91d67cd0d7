-- The optional parts of a file's record: the flag that announces each, and its rows.
use Rattle.std.specs.Prelude.{ℕ, ◌+◌, ◌-◌, ◌^◌, ◌==◌, Bool, false, not, List, [], ◌∷◌, take, drop, flat_map, sum_by, slice_get, option_to_list, if◌then◌else◌}
use Rattle.std.specs.Int.{bit_at}
use Rattle.xet_records.specs.declared.file_structs.header.FileDataSequenceHeader.{FileDataSequenceHeader}
use Rattle.xet_records.specs.declared.file_structs.part.OptionalPart.{OptionalPart}
use Rattle.xet_records.specs.declared.file_structs.part.OptionalPart.TheVariants.{Verification, MetadataExt, AuxExt}
use Rattle.xet_records.specs.declared.file_structs.rows.FileDataSequenceEntry.{FileDataSequenceEntry}
use Rattle.xet_records.specs.declared.file_structs.rows.HashRow.{HashRow}
use Rattle.xet_records.specs.declared.file_structs.MDBFileInfo.{MDBFileInfo}

-- the parts, in the order of their rows
abbrev pub parts : List OptionalPart
parts = Verification ∷ MetadataExt ∷ AuxExt ∷ []

-- the parts whose rows come before those of a part, in the order of their rows
abbrev pub parts_before : OptionalPart → List OptionalPart
parts_before Verification = []
parts_before MetadataExt = Verification ∷ []
parts_before AuxExt = Verification ∷ MetadataExt ∷ []

-- the bit of a file's flags that announces the part
abbrev pub bit_of : OptionalPart → ℕ
bit_of Verification = 31
bit_of MetadataExt = 30
bit_of AuxExt = 29

-- whether two parts are the same
abbrev pub is_part : OptionalPart → OptionalPart → Bool
is_part one other = bit_of other == bit_of one

-- whether flags announce the part
abbrev pub announces : ℕ → OptionalPart → Bool
announces flags part = bit_at flags (bit_of part) == 1

-- the flags that announce these parts and nothing else
abbrev pub flags_of : (OptionalPart → Bool) → ℕ
flags_of wanted = sum_by (λ part. if wanted part then 2 ^ bit_of part else 0) parts

-- the number of rows of a part of a file with so many segments: one for each, or one row
abbrev pub size_of_part : OptionalPart → ℕ → ℕ
size_of_part Verification segments = segments
size_of_part _ segments = 1

-- the number of rows of a part under a header: 0 if the header does not announce it
abbrev pub part_rows : OptionalPart → FileDataSequenceHeader → ℕ
part_rows part h = if announces h.file_flags part then size_of_part part h.num_entries else 0

-- the number of rows of all parts under a header
abbrev pub optional_rows_after : FileDataSequenceHeader → ℕ
optional_rows_after h = sum_by (λ part. part_rows part h) parts

-- the number of rows of the parts before a part under a header
abbrev pub rows_before : OptionalPart → FileDataSequenceHeader → ℕ
rows_before part h = sum_by (λ before. part_rows before h) (parts_before part)

-- the rows of a part that a record has
abbrev pub rows_of : OptionalPart → MDBFileInfo → List HashRow
rows_of Verification r = r.verification
rows_of MetadataExt r = option_to_list r.metadata_ext
rows_of AuxExt r = option_to_list r.aux_ext

-- the rows of all parts, in order
abbrev pub optional_rows : MDBFileInfo → List HashRow
optional_rows r = flat_map (λ part. rows_of part r) parts

-- the record with this header, these segments and these rows of each part
abbrev pub with_parts : FileDataSequenceHeader → List FileDataSequenceEntry
    → (OptionalPart → List HashRow) → MDBFileInfo
with_parts h segments rows = record {
  metadata = h;
  segments = segments;
  verification = rows Verification;
  metadata_ext = slice_get (rows MetadataExt) 0;
  aux_ext = slice_get (rows AuxExt) 0;
}

-- the rows of a part, of the rows of all parts that a header announces
abbrev pub part_of : OptionalPart → FileDataSequenceHeader → List HashRow → List HashRow
part_of part h rows = take (part_rows part h) (drop (rows_before part h) rows)

-- verification rows and a metadata row, as these say, and no other part
abbrev pub these_parts : Bool → Bool → OptionalPart → Bool
these_parts verification metadata Verification = verification
these_parts verification metadata MetadataExt = metadata
these_parts verification metadata _ = false

-- flags with the bit of a part set or cleared, and the other 31 bits as they are
abbrev pub with_flag : OptionalPart → Bool → ℕ → ℕ
with_flag part wanted flags =
    flags - (if announces flags part then 2 ^ bit_of part else 0)
    + (if wanted then 2 ^ bit_of part else 0)

-- all parts but one
abbrev pub all_but : OptionalPart → OptionalPart → Bool
all_but dropped part = not (is_part dropped part)
