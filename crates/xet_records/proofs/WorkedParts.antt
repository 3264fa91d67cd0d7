-- Worked examples: the flags and the rows of each optional part, their order, and a record that is made of them.
use Rattle.std.proofs.Common.{◌≡◌, ℕ, true, false, [], ◌∷◌, Some, refl}
use Rattle.xet_records.specs.declared.file_structs.header.FileDataSequenceHeader.{FileDataSequenceHeader}
use Rattle.xet_records.specs.declared.file_structs.part.OptionalPart.TheVariants.{Verification, MetadataExt, AuxExt}
use Rattle.xet_records.specs.declared.file_structs.rows.HashRow.{HashRow}
use Rattle.xet_records.specs.declared.file_structs.MDBFileInfo.{MDBFileInfo}
use Rattle.xet_records.specs.Part.{is_part, flags_of, these_parts, rows_before, rows_of, optional_rows, with_parts}
use Rattle.xet_records.proofs.Parts.{these_rows}

numbered_row : ℕ → HashRow
numbered_row n = record { hash = record { word0 = n; word1 = 0; word2 = 0; word3 = 0 }; _unused = 0 ∷ 0 ∷ [] }

header : FileDataSequenceHeader
header = record { file_hash = record { word0 = 7; word1 = 0; word2 = 0; word3 = 0 }; file_flags = 3758096384; num_entries = 2; _unused = 0 }

-- a file with two verification rows, a metadata row and an auxiliary row
whole_file : MDBFileInfo
whole_file = record { metadata = header; segments = []; verification = numbered_row 1 ∷ numbered_row 2 ∷ []; metadata_ext = Some (numbered_row 3); aux_ext = Some (numbered_row 4) }

flags_of_parts : (flags_of (these_parts true false) ≡ 2147483648) × (flags_of (these_parts false true) ≡ 1073741824)
    × (flags_of (is_part AuxExt) ≡ 536870912) × (flags_of (λ part. true) ≡ 3758096384)
flags_of_parts = (refl, refl, refl, refl)

rows_of_whole : (rows_of Verification whole_file ≡ numbered_row 1 ∷ numbered_row 2 ∷ []) × (rows_of MetadataExt whole_file ≡ numbered_row 3 ∷ []) × (rows_of AuxExt whole_file ≡ numbered_row 4 ∷ [])
unfolding whole_file numbered_row header
rows_of_whole = (refl, refl, refl)

in_order : optional_rows whole_file ≡ numbered_row 1 ∷ numbered_row 2 ∷ numbered_row 3 ∷ numbered_row 4 ∷ []
unfolding whole_file numbered_row header
in_order = refl

places : (rows_before Verification header ≡ 0) × (rows_before MetadataExt header ≡ 2) × (rows_before AuxExt header ≡ 3)
unfolding header
places = (refl, refl, refl)

parts_make_file : with_parts header [] (these_rows (numbered_row 1 ∷ numbered_row 2 ∷ []) (numbered_row 3 ∷ []) (numbered_row 4 ∷ [])) ≡ whole_file
unfolding whole_file numbered_row header
parts_make_file = refl
