-- What bytes and the record of a file print as.
use Rattle.std.specs.Prelude.{ℕ, List, [], ◌∷◌, ◌++◌, codes, flat_map}
use Rattle.std.specs.Fmt.{decimal}
use Rattle.std.specs.List.{join_with_byte}
use Rattle.std.specs.Option.{option_to_list}
use Rattle.xet_core_structures.specs.declared.file_structs.FileDataSequenceEntry.{FileDataSequenceEntry}
use Rattle.xet_core_structures.specs.declared.file_structs.HashRow.{HashRow}
use Rattle.xet_core_structures.specs.declared.file_structs.MDBFileInfo.{MDBFileInfo}
use Rattle.xet_core_structures.specs.FileRecord.{size_of_file}
use Rattle.xet_core_structures.specs.Hex.{hash_hex, hex_digits}

-- the text of bytes, two hexadecimal digits for each byte
abbrev pub hex_text : List ℕ → List ℕ
hex_text bytes = flat_map (λ byte. hex_digits 2 byte) bytes

-- the words of a line with a space between each two, and the line's end
abbrev pub printed_line : List (List ℕ) → List ℕ
printed_line words = join_with_byte 32 words ++ 10 ∷ []

-- the line of a segment: its xorb, the index of its first chunk, that after its last, and its bytes
abbrev pub segment_line : FileDataSequenceEntry → List ℕ
segment_line s =
    printed_line (codes "seg" ∷ hash_hex s.xorb_hash ∷ decimal s.chunk_index_start
    ∷ decimal s.chunk_index_end ∷ decimal s.unpacked_segment_bytes ∷ [])

-- the line of a verification row: its hash
abbrev pub verification_line : HashRow → List ℕ
verification_line row = printed_line (codes "ver" ∷ hash_hex row.hash ∷ [])

-- the line of a metadata row: its SHA-256
abbrev pub sha256_line : HashRow → List ℕ
sha256_line row = printed_line (codes "sha" ∷ hash_hex row.hash ∷ [])

-- the line of an auxiliary row: its hash
abbrev pub aux_line : HashRow → List ℕ
aux_line row = printed_line (codes "aux" ∷ hash_hex row.hash ∷ [])

-- the line of a file: its hash, its flags, the number of its segments and their bytes
abbrev pub file_line : MDBFileInfo → List ℕ
file_line file =
    printed_line (codes "file" ∷ hash_hex file.metadata.file_hash
    ∷ codes "flags" ∷ decimal file.metadata.file_flags
    ∷ codes "segments" ∷ decimal file.metadata.num_entries
    ∷ codes "bytes" ∷ decimal (size_of_file file) ∷ [])

-- a record prints as the line of its file, and then those of its rows
abbrev pub printed_file : MDBFileInfo → List ℕ
printed_file file =
    file_line file ++ flat_map segment_line file.segments
    ++ flat_map verification_line file.verification
    ++ flat_map sha256_line (option_to_list file.metadata_ext)
    ++ flat_map aux_line (option_to_list file.aux_ext)
