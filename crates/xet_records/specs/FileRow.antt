-- The rows of a file record: a hash and sixteen bytes each. Those of optional parts are of one
-- shape.
use Rattle.std.specs.Prelude.{◌≡◌, ℕ, ◌^◌, ◌<◌, List, [], ◌∷◌, ◌++◌, flat_map}
use Rattle.xet_base.specs.Bytes.{u32_bytes, u64_bytes}
use Rattle.xet_base.specs.Hash.{hash_bytes, IsHash}
use Rattle.xet_records.specs.declared.file_structs.header.FileDataSequenceHeader.{FileDataSequenceHeader}
use Rattle.xet_records.specs.declared.file_structs.rows.FileDataSequenceEntry.{FileDataSequenceEntry}
use Rattle.xet_records.specs.declared.file_structs.rows.HashRow.{HashRow}

-- the header: the file's hash, its flags, the number of segments and a reserved word
unfoldable pub header_row : FileDataSequenceHeader → List ℕ
header_row h =
    ((hash_bytes h.file_hash ++ u32_bytes h.file_flags) ++ u32_bytes h.num_entries)
    ++ u64_bytes h._unused

-- a segment: the xorb's hash and flags, the bytes of the segment, its first chunk and the one after
-- its last
unfoldable pub segment_row : FileDataSequenceEntry → List ℕ
segment_row s =
    (((hash_bytes s.xorb_hash ++ u32_bytes s.xorb_flags) ++ u32_bytes s.unpacked_segment_bytes)
    ++ u32_bytes s.chunk_index_start)
    ++ u32_bytes s.chunk_index_end

-- a row of an optional part: a hash and two reserved words
unfoldable pub hash_row : HashRow → List ℕ
hash_row row = hash_bytes row.hash ++ flat_map u64_bytes row._unused

-- the widths of a header's numbers, which a definition has to say, since its numbers are unbounded
pub record FitsHeader (h : FileDataSequenceHeader) : Type 0 where
  pub file_hash : IsHash h.file_hash
  pub file_flags : h.file_flags < 2 ^ 32
  pub num_entries : h.num_entries < 2 ^ 32
  pub unused : h._unused < 2 ^ 64

-- the widths of a segment's numbers
pub record FitsSegment (s : FileDataSequenceEntry) : Type 0 where
  pub xorb_hash : IsHash s.xorb_hash
  pub xorb_flags : s.xorb_flags < 2 ^ 32
  pub unpacked_segment_bytes : s.unpacked_segment_bytes < 2 ^ 32
  pub chunk_index_start : s.chunk_index_start < 2 ^ 32
  pub chunk_index_end : s.chunk_index_end < 2 ^ 32

-- two words, each below 2 ^ 64
pub record IsReserved (words : List ℕ) : Type 0 where
  pub first : ℕ
  pub second : ℕ
  pub words_are : words ≡ first ∷ second ∷ []
  pub first_fits : first < 2 ^ 64
  pub second_fits : second < 2 ^ 64

-- the widths of the numbers of a row of an optional part
pub record FitsHashRow (row : HashRow) : Type 0 where
  pub hash : IsHash row.hash
  pub unused : IsReserved row._unused

-- reading returns a row of an optional part with zero reserved words
abbrev pub clear : HashRow → HashRow
clear row = record row { _unused = 0 ∷ 0 ∷ [] }
