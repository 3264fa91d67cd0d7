-- A file record: a header, its segments, and the optional parts that the header's flags announce.
use Rattle.std.specs.Prelude.{◌≡◌, ◌≢◌, ℕ, ◌+◌, ◌≤◌, Bool, false, List, [], ◌∷◌, ◌++◌, length, map, flat_map, sum_by, All}
use Rattle.xet_base.specs.Hash.{all_ones}
use Rattle.xet_records.specs.declared.file_structs.header.FileDataSequenceHeader.{FileDataSequenceHeader}
use Rattle.xet_records.specs.declared.file_structs.part.OptionalPart.{OptionalPart}
use Rattle.xet_records.specs.declared.file_structs.part.OptionalPart.TheVariants.{Verification, MetadataExt, AuxExt}
use Rattle.xet_records.specs.declared.file_structs.MDBFileInfo.{MDBFileInfo}
use Rattle.xet_records.specs.declared.record_reader.FormatVersion.{FormatVersion}
use Rattle.xet_records.specs.RecordKind.{RecordKind, in_version}
use Rattle.xet_records.specs.FileRow.{header_row, segment_row, hash_row, FitsHeader, FitsSegment, FitsHashRow, clear}
use Rattle.xet_records.specs.Part.{announces, flags_of, part_rows, optional_rows_after, rows_of, optional_rows, with_parts}
use Rattle.xet_records.specs.Limits.{MAX_ROWS}

-- bit 31 of the flags announces one verification row a segment
abbrev pub has_verification : ℕ → Bool
has_verification flags = announces flags Verification

-- bit 30 of the flags announces a metadata row
abbrev pub has_metadata_ext : ℕ → Bool
has_metadata_ext flags = announces flags MetadataExt

-- bit 29 of the flags announces an auxiliary row, which version 2 does not have
abbrev pub has_aux_ext : ℕ → Bool
has_aux_ext flags = announces flags AuxExt

-- the header that ends a section: the all-ones hash, all else zero
abbrev pub file_bookend : FileDataSequenceHeader
file_bookend = record { file_hash = all_ones; file_flags = 0; num_entries = 0; _unused = 0 }

-- the rows that a header announces after it
abbrev pub rows_after : FileDataSequenceHeader → ℕ
rows_after h = h.num_entries + optional_rows_after h

-- the rows of a record, its header included
abbrev pub row_count : MDBFileInfo → ℕ
row_count r = 1 + length r.segments + length (optional_rows r)

-- the rows of a record after its header, in order: segments, and the rows of optional parts
unfoldable pub file_rows_bytes : MDBFileInfo → List ℕ
file_rows_bytes r = flat_map segment_row r.segments ++ flat_map hash_row (optional_rows r)

-- the rows of a record in order
unfoldable pub file_record_bytes : MDBFileInfo → List ℕ
file_record_bytes r = header_row r.metadata ++ file_rows_bytes r

-- the bytes of a file
abbrev pub size_of_file : MDBFileInfo → ℕ
size_of_file r = sum_by (λ s. s.unpacked_segment_bytes) r.segments

-- the flags of a file's header announce optional parts and nothing else, and its reserved word is
-- zero
abbrev pub IsPlainHeader : FileDataSequenceHeader → Type 0
IsPlainHeader h = (h.file_flags ≡ flags_of (announces h.file_flags)) × (h._unused ≡ 0)

-- a record has the segments and the parts that its header announces
pub record FitsItsHeader (r : MDBFileInfo) : Type 0 where
  pub segments : length r.segments ≡ r.metadata.num_entries
  pub parts : (part : OptionalPart) → length (rows_of part r) ≡ part_rows part r.metadata

-- the widths of a record's numbers
pub record FitsRecord (r : MDBFileInfo) : Type 0 where
  pub metadata : FitsHeader r.metadata
  pub segments : All FitsSegment r.segments
  pub parts : All FitsHashRow (optional_rows r)

-- a record that may be in a section: not a bookend, whole, and its numbers within their widths
pub record IsStored (r : MDBFileInfo) : Type 0 where
  pub is_file : r.metadata.file_hash ≢ all_ones
  pub whole : FitsItsHeader r
  pub widths : FitsRecord r

-- a record as reading returns it: reserved words of the rows of optional parts are zero
abbrev pub as_read : MDBFileInfo → MDBFileInfo
as_read r = with_parts r.metadata r.segments (λ part. map clear (rows_of part r))

-- a record that may be put into a shard
pub record IsWellFormed (r : MDBFileInfo) : Type 0 where
  -- the record is not a bookend
  pub is_file : r.metadata.file_hash ≢ all_ones
  -- the flags announce optional parts and nothing else
  pub known_flags : r.metadata.file_flags ≡ flags_of (announces r.metadata.file_flags)
  -- the header's reserved word is zero
  pub reserved : r.metadata._unused ≡ 0
  pub whole : FitsItsHeader r
  -- the reserved words of the rows of optional parts are zero
  pub clear : All (λ row. row._unused ≡ 0 ∷ 0 ∷ []) (optional_rows r)
  -- the rows, the header included, fit `u32`
  pub rows : row_count r ≤ MAX_ROWS
  pub widths : FitsRecord r

-- the records of the file section, in version 3
abbrev pub file_records : RecordKind FileDataSequenceHeader MDBFileInfo
file_records = record {
  header_of = λ r. r.metadata;
  hash_of = λ h. h.file_hash;
  header_bytes = header_row;
  bookend = file_bookend;
  Fits = FitsHeader;
  rows_after = rows_after;
  is_new = λ h. has_aux_ext h.file_flags;
  refuses = λ h. false;
  bytes_after = file_rows_bytes;
  record_bytes = file_record_bytes;
  row_count = row_count;
  IsStored = IsStored;
  as_read = as_read;
}

-- the records of the file section, in a shard of a version
abbrev pub file_records_in : FormatVersion → RecordKind FileDataSequenceHeader MDBFileInfo
file_records_in version = in_version file_records version
