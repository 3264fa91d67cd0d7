-- Each row has 48 bytes.
use Rattle.std.proofs.Common.{◌≡◌, ℕ, ◌+◌, ◌*◌, List, [], ◌∷◌, length, flat_map, refl, ◌∙◌, arith}
use Rattle.std.specs.Prelude.{All, sum_by}
use Rattle.std.proofs.lemmas.List.Elements.{All-drop}
use Rattle.std.proofs.lemmas.List.{length-append}
use Rattle.std.proofs.lemmas.List.Sums.{sum_by-cons}
use Rattle.xet_base.specs.Bytes.{u64_bytes}
use Rattle.xet_base.proofs.Bytes.{length-u32_bytes, length-u64_bytes, length-hash_bytes}
use Rattle.xet_records.specs.declared.file_structs.header.FileDataSequenceHeader.{FileDataSequenceHeader}
use Rattle.xet_records.specs.declared.file_structs.rows.FileDataSequenceEntry.{FileDataSequenceEntry}
use Rattle.xet_records.specs.declared.file_structs.rows.HashRow.{HashRow}
use Rattle.xet_records.specs.declared.file_structs.MDBFileInfo.{MDBFileInfo}
use Rattle.xet_records.specs.Part.{optional_rows}
use Rattle.xet_records.specs.FileRecord.{file_record_bytes, file_rows_bytes, row_count, FitsRecord}
use Rattle.xet_records.specs.declared.xorb_structs.XorbChunkSequenceHeader.{XorbChunkSequenceHeader}
use Rattle.xet_records.specs.declared.xorb_structs.XorbChunkSequenceEntry.{XorbChunkSequenceEntry}
use Rattle.xet_records.specs.declared.xorb_structs.MDBXorbInfo.{MDBXorbInfo}
use Rattle.xet_records.specs.XorbRow.{xorb_header_row, chunk_row}
use Rattle.xet_records.specs.XorbRecord.{xorb_record_bytes, xorb_row_count}
use Rattle.xet_records.specs.FileRow.{header_row, segment_row, hash_row, IsReserved, FitsHashRow}

pub length-header_row : (h : FileDataSequenceHeader) → length (header_row h) ≡ 48
unfolding header_row
length-header_row h = simp (length-append, length-hash_bytes, length-u32_bytes, length-u64_bytes)

pub length-segment_row : (s : FileDataSequenceEntry) → length (segment_row s) ≡ 48
unfolding segment_row
length-segment_row s = simp (length-append, length-hash_bytes, length-u32_bytes)

length-reserved : (words : List ℕ) → IsReserved words → length (flat_map u64_bytes words) ≡ 16
length-reserved words two = rw two.words_are (simp (length-append, length-u64_bytes))

pub length-hash_row : (row : HashRow) → FitsHashRow row → length (hash_row row) ≡ 48
unfolding hash_row
length-hash_row row fits =
    length-append _ _ ∙ (λ i. length-hash_bytes row.hash i + length-reserved row._unused fits.unused i)

pub length-xorb_header_row : (h : XorbChunkSequenceHeader) → length (xorb_header_row h) ≡ 48
unfolding xorb_header_row
length-xorb_header_row h = simp (length-append, length-hash_bytes, length-u32_bytes)

pub length-chunk_row : (c : XorbChunkSequenceEntry) → length (chunk_row c) ≡ 48
unfolding chunk_row
length-chunk_row c = simp (length-append, length-hash_bytes, length-u32_bytes)

-- each record has 48 bytes a row
pub length-segment_rows : (ss : List FileDataSequenceEntry) → length (flat_map segment_row ss) ≡ 48 * length ss
length-segment_rows [] = refl
length-segment_rows (s ∷ ss) = length-append (segment_row s) (flat_map segment_row ss) ∙ omega (arith, length-segment_row s, length-segment_rows ss)

pub length-hash_rows : (rows : List HashRow) → All FitsHashRow rows → length (flat_map hash_row rows) ≡ 48 * length rows
length-hash_rows [] fit = refl
length-hash_rows (row ∷ rows) fit =
    length-append (hash_row row) (flat_map hash_row rows)
    ∙ omega (arith, length-hash_row row (fit 0 row (omega arith)), length-hash_rows rows (All-drop FitsHashRow 1 (row ∷ rows) fit))

pub length-file_record_bytes : (r : MDBFileInfo) → FitsRecord r → length (file_record_bytes r) ≡ 48 * row_count r
unfolding file_record_bytes file_rows_bytes
length-file_record_bytes r fits =
    length-append (header_row r.metadata) _
    ∙ omega (
      arith,
      length-header_row r.metadata,
      length-append (flat_map segment_row r.segments) (flat_map hash_row (optional_rows r)),
      length-segment_rows r.segments,
      length-hash_rows (optional_rows r) fits.parts,
    )

pub length-chunk_rows : (cs : List XorbChunkSequenceEntry) → length (flat_map chunk_row cs) ≡ 48 * length cs
length-chunk_rows [] = refl
length-chunk_rows (c ∷ cs) = length-append (chunk_row c) (flat_map chunk_row cs) ∙ omega (arith, length-chunk_row c, length-chunk_rows cs)

pub length-xorb_record_bytes : (r : MDBXorbInfo) → length (xorb_record_bytes r) ≡ 48 * xorb_row_count r
unfolding xorb_record_bytes
length-xorb_record_bytes r =
    length-append (xorb_header_row r.metadata) (flat_map chunk_row r.chunks) ∙ omega (arith, length-xorb_header_row r.metadata, length-chunk_rows r.chunks)

-- the bytes of records that have 48 bytes a row
pub length-all_record_bytes : {R : Type 0} (record_bytes : R → List ℕ) (rows : R → ℕ) (Fits : R → Type 0) → ((r : R) → Fits r → length (record_bytes r) ≡ 48 * rows r)
    → (rs : List R) → All Fits rs → length (flat_map record_bytes rs) ≡ 48 * sum_by rows rs
length-all_record_bytes record_bytes rows Fits len [] fit = refl
length-all_record_bytes record_bytes rows Fits len (r ∷ rs) fit =
    length-append (record_bytes r) (flat_map record_bytes rs)
    ∙ omega (arith, len r (fit 0 r (omega arith)), length-all_record_bytes record_bytes rows Fits len rs (All-drop Fits 1 (r ∷ rs) fit), sum_by-cons rows r rs)
