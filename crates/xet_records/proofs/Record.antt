-- The bytes of a record: their number, and what its header says of bytes that begin with it.
use Rattle.std.proofs.Common.{◌≡◌, ℕ, ◌+◌, List, ◌++◌, sym, ◌∙◌, arith}
use Rattle.std.proofs.lemmas.List.{length-append}
use Rattle.xet_base.specs.Bytes.{u32_bytes}
use Rattle.xet_base.specs.Hash.{hash_bytes}
use Rattle.xet_base.proofs.Lists.{same_parts}
use Rattle.xet_base.proofs.Bytes.{length-u32_bytes, length-hash_bytes, u32_bytes-injective, u64_bytes-injective, hash_bytes-injective}
use Rattle.xet_records.specs.declared.file_structs.header.FileDataSequenceHeader.{FileDataSequenceHeader}
use Rattle.xet_records.specs.declared.file_structs.MDBFileInfo.{MDBFileInfo}
use Rattle.xet_records.specs.FileRow.{header_row, FitsHeader}
use Rattle.xet_records.specs.FileRecord.{rows_after, row_count, FitsItsHeader}
use Rattle.xet_records.proofs.Lengths.{length-header_row}
use Rattle.xet_records.proofs.Parts.{length-optional_rows}

-- the bytes determine the header
header_row-injective : (g h : FileDataSequenceHeader) → FitsHeader g → FitsHeader h → header_row g ≡ header_row h → g ≡ h
unfolding header_row
header_row-injective g h g_fits h_fits same =
    let last = same_parts ((hash_bytes g.file_hash ++ u32_bytes g.file_flags) ++ u32_bytes g.num_entries) ((hash_bytes h.file_hash ++ u32_bytes h.file_flags) ++ u32_bytes h.num_entries) _ _
    (simp (length-append, length-hash_bytes, length-u32_bytes)) same in
    let third = same_parts (hash_bytes g.file_hash ++ u32_bytes g.file_flags) (hash_bytes h.file_hash ++ u32_bytes h.file_flags) _ _
    (simp (length-append, length-hash_bytes, length-u32_bytes)) last.0 in
    let first = same_parts (hash_bytes g.file_hash) (hash_bytes h.file_hash) _ _ (length-hash_bytes g.file_hash ∙ sym (length-hash_bytes h.file_hash)) third.0 in
    let e0 = hash_bytes-injective g.file_hash h.file_hash g_fits.file_hash h_fits.file_hash first.0 in
    let e1 = u32_bytes-injective g.file_flags h.file_flags g_fits.file_flags h_fits.file_flags first.1 in
    let e2 = u32_bytes-injective g.num_entries h.num_entries g_fits.num_entries h_fits.num_entries third.1 in
    let e3 = u64_bytes-injective g._unused h._unused g_fits.unused h_fits.unused last.1 in
    λ i. record { file_hash = e0 i; file_flags = e1 i; num_entries = e2 i; _unused = e3 i }

pub header_row-front : (g h : FileDataSequenceHeader) (x y : List ℕ) → FitsHeader g → FitsHeader h → header_row g ++ x ≡ header_row h ++ y → (g ≡ h) × (x ≡ y)
header_row-front g h x y g_fits h_fits same =
    let parts = same_parts (header_row g) (header_row h) x y (length-header_row g ∙ sym (length-header_row h)) same in
    (header_row-injective g h g_fits h_fits parts.0, parts.1)

-- a record that fits its header has the rows that the header announces
pub rows_whole : (r : MDBFileInfo) → FitsItsHeader r → row_count r ≡ 1 + rows_after r.metadata
rows_whole r whole = omega (arith, whole.segments, length-optional_rows r whole)
