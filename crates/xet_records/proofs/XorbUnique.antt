-- Bytes begin with the bytes of one xorb record at most.
use Rattle.std.proofs.Common.{◌≡◌, ℕ, List, ◌++◌, flat_map, sym, ap, ◌∙◌}
use Rattle.std.proofs.lemmas.List.{append_assoc}
use Rattle.xet_base.proofs.Lists.{same_parts, parts_front}
use Rattle.xet_records.specs.declared.xorb_structs.XorbChunkSequenceHeader.{XorbChunkSequenceHeader}
use Rattle.xet_records.specs.declared.xorb_structs.XorbChunkSequenceEntry.{XorbChunkSequenceEntry}
use Rattle.xet_records.specs.declared.xorb_structs.MDBXorbInfo.{MDBXorbInfo}
use Rattle.xet_records.specs.XorbRow.{xorb_header_row, chunk_row, FitsXorbHeader, FitsChunk}
use Rattle.xet_records.specs.XorbRecord.{xorb_record_bytes, IsStoredXorb}
use Rattle.xet_records.proofs.Lengths.{length-xorb_header_row, length-chunk_row}
use Rattle.xet_records.proofs.Unique.{hash_and_numbers}

-- the bytes determine the row
xorb_header_row-injective : (g h : XorbChunkSequenceHeader) → FitsXorbHeader g → FitsXorbHeader h → xorb_header_row g ≡ xorb_header_row h → g ≡ h
unfolding xorb_header_row
xorb_header_row-injective g h g_fits h_fits same =
    let e = hash_and_numbers g.xorb_hash h.xorb_hash g.xorb_flags h.xorb_flags g.num_entries h.num_entries g.num_bytes_in_xorb h.num_bytes_in_xorb g.num_bytes_on_disk h.num_bytes_on_disk
    g_fits.xorb_hash h_fits.xorb_hash g_fits.xorb_flags h_fits.xorb_flags g_fits.num_entries h_fits.num_entries g_fits.num_bytes_in_xorb h_fits.num_bytes_in_xorb
    g_fits.num_bytes_on_disk h_fits.num_bytes_on_disk same in
    λ i. record { xorb_hash = e.0 i; xorb_flags = e.1.0 i; num_entries = e.1.1.0 i; num_bytes_in_xorb = e.1.1.1.0 i; num_bytes_on_disk = e.1.1.1.1 i }

pub chunk_row-injective : (c d : XorbChunkSequenceEntry) → FitsChunk c → FitsChunk d → chunk_row c ≡ chunk_row d → c ≡ d
unfolding chunk_row
chunk_row-injective c d c_fits d_fits same =
    let e = hash_and_numbers c.chunk_hash d.chunk_hash c.chunk_byte_range_start d.chunk_byte_range_start c.unpacked_segment_bytes d.unpacked_segment_bytes c.flags d.flags c._unused d._unused
    c_fits.chunk_hash d_fits.chunk_hash c_fits.chunk_byte_range_start d_fits.chunk_byte_range_start c_fits.unpacked_segment_bytes d_fits.unpacked_segment_bytes
    c_fits.flags d_fits.flags c_fits.unused d_fits.unused same in
    λ i. record { chunk_hash = e.0 i; chunk_byte_range_start = e.1.0 i; unpacked_segment_bytes = e.1.1.0 i; flags = e.1.1.1.0 i; _unused = e.1.1.1.1 i }

pub xorb_header_row-front : (g h : XorbChunkSequenceHeader) (x y : List ℕ) → FitsXorbHeader g → FitsXorbHeader h → xorb_header_row g ++ x ≡ xorb_header_row h ++ y → (g ≡ h) × (x ≡ y)
xorb_header_row-front g h x y g_fits h_fits same =
    let parts = same_parts (xorb_header_row g) (xorb_header_row h) x y (length-xorb_header_row g ∙ sym (length-xorb_header_row h)) same in
    (xorb_header_row-injective g h g_fits h_fits parts.0, parts.1)

-- bytes that begin with the bytes of two records begin with those of one
pub xorb_front : (r s : MDBXorbInfo) (x y : List ℕ) → IsStoredXorb r → IsStoredXorb s → xorb_record_bytes r ++ x ≡ xorb_record_bytes s ++ y → (r ≡ s) × (x ≡ y)
unfolding xorb_record_bytes
xorb_front r s x y r_stored s_stored same =
    let header = xorb_header_row-front r.metadata s.metadata _ _ r_stored.widths.metadata s_stored.widths.metadata
    (sym (append_assoc (xorb_header_row r.metadata) (flat_map chunk_row r.chunks) x) ∙ same ∙ append_assoc (xorb_header_row s.metadata) (flat_map chunk_row s.chunks) y) in
    let chunks = parts_front 48 chunk_row FitsChunk (λ c _. length-chunk_row c) chunk_row-injective r.chunks s.chunks x y
    (r_stored.count ∙ ap (λ (h : XorbChunkSequenceHeader). h.num_entries) header.0 ∙ sym s_stored.count) r_stored.widths.chunks s_stored.widths.chunks header.1 in
    ((λ i. record { metadata = header.0 i; chunks = chunks.0 i }), chunks.1)
