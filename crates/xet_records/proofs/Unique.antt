-- Bytes begin with the bytes of one record at most.
use Rattle.std.proofs.Common.{◌≡◌, ℕ, ◌^◌, ◌<◌, List, [], ◌∷◌, ◌++◌, flat_map, sym, ap, ◌∙◌}
use Rattle.std.proofs.lemmas.List.{length-append, append_assoc}
use Rattle.xet_base.specs.Bytes.{u32_bytes, u64_bytes}
use Rattle.xet_base.specs.declared.merklehash.DataHash.{DataHash}
use Rattle.xet_base.specs.Hash.{hash_bytes, IsHash}
use Rattle.xet_base.proofs.Lists.{same_parts, parts_front}
use Rattle.xet_base.proofs.Bytes.{length-u32_bytes, length-hash_bytes, u32_bytes-injective, u64_bytes-front, hash_bytes-injective}
use Rattle.xet_records.specs.declared.file_structs.header.FileDataSequenceHeader.{FileDataSequenceHeader}
use Rattle.xet_records.specs.declared.file_structs.rows.FileDataSequenceEntry.{FileDataSequenceEntry}
use Rattle.xet_records.specs.declared.file_structs.part.OptionalPart.{OptionalPart}
use Rattle.xet_records.specs.declared.file_structs.rows.HashRow.{HashRow}
use Rattle.xet_records.specs.declared.file_structs.MDBFileInfo.{MDBFileInfo}
use Rattle.xet_records.specs.FileRow.{header_row, segment_row, hash_row, IsReserved, FitsSegment, FitsHashRow}
use Rattle.xet_records.specs.Part.{optional_rows_after, rows_of, optional_rows, part_of}
use Rattle.xet_records.specs.FileRecord.{file_record_bytes, file_rows_bytes, IsStored}
use Rattle.xet_records.proofs.Lengths.{length-segment_row, length-hash_row}
use Rattle.xet_records.proofs.Parts.{part-of-parts, same_record, length-optional_rows}
use Rattle.xet_records.proofs.Record.{header_row-front}

-- the bytes of a hash and of four 32-bit numbers determine them
pub hash_and_numbers : (g h : DataHash) (a b c d k l m n : ℕ) → IsHash g → IsHash h → a < 2 ^ 32 → b < 2 ^ 32 → c < 2 ^ 32 → d < 2 ^ 32 → k < 2 ^ 32 → l < 2 ^ 32 → m < 2 ^ 32 → n < 2 ^ 32
    → (((hash_bytes g ++ u32_bytes a) ++ u32_bytes c) ++ u32_bytes k) ++ u32_bytes m ≡ (((hash_bytes h ++ u32_bytes b) ++ u32_bytes d) ++ u32_bytes l) ++ u32_bytes n
    → (g ≡ h) × ((a ≡ b) × ((c ≡ d) × ((k ≡ l) × (m ≡ n))))
hash_and_numbers g h a b c d k l m n g_fits h_fits a_fits b_fits c_fits d_fits k_fits l_fits m_fits n_fits same =
    let last = same_parts (((hash_bytes g ++ u32_bytes a) ++ u32_bytes c) ++ u32_bytes k) (((hash_bytes h ++ u32_bytes b) ++ u32_bytes d) ++ u32_bytes l) _ _
    (simp (length-append, length-hash_bytes, length-u32_bytes)) same in
    let fourth = same_parts ((hash_bytes g ++ u32_bytes a) ++ u32_bytes c) ((hash_bytes h ++ u32_bytes b) ++ u32_bytes d) _ _ (simp (length-append, length-hash_bytes, length-u32_bytes)) last.0 in
    let third = same_parts (hash_bytes g ++ u32_bytes a) (hash_bytes h ++ u32_bytes b) _ _ (simp (length-append, length-hash_bytes, length-u32_bytes)) fourth.0 in
    let first = same_parts (hash_bytes g) (hash_bytes h) _ _ (length-hash_bytes g ∙ sym (length-hash_bytes h)) third.0 in (
      hash_bytes-injective g h g_fits h_fits first.0,
      (
        u32_bytes-injective a b a_fits b_fits first.1,
        (u32_bytes-injective c d c_fits d_fits third.1, (u32_bytes-injective k l k_fits l_fits fourth.1, u32_bytes-injective m n m_fits n_fits last.1)),
      ),
    )

-- the bytes determine the row
pub segment_row-injective : (s t : FileDataSequenceEntry) → FitsSegment s → FitsSegment t → segment_row s ≡ segment_row t → s ≡ t
unfolding segment_row
segment_row-injective s t s_fits t_fits same =
    let e = hash_and_numbers s.xorb_hash t.xorb_hash s.xorb_flags t.xorb_flags s.unpacked_segment_bytes t.unpacked_segment_bytes s.chunk_index_start t.chunk_index_start s.chunk_index_end t.chunk_index_end
    s_fits.xorb_hash t_fits.xorb_hash s_fits.xorb_flags t_fits.xorb_flags s_fits.unpacked_segment_bytes t_fits.unpacked_segment_bytes s_fits.chunk_index_start t_fits.chunk_index_start
    s_fits.chunk_index_end t_fits.chunk_index_end same in
    λ i. record { xorb_hash = e.0 i; xorb_flags = e.1.0 i; unpacked_segment_bytes = e.1.1.0 i; chunk_index_start = e.1.1.1.0 i; chunk_index_end = e.1.1.1.1 i }

reserved-injective : (ms ns : List ℕ) → IsReserved ms → IsReserved ns → flat_map u64_bytes ms ≡ flat_map u64_bytes ns → ms ≡ ns
reserved-injective ms ns m n same =
    let first = u64_bytes-front m.first n.first _ _ m.first_fits n.first_fits (ap (flat_map u64_bytes) (sym m.words_are) ∙ same ∙ ap (flat_map u64_bytes) n.words_are) in
    let second = u64_bytes-front m.second n.second [] [] m.second_fits n.second_fits first.1 in
    m.words_are ∙ (λ i. first.0 i ∷ second.0 i ∷ []) ∙ sym n.words_are

pub hash_row-injective : (v w : HashRow) → FitsHashRow v → FitsHashRow w → hash_row v ≡ hash_row w → v ≡ w
unfolding hash_row
hash_row-injective v w v_fits w_fits same =
    let parts = same_parts (hash_bytes v.hash) (hash_bytes w.hash) _ _ (length-hash_bytes v.hash ∙ sym (length-hash_bytes w.hash)) same in
    let e0 = hash_bytes-injective v.hash w.hash v_fits.hash w_fits.hash parts.0 in
    let e1 = reserved-injective v._unused w._unused v_fits.unused w_fits.unused parts.1 in
    λ i. record { hash = e0 i; _unused = e1 i }

-- bytes that begin with the bytes of two records begin with those of one
pub record_front : (r s : MDBFileInfo) (x y : List ℕ) → IsStored r → IsStored s → file_record_bytes r ++ x ≡ file_record_bytes s ++ y → (r ≡ s) × (x ≡ y)
unfolding file_record_bytes file_rows_bytes
record_front r s x y r_stored s_stored same =
    let r_segments = flat_map segment_row r.segments in
    let s_segments = flat_map segment_row s.segments in
    let r_rows = flat_map hash_row (optional_rows r) in
    let s_rows = flat_map hash_row (optional_rows s) in
    let header = header_row-front r.metadata s.metadata _ _ r_stored.widths.metadata s_stored.widths.metadata
    (sym (append_assoc (header_row r.metadata) (r_segments ++ r_rows) x) ∙ same ∙ append_assoc (header_row s.metadata) (s_segments ++ s_rows) y) in
    let segments = parts_front 48 segment_row FitsSegment (λ t _. length-segment_row t) segment_row-injective r.segments s.segments _ _
    (r_stored.whole.segments ∙ ap (λ (h : FileDataSequenceHeader). h.num_entries) header.0 ∙ sym s_stored.whole.segments) r_stored.widths.segments s_stored.widths.segments
    (sym (append_assoc r_segments r_rows x) ∙ header.1 ∙ append_assoc s_segments s_rows y) in
    let rows = parts_front 48 hash_row FitsHashRow length-hash_row hash_row-injective (optional_rows r) (optional_rows s) x y
    (length-optional_rows r r_stored.whole ∙ ap (λ (h : FileDataSequenceHeader). optional_rows_after h) header.0 ∙ sym (length-optional_rows s s_stored.whole))
    r_stored.widths.parts s_stored.widths.parts segments.1 in
    let each : (part : OptionalPart) → rows_of part r ≡ rows_of part s = λ part.
    sym (part-of-parts (λ p. rows_of p r) r.metadata r_stored.whole.parts part) ∙ (λ i. part_of part (header.0 i) (rows.0 i)) ∙ part-of-parts (λ p. rows_of p s) s.metadata s_stored.whole.parts part in
    (same_record r s header.0 segments.0 each, rows.1)
