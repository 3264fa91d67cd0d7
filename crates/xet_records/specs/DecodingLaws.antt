-- The rows that bytes spell have these bytes again, and are within their widths: a law that the
-- types of rows cite.
use Rattle.std.proofs.Common.{◌≡◌, ℕ, ◌+◌, ◌^◌, ◌<◌, ◌≤◌, List, [], ◌∷◌, ◌++◌, length, take, drop, flat_map, refl, sym, ap, ◌∙◌, arith, append-nil}
use Rattle.std.specs.Int.{from_le_bytes, w32, w64}
use Rattle.std.proofs.Math.Seq.{take-add}
use Rattle.std.proofs.lemmas.List.{length-take, length-drop, append_assoc}
use Rattle.std.proofs.lemmas.Nat.{le_bytes_4, le_bytes_8}
use Rattle.xet_base.specs.Bytes.{u32_bytes, u64_bytes, AreBytes}
use Rattle.xet_base.specs.Hash.{hash_bytes, IsHash}
use Rattle.xet_base.proofs.Bytes.{take-bytes, drop-bytes}
use Rattle.xet_records.specs.FileRow.{header_row, segment_row, hash_row, IsReserved, FitsHeader, FitsSegment, FitsHashRow}
use Rattle.xet_records.specs.XorbRow.{xorb_header_row, chunk_row, FitsXorbHeader, FitsChunk}
use Rattle.xet_records.specs.Decoding.{u32_at, u64_at, hash_at, header_at, segment_at, hash_row_at, xorb_header_at, chunk_at}
use Rattle.xet_records.specs.Rows.{Spells}

-- a number that bytes spell
below_32 : (bytes : List ℕ) → AreBytes bytes → from_le_bytes w32 bytes < 2 ^ 32
below_32 bytes are = omega (arith, are 0, are 1, are 2, are 3)

below_64 : (bytes : List ℕ) → AreBytes bytes → from_le_bytes w64 bytes < 2 ^ 64
below_64 bytes are = omega (arith, are 0, are 1, are 2, are 3, are 4, are 5, are 6, are 7)

part : (n at : ℕ) (bytes : List ℕ) → at + n ≤ length bytes → length (take n (drop at bytes)) ≡ n
part n at bytes within = omega (arith, length-take n (drop at bytes), length-drop at bytes)

u32_fits : (bytes : List ℕ) (at : ℕ) → AreBytes bytes → u32_at bytes at < 2 ^ 32
unfolding u32_at
u32_fits bytes at are = below_32 (take 4 (drop at bytes)) (take-bytes 4 (drop at bytes) (drop-bytes at bytes are))

u64_fits : (bytes : List ℕ) (at : ℕ) → AreBytes bytes → u64_at bytes at < 2 ^ 64
unfolding u64_at
u64_fits bytes at are = below_64 (take 8 (drop at bytes)) (take-bytes 8 (drop at bytes) (drop-bytes at bytes are))

-- after the bytes before its offset come the bytes of a number
more_32 : (bytes front : List ℕ) (at : ℕ) → AreBytes bytes → at + 4 ≤ length bytes → front ≡ take at bytes
    → front ++ u32_bytes (u32_at bytes at) ≡ take (at + 4) bytes
unfolding u32_at u32_bytes
more_32 bytes front at are within before =
    let spelled = le_bytes_4 (take 4 (drop at bytes)) _ (part 4 at bytes within) (take-bytes 4 (drop at bytes) (drop-bytes at bytes are)) refl in
    (λ i. before i ++ spelled i) ∙ sym (take-add at 4 bytes)

more_64 : (bytes front : List ℕ) (at : ℕ) → AreBytes bytes → at + 8 ≤ length bytes → front ≡ take at bytes
    → front ++ u64_bytes (u64_at bytes at) ≡ take (at + 8) bytes
unfolding u64_at u64_bytes
more_64 bytes front at are within before =
    let spelled = le_bytes_8 (take 8 (drop at bytes)) _ (part 8 at bytes within) (take-bytes 8 (drop at bytes) (drop-bytes at bytes are)) refl in
    (λ i. before i ++ spelled i) ∙ sym (take-add at 8 bytes)

hash_fits : (bytes : List ℕ) → AreBytes bytes → IsHash (hash_at bytes)
hash_fits bytes are = record { word0 = u64_fits bytes 0 are; word1 = u64_fits bytes 8 are; word2 = u64_fits bytes 16 are; word3 = u64_fits bytes 24 are }

hash_spelled : (bytes : List ℕ) → AreBytes bytes → 32 ≤ length bytes → hash_bytes (hash_at bytes) ≡ take 32 bytes
unfolding hash_bytes
hash_spelled bytes are within =
    more_64 bytes _ 24 are (omega arith) (more_64 bytes _ 16 are (omega arith) (more_64 bytes _ 8 are (omega arith) (more_64 bytes [] 0 are (omega arith) refl)))

-- a hash and four numbers
hash_and_numbers : {T : Type 0} (row_bytes : T → List ℕ) (Fits : T → Type 0) (row : T) (bytes : List ℕ) → AreBytes bytes → 48 ≤ length bytes
    → row_bytes row ≡ (((hash_bytes (hash_at bytes) ++ u32_bytes (u32_at bytes 32)) ++ u32_bytes (u32_at bytes 36)) ++ u32_bytes (u32_at bytes 40)) ++ u32_bytes (u32_at bytes 44)
    → (IsHash (hash_at bytes) → u32_at bytes 32 < 2 ^ 32 → u32_at bytes 36 < 2 ^ 32 → u32_at bytes 40 < 2 ^ 32 → u32_at bytes 44 < 2 ^ 32 → Fits row)
    → Spells row_bytes Fits bytes row
hash_and_numbers row_bytes Fits row bytes are within row_is fits = record {
  row_is = row_is ∙ more_32 bytes _ 44 are (omega arith) (more_32 bytes _ 40 are (omega arith) (more_32 bytes _ 36 are (omega arith)
      (more_32 bytes _ 32 are (omega arith) (hash_spelled bytes are (omega arith)))));
  fits = fits (hash_fits bytes are) (u32_fits bytes 32 are) (u32_fits bytes 36 are) (u32_fits bytes 40 are) (u32_fits bytes 44 are);
}

pub segment_spelled : (bytes : List ℕ) → AreBytes bytes → 48 ≤ length bytes → Spells segment_row FitsSegment bytes (segment_at bytes)
unfolding segment_row segment_at
segment_spelled bytes are within = hash_and_numbers segment_row FitsSegment (segment_at bytes) bytes are within refl
    (λ h a b c d. record { xorb_hash = h; xorb_flags = a; unpacked_segment_bytes = b; chunk_index_start = c; chunk_index_end = d })

pub xorb_header_spelled : (bytes : List ℕ) → AreBytes bytes → 48 ≤ length bytes
    → Spells xorb_header_row FitsXorbHeader bytes (xorb_header_at bytes)
unfolding xorb_header_row xorb_header_at
xorb_header_spelled bytes are within = hash_and_numbers xorb_header_row FitsXorbHeader (xorb_header_at bytes) bytes are within refl
    (λ h a b c d. record { xorb_hash = h; xorb_flags = a; num_entries = b; num_bytes_in_xorb = c; num_bytes_on_disk = d })

pub chunk_spelled : (bytes : List ℕ) → AreBytes bytes → 48 ≤ length bytes → Spells chunk_row FitsChunk bytes (chunk_at bytes)
unfolding chunk_row chunk_at
chunk_spelled bytes are within = hash_and_numbers chunk_row FitsChunk (chunk_at bytes) bytes are within refl
    (λ h a b c d. record { chunk_hash = h; chunk_byte_range_start = a; unpacked_segment_bytes = b; flags = c; unused = d })

-- a hash and two reserved words
hash_and_words : {T : Type 0} (row_bytes : T → List ℕ) (Fits : T → Type 0) (row : T) (bytes : List ℕ) → AreBytes bytes → 48 ≤ length bytes
    → row_bytes row ≡ hash_bytes (hash_at bytes) ++ flat_map u64_bytes (u64_at bytes 32 ∷ u64_at bytes 40 ∷ [])
    → (IsHash (hash_at bytes) → IsReserved (u64_at bytes 32 ∷ u64_at bytes 40 ∷ []) → Fits row) → Spells row_bytes Fits bytes row
hash_and_words row_bytes Fits row bytes are within row_is fits = record {
  row_is = row_is
      ∙ ap (λ end. hash_bytes (hash_at bytes) ++ (u64_bytes (u64_at bytes 32) ++ end)) (append-nil (u64_bytes (u64_at bytes 40)))
      ∙ sym (append_assoc (hash_bytes (hash_at bytes)) (u64_bytes (u64_at bytes 32)) (u64_bytes (u64_at bytes 40)))
      ∙ more_64 bytes _ 40 are (omega arith) (more_64 bytes _ 32 are (omega arith) (hash_spelled bytes are (omega arith)));
  fits = fits (hash_fits bytes are)
      (record { first = u64_at bytes 32; second = u64_at bytes 40; words_are = refl; first_fits = u64_fits bytes 32 are; second_fits = u64_fits bytes 40 are });
}

pub hash_row_spelled : (bytes : List ℕ) → AreBytes bytes → 48 ≤ length bytes → Spells hash_row FitsHashRow bytes (hash_row_at bytes)
unfolding hash_row hash_row_at
hash_row_spelled bytes are within =
    hash_and_words hash_row FitsHashRow (hash_row_at bytes) bytes are within refl (λ h words. record { hash = h; unused = words })

-- a hash, two numbers and a reserved word
pub header_spelled : (bytes : List ℕ) → AreBytes bytes → 48 ≤ length bytes → Spells header_row FitsHeader bytes (header_at bytes)
unfolding header_row header_at
header_spelled bytes are within = record {
  row_is = more_64 bytes _ 40 are (omega arith) (more_32 bytes _ 36 are (omega arith) (more_32 bytes _ 32 are (omega arith) (hash_spelled bytes are (omega arith))));
  fits = record { file_hash = hash_fits bytes are; file_flags = u32_fits bytes 32 are; num_entries = u32_fits bytes 36 are; unused = u64_fits bytes 40 are };
}
