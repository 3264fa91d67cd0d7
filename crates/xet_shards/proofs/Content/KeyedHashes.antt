-- A keyed hash is a hash, and a xorb stays one with its chunk hashes under a key.
use Rattle.std.proofs.Common.{◌≡◌, Bool, true, false, ℕ, zero, suc, ◌+◌, ◌^◌, ◌<◌, ◌≤◌, List, [], ◌∷◌, ◌++◌, length, map, get_or, take, drop, ◌-◌, append-nil, refl, ap, ◌∙◌, arith, if◌then◌else◌}
use Rattle.std.specs.Prelude.{bit_xor, slice_index}
use borrow.Rule.Slice.PartMut.{put_mid}
use Rattle.std.proofs.lemmas.List.{length-map, length-drop, take_all, drop_all}
use Rattle.std.proofs.lemmas.List.Elements.{All-map}
use Rattle.std.proofs.lemmas.List.Sums.{sum_by-cons}
use Rattle.xet_base.specs.declared.merklehash.DataHash.{DataHash}
use Rattle.xet_base.specs.Bytes.{u32_bytes, u64_from_bytes, AreBytes}
use Rattle.xet_base.specs.Hash.{IsHash, hash_bytes, hash_eq}
use Rattle.xet_base.specs.KeyedHash.{hmac, hash_of, keyed_bytes, digest, state_after, initial_state, message_of, no_key, under_key}
use Rattle.xet_base.proofs.Bytes.{take-bytes, drop-bytes, append-bytes}
use Rattle.xet_records.specs.declared.xorb_structs.MDBXorbInfo.{MDBXorbInfo}
use Rattle.xet_records.specs.declared.xorb_structs.XorbChunkSequenceEntry.{XorbChunkSequenceEntry}
use Rattle.xet_records.specs.XorbRow.{FitsChunk}
use Rattle.xet_records.specs.XorbRecord.{xorb_records, xorb_row_count, IsStoredXorb}
use Rattle.xet_shards.specs.Write.Section.{total_rows}
use Rattle.xet_shards.specs.Write.WithOptions.{FitsSection}
use Rattle.xet_shards.specs.Export.KeyedExport.{keyed_chunk, keyed_xorb, keyed_xorbs}

u32_are : (n : ℕ) → AreBytes (u32_bytes n)
unfolding u32_bytes
u32_are n zero = omega arith
u32_are n (suc zero) = omega arith
u32_are n (suc (suc zero)) = omega arith
u32_are n (suc (suc (suc zero))) = omega arith
u32_are n (suc (suc (suc (suc i)))) = omega arith

digest_are : (v : List ℕ) → AreBytes (digest v)
unfolding digest
digest_are v =
    let word : ℕ → List ℕ = λ i. u32_bytes (bit_xor (slice_index v i) (slice_index v (i + 8))) in
    let are : (i : ℕ) → AreBytes (word i) = λ i. u32_are (bit_xor (slice_index v i) (slice_index v (i + 8))) in
    let two = append-bytes (word 0) (word 1) (are 0) (are 1) in
    let three = append-bytes (word 0 ++ word 1) (word 2) two (are 2) in
    let four = append-bytes ((word 0 ++ word 1) ++ word 2) (word 3) three (are 3) in
    let five = append-bytes (((word 0 ++ word 1) ++ word 2) ++ word 3) (word 4) four (are 4) in
    let six = append-bytes ((((word 0 ++ word 1) ++ word 2) ++ word 3) ++ word 4) (word 5) five (are 5) in
    let seven = append-bytes (((((word 0 ++ word 1) ++ word 2) ++ word 3) ++ word 4) ++ word 5) (word 6) six (are 6) in
    append-bytes ((((((word 0 ++ word 1) ++ word 2) ++ word 3) ++ word 4) ++ word 5) ++ word 6) (word 7) seven (are 7)

keyed_are : (key message : List ℕ) → AreBytes (keyed_bytes key message)
unfolding keyed_bytes
keyed_are key message = digest_are (state_after 7 (initial_state key) (message_of message))

below_64 : (bytes : List ℕ) → AreBytes bytes → u64_from_bytes bytes < 2 ^ 64
unfolding u64_from_bytes
below_64 bytes are = omega (arith, are 0, are 1, are 2, are 3, are 4, are 5, are 6, are 7)

hash_of_fits : (bytes : List ℕ) → AreBytes bytes → IsHash (hash_of bytes)
unfolding hash_of
hash_of_fits bytes are = record {
  word0 = below_64 (take 8 bytes) (take-bytes 8 bytes are);
  word1 = below_64 (take 8 (drop 8 bytes)) (take-bytes 8 (drop 8 bytes) (drop-bytes 8 bytes are));
  word2 = below_64 (take 8 (drop 16 bytes)) (take-bytes 8 (drop 16 bytes) (drop-bytes 16 bytes are));
  word3 = below_64 (take 8 (drop 24 bytes)) (take-bytes 8 (drop 24 bytes) (drop-bytes 24 bytes are));
}

hmac_fits : (key hash : DataHash) → IsHash (hmac key hash)
hmac_fits key hash = hash_of_fits (keyed_bytes (hash_bytes key) (hash_bytes hash)) (keyed_are (hash_bytes key) (hash_bytes hash))

under_key_fits : (key hash : DataHash) → IsHash hash → IsHash (under_key key hash)
under_key_fits key hash fits = by_key (hash_eq key no_key)
  where
    by_key : (none : Bool) → IsHash (if none then hash else hmac key hash)
    by_key true = fits
    by_key false = hmac_fits key hash

keyed_chunk_fits : (key : DataHash) (c : XorbChunkSequenceEntry) → FitsChunk c → FitsChunk (keyed_chunk key c)
keyed_chunk_fits key c fits = record {
  chunk_hash = under_key_fits key c.chunk_hash fits.chunk_hash;
  chunk_byte_range_start = fits.chunk_byte_range_start;
  unpacked_segment_bytes = fits.unpacked_segment_bytes;
  flags = fits.flags;
  unused = fits.unused;
}

pub keyed_stored : (key : DataHash) (r : MDBXorbInfo) → IsStoredXorb r → IsStoredXorb (keyed_xorb key r)
keyed_stored key r stored = record {
  is_xorb = stored.is_xorb;
  count = length-map r.chunks (keyed_chunk key) ∙ stored.count;
  widths = record {
    metadata = stored.widths.metadata;
    chunks = All-map FitsChunk (keyed_chunk key) r.chunks (λ k c below. keyed_chunk_fits key (get_or r.chunks k c) (stored.widths.chunks k c below));
  };
}

pub keyed_rows : (key : DataHash) (r : MDBXorbInfo) → xorb_row_count (keyed_xorb key r) ≡ xorb_row_count r
keyed_rows key r = omega (arith, length-map r.chunks (keyed_chunk key))

pub keyed_total : (key : DataHash) (xorbs : List MDBXorbInfo) → total_rows xorb_records (keyed_xorbs key xorbs) ≡ total_rows xorb_records xorbs
keyed_total key [] = refl
keyed_total key (r ∷ xorbs) = omega (
  arith,
  sum_by-cons xorb_row_count (keyed_xorb key r) (keyed_xorbs key xorbs),
  sum_by-cons xorb_row_count r xorbs,
  keyed_rows key r,
  keyed_total key xorbs,
)

pub keyed_section : (key : DataHash) (xorbs : List MDBXorbInfo) → FitsSection xorb_records xorbs → FitsSection xorb_records (keyed_xorbs key xorbs)
keyed_section key xorbs fits = record {
  stored = All-map IsStoredXorb (keyed_xorb key) xorbs (λ k r below. keyed_stored key (get_or xorbs k r) (fits.stored k r below));
  rows = omega (arith, keyed_total key xorbs, fits.rows);
}

-- the elements of a list are mapped in place, some after others
more_mapped : {X : Type 0} (f : X → X) (xs : List X) (k n m : ℕ) → m ≡ k + n → k ≤ length xs
    → (let ys : List X = map f (take k xs) ++ drop k xs in take k ys ++ (map f (take n (drop k ys)) ++ drop n (drop k ys))) ≡ map f (take m xs) ++ drop m xs
more_mapped f xs zero n m is within = let same : n ≡ m = omega (arith, is) in ap (λ j. map f (take j xs) ++ drop j xs) same
more_mapped f [] (suc k) n m is within = absurd (omega (arith, within))
more_mapped f (x ∷ xs) (suc k) n zero is within = absurd (omega (arith, is))
more_mapped f (x ∷ xs) (suc k) n (suc m) is within = ap (λ ys. f x ∷ ys) (more_mapped f xs k n m (omega (arith, is)) (omega (arith, within)))

-- as a write to the elements from a place on leaves them
pub part_mapped : {X : Type 0} (f : X → X) (xs ys part : List X) (k n : ℕ) → ys ≡ map f (take k xs) ++ drop k xs → k ≤ length xs
    → (let old : List X = take (length ys - k) (drop k ys) in part ≡ map f (take n old) ++ drop n old) → put_mid k (length ys - k) ys part ≡ map f (take (k + n) xs) ++ drop (k + n) xs
part_mapped f xs ys part k n are within is =
    let whole = take_all (length ys - k) (drop k ys) (omega (arith, length-drop k ys)) in
    let none = drop_all (length ys - k) (drop k ys) (omega (arith, length-drop k ys)) in
    ap (λ zs. take k ys ++ (part ++ zs)) none ∙ ap (λ zs. take k ys ++ zs) (append-nil part ∙ is ∙ ap (λ old. map f (take n old) ++ drop n old) whole)
    ∙ ap (λ zs. take k zs ++ (map f (take n (drop k zs)) ++ drop n (drop k zs))) are ∙ more_mapped f xs k n (k + n) refl within

-- a function of all elements up to some place past the last is one of all
pub all_mapped : {X : Type 0} (f : X → X) (xs : List X) (k : ℕ) → length xs ≤ k → map f (take k xs) ++ drop k xs ≡ map f xs
all_mapped f [] zero past = refl
all_mapped f [] (suc k) past = refl
all_mapped f (x ∷ xs) zero past = absurd (omega (arith, past))
all_mapped f (x ∷ xs) (suc k) past = ap (λ ys. f x ∷ ys) (all_mapped f xs k (omega (arith, past)))

-- four hashes under a key
pub under_key_each : (key : DataHash) (hashes : List DataHash) → map (under_key key) hashes ≡ if hash_eq key no_key then hashes else map (hmac key) hashes
under_key_each key hashes = by_key (hash_eq key no_key) hashes
  where
    by_key : (b : Bool) (hs : List DataHash) → map (λ h. if b then h else hmac key h) hs ≡ if b then hs else map (hmac key) hs
    by_key true [] = refl
    by_key true (h ∷ hs) = ap (λ xs. h ∷ xs) (by_key true hs)
    by_key false hs = refl
