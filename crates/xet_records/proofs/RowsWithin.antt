-- Rows within the bytes of a record: the row at an index, and rows from an index on, are those of the record.
use Rattle.std.proofs.Common.{◌≡◌, ℕ, zero, suc, ◌+◌, ◌*◌, ◌<◌, ◌≤◌, List, [], ◌∷◌, ◌++◌, length, take, drop, flat_map, Some, refl, sym, ap, ◌∙◌, arith, append-nil}
use Rattle.std.specs.Prelude.{All, map}
use Rattle.std.specs.List.{slice_get}
use Rattle.std.proofs.lemmas.List.{length-append, length-take-le, append_assoc, drop-drop, take-append-drop}
use Rattle.std.proofs.lemmas.List.Elements.{All-drop, All-take}
use Rattle.std.proofs.lemmas.Grind.{flat_map-append}
use Rattle.xet_base.proofs.Lists.{front_is, rest_is, parts_front}
use Rattle.xet_records.specs.FileRow.{segment_row, hash_row, FitsSegment, FitsHashRow}
use Rattle.xet_records.specs.XorbRow.{chunk_row, FitsChunk}
use Rattle.xet_records.specs.Rows.{ReadsRow, ReadsRows}
use Rattle.xet_records.proofs.Lengths.{length-segment_row, length-hash_row, length-chunk_row}
use Rattle.xet_records.proofs.Unique.{segment_row-injective, hash_row-injective}
use Rattle.xet_records.proofs.XorbUnique.{chunk_row-injective}

-- a row of a type has 48 bytes, which determine it
pub record RowLaws {T : Type 0} (row_bytes : T → List ℕ) (Fits : T → Type 0) : Type 0 where
  pub size : (t : T) → Fits t → length (row_bytes t) ≡ 48
  pub injective : (s t : T) → Fits s → Fits t → row_bytes s ≡ row_bytes t → s ≡ t

pub segment_laws : RowLaws segment_row FitsSegment
segment_laws = record { size = λ t _. length-segment_row t; injective = segment_row-injective }

pub hash_laws : RowLaws hash_row FitsHashRow
hash_laws = record { size = length-hash_row; injective = hash_row-injective }

pub chunk_laws : RowLaws chunk_row FitsChunk
chunk_laws = record { size = λ t _. length-chunk_row t; injective = chunk_row-injective }

-- the bytes have these rows, after so many others
pub record HasRows {T : Type 0} (row_bytes : T → List ℕ) (Fits : T → Type 0) (bytes : List ℕ) (start : ℕ) (rows : List T) : Type 0 where
  pub before : List ℕ
  pub after : List ℕ
  pub start_is : length before ≡ 48 * start
  pub fit : All Fits rows
  pub bytes_are : bytes ≡ before ++ (flat_map row_bytes rows ++ after)

module _ {T : Type 0} (row_bytes : T → List ℕ) (Fits : T → Type 0) (laws : RowLaws row_bytes Fits) where
  pub length-rows : (rows : List T) → All Fits rows → length (flat_map row_bytes rows) ≡ 48 * length rows
  length-rows [] fit = refl
  length-rows (row ∷ rows) fit =
      length-append (row_bytes row) (flat_map row_bytes rows)
      ∙ omega (arith, laws.size row (fit 0 row (omega arith)), length-rows rows (All-drop Fits 1 (row ∷ rows) fit))

  pub rows_within : (bytes : List ℕ) (start : ℕ) (rows : List T) → HasRows row_bytes Fits bytes start rows → 48 * start + 48 * length rows ≤ length bytes
  rows_within bytes start rows has =
      omega (
        arith,
        ap length has.bytes_are,
        length-append has.before (flat_map row_bytes rows ++ has.after),
        length-append (flat_map row_bytes rows) has.after,
        length-rows rows has.fit,
        has.start_is,
      )

  -- the row at an index
  row_among : (rows : List T) (i : ℕ) (after : List ℕ) (stored : T) → All Fits rows → i < length rows → Fits stored
      → row_bytes stored ≡ take 48 (drop (48 * i) (flat_map row_bytes rows ++ after)) → slice_get rows i ≡ Some stored
  row_among [] i after stored fit within fits same = absurd (omega arith)
  row_among (row ∷ rows) zero after stored fit within fits same =
      let row_fits : Fits row = fit 0 row (omega arith) in
      let front = front_is 48 ((row_bytes row ++ flat_map row_bytes rows) ++ after) (row_bytes row) (flat_map row_bytes rows ++ after) (laws.size row row_fits)
      (append_assoc (row_bytes row) (flat_map row_bytes rows) after) in
      ap Some (sym (laws.injective stored row fits row_fits (same ∙ front)))
  row_among (row ∷ rows) (suc i) after stored fit within fits same =
      let row_fits : Fits row = fit 0 row (omega arith) in
      let size = laws.size row row_fits in
      let rest = rest_is 48 ((row_bytes row ++ flat_map row_bytes rows) ++ after) (row_bytes row) (flat_map row_bytes rows ++ after) size
      (append_assoc (row_bytes row) (flat_map row_bytes rows) after) in
      row_among rows i after stored (All-drop Fits 1 (row ∷ rows) fit) (omega arith) fits
      (same ∙ ap (λ n. take 48 (drop n ((row_bytes row ++ flat_map row_bytes rows) ++ after))) (omega arith)
      ∙ ap (take 48) (sym (drop-drop (48 * i) 48 ((row_bytes row ++ flat_map row_bytes rows) ++ after))) ∙ ap (λ bs. take 48 (drop (48 * i) bs)) rest)

  -- after the bytes before the rows
  there : (bytes : List ℕ) (start : ℕ) (rows : List T) → (has : HasRows row_bytes Fits bytes start rows) → (i : ℕ)
      → drop (48 * (start + i)) bytes ≡ drop (48 * i) (flat_map row_bytes rows ++ has.after)
  there bytes start rows has i =
      ap (λ n. drop n bytes) (omega arith) ∙ sym (drop-drop (48 * i) (48 * start) bytes)
      ∙ ap (drop (48 * i)) (rest_is (48 * start) bytes has.before (flat_map row_bytes rows ++ has.after) has.start_is has.bytes_are)

  pub row_at_index : (as_read : T → T) (bytes : List ℕ) (start : ℕ) (rows : List T) (i at : ℕ) (result : T) → HasRows row_bytes Fits bytes start rows
      → i < length rows → at ≡ start + i → ReadsRow row_bytes Fits as_read (λ row. row ≡ take 48 (drop (48 * at) bytes)) result
      → (stored : T) × (slice_get rows i ≡ Some stored) × (as_read stored ≡ result)
  row_at_index as_read bytes start rows i at result has within at_is read = (
    read.stored,
    row_among rows i has.after read.stored has.fit within read.widths
        (read.taken ∙ ap (λ n. take 48 (drop (48 * n) bytes)) at_is ∙ ap (take 48) (there bytes start rows has i)),
    read.returned,
  )

  -- the bytes of rows from an index on
  pub bytes_of_rows : (bytes : List ℕ) (start : ℕ) (rows : List T) (at count : ℕ) → HasRows row_bytes Fits bytes start rows → at ≡ start → count ≡ length rows
      → take (48 * count) (drop (48 * at) bytes) ≡ flat_map row_bytes rows
  bytes_of_rows bytes start rows at count has at_is count_is =
      front_is (48 * count) (drop (48 * at) bytes) (flat_map row_bytes rows) has.after (length-rows rows has.fit ∙ omega (arith, count_is))
      (rest_is (48 * at) bytes has.before (flat_map row_bytes rows ++ has.after) (has.start_is ∙ omega (arith, at_is)) has.bytes_are)

  -- the bytes have also some of the rows
  pub some_rows : (bytes : List ℕ) (start : ℕ) (rows : List T) (from n : ℕ) → HasRows row_bytes Fits bytes start rows → from + n ≤ length rows
      → HasRows row_bytes Fits bytes (start + from) (take n (drop from rows))
  some_rows bytes start rows from n has within =
      let first = take from rows in
      let rest = drop from rows in
      let first_fit = All-take Fits from rows has.fit in
      let parts : flat_map row_bytes rows ≡ flat_map row_bytes first ++ (flat_map row_bytes (take n rest) ++ flat_map row_bytes (drop n rest)) =
      ap (flat_map row_bytes) (sym (take-append-drop from rows)) ∙ flat_map-append row_bytes first rest
      ∙ ap (λ bs. flat_map row_bytes first ++ bs) (ap (flat_map row_bytes) (sym (take-append-drop n rest)) ∙ flat_map-append row_bytes (take n rest) (drop n rest)) in
      record {
        before = has.before ++ flat_map row_bytes first;
        after = flat_map row_bytes (drop n rest) ++ has.after;
        start_is = length-append has.before (flat_map row_bytes first)
            ∙ omega (arith, has.start_is, length-rows first first_fit, length-take-le from rows (omega (arith, within)));
        fit = All-take Fits n rest (All-drop Fits from rows has.fit);
        bytes_are = has.bytes_are ∙ ap (λ bs. has.before ++ (bs ++ has.after)) parts ∙ simp append_assoc;
      }

  pub rows_from_index : (as_read : T → T) (bytes : List ℕ) (start : ℕ) (rows : List T) (at count : ℕ) (result : List T) → HasRows row_bytes Fits bytes start rows
      → at ≡ start → count ≡ length rows → ReadsRows row_bytes Fits as_read (λ taken. taken ≡ take (48 * count) (drop (48 * at) bytes)) count result
      → result ≡ map as_read rows
  rows_from_index as_read bytes start rows at count result has at_is count_is read =
      let same : read.stored ≡ rows = (parts_front 48 row_bytes Fits laws.size laws.injective read.stored rows [] [] (read.len ∙ count_is) read.widths has.fit
      (append-nil (flat_map row_bytes read.stored) ∙ read.taken ∙ bytes_of_rows bytes start rows at count has at_is count_is ∙ sym (append-nil (flat_map row_bytes rows)))).0 in
      sym read.returned ∙ ap (map as_read) same
