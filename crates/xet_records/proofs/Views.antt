-- The record that a view shows, and its rows in the view's bytes.
use Rattle.std.proofs.Common.{◌≡◌, ℕ, ◌+◌, ◌*◌, ◌≤◌, List, [], ◌++◌, length, take, drop, flat_map, Option, None, Some, refl, sym, ap, ◌∙◌, arith, subst, append-nil}
use Rattle.std.specs.Prelude.{option_map, option_to_list}
use Rattle.std.specs.List.{slice_get}
use Rattle.std.proofs.lemmas.List.{length-append, length-take-le, length-drop, append_assoc, take-append-drop, take-append-le, take_all}
use Rattle.std.proofs.lemmas.List.Elements.{All-take, All-drop, All-same}
use Rattle.std.proofs.lemmas.Grind.{flat_map-append}
use Rattle.xet_base.specs.Bytes.{AreBytes}
use Rattle.xet_base.proofs.Bytes.{take-bytes, drop-bytes}
use Rattle.xet_base.proofs.Lists.{front_is, rest_is}
use Rattle.xet_records.specs.declared.file_structs.header.FileDataSequenceHeader.{FileDataSequenceHeader}
use Rattle.xet_records.specs.declared.file_structs.part.OptionalPart.{OptionalPart}
use Rattle.xet_records.specs.declared.file_structs.rows.HashRow.{HashRow}
use Rattle.xet_records.specs.declared.file_structs.MDBFileInfo.{MDBFileInfo}
use Rattle.xet_records.specs.declared.xorb_structs.XorbChunkSequenceHeader.{XorbChunkSequenceHeader}
use Rattle.xet_records.specs.declared.xorb_structs.MDBXorbInfo.{MDBXorbInfo}
use Rattle.xet_records.specs.FileRow.{header_row, segment_row, hash_row, FitsHeader, FitsSegment, FitsHashRow, clear}
use Rattle.xet_records.specs.Part.{part_rows, rows_before, optional_rows_after, rows_of, optional_rows, part_of}
use Rattle.xet_records.specs.FileRecord.{rows_after, file_record_bytes, file_rows_bytes, file_records}
use Rattle.xet_records.specs.XorbRow.{xorb_header_row, chunk_row, FitsXorbHeader, FitsChunk}
use Rattle.xet_records.specs.XorbRecord.{xorb_record_bytes, xorb_records}
use Rattle.xet_records.specs.Decoding.{segment_at, hash_row_at, chunk_at, rows_at, file_at, xorb_at}
use Rattle.xet_records.specs.DecodingLaws.{segment_spelled, hash_row_spelled, chunk_spelled}
use Rattle.xet_records.specs.RecordKind.{RecordKind}
use Rattle.xet_records.specs.View.{IsWholeFile, IsWholeXorb, BeginsWithHeaderRow, BeginsWithRecord, Shows, ShowsRecord}
use Rattle.xet_records.proofs.Lengths.{length-header_row, length-segment_rows, length-hash_rows, length-xorb_header_row}
use Rattle.xet_records.proofs.Parts.{PartHolds, before_part, after_part, rows_split, length-before_part, part_within, length-part_of, parts-of-rows, holds_announced, rows_of-with_parts, optional_rows-with_parts}
use Rattle.xet_records.proofs.Decoding.{rows_spelled}
use Rattle.xet_records.proofs.RowsWithin.{HasRows}

-- bytes that are as long as a header says, and begin with it, are the bytes of the record that they spell
file_shown : (header : FileDataSequenceHeader) (bytes : List ℕ) → FitsHeader header → AreBytes bytes → rows_after header ≤ 4294967295
    → length bytes ≡ 48 + 48 * rows_after header → take 48 bytes ≡ header_row header → Shows file_records IsWholeFile header bytes (file_at header bytes)
unfolding file_at file_record_bytes file_rows_bytes
file_shown header bytes fits are few size begins =
    let segments = header.num_entries in
    let total = optional_rows_after header in
    let first = drop 48 bytes in
    let second = drop (48 * segments) first in
    let first_are = drop-bytes 48 bytes are in
    let second_are = drop-bytes (48 * segments) first first_are in
    let first_size : length first ≡ 48 * rows_after header = omega (arith, size, length-drop 48 bytes) in
    let second_size : length second ≡ 48 * total = omega (arith, first_size, length-drop (48 * segments) first) in
    let s = rows_spelled segment_row FitsSegment segment_at segment_spelled segments first first_are (omega (arith, first_size)) in
    let e = rows_spelled hash_row FitsHashRow hash_row_at hash_row_spelled total second second_are (omega (arith, second_size)) in
    let spelled = rows_at hash_row_at total second in
    let rows : OptionalPart → List HashRow = λ part. part_of part header spelled in
    let len : (part : OptionalPart) → length (rows part) ≡ part_rows part header = λ part. length-part_of header spelled e.len part in
    let holds : (part : OptionalPart) → PartHolds part (rows part) = λ part. holds_announced header part (rows part) (len part) in
    let found : (part : OptionalPart) → rows_of part (file_at header bytes) ≡ rows part = rows_of-with_parts header (rows_at segment_at segments first) rows holds in
    let all : optional_rows (file_at header bytes) ≡ spelled = optional_rows-with_parts header (rows_at segment_at segments first) rows holds ∙ parts-of-rows header spelled e.len in
    let rows_are : second ≡ flat_map hash_row (optional_rows (file_at header bytes)) =
    sym (ap (flat_map hash_row) all ∙ e.rows_are ∙ take_all (48 * total) second (omega (arith, second_size))) in
    let after_header = sym (take-append-drop (48 * segments) first) ∙ (λ i. sym s.rows_are i ++ rows_are i) in
    record {
      same_header = refl;
      whole = record {
        parts = record { segments = s.len; parts = λ part. ap length (found part) ∙ len part };
        widths = record { metadata = fits; segments = s.fit; parts = All-same FitsHashRow (optional_rows (file_at header bytes)) spelled all e.fit };
      };
      rows = few;
      bytes_are = sym (take-append-drop 48 bytes) ∙ (λ i. begins i ++ after_header i);
    }

xorb_shown : (header : XorbChunkSequenceHeader) (bytes : List ℕ) → FitsXorbHeader header → AreBytes bytes → header.num_entries ≤ 4294967295
    → length bytes ≡ 48 + 48 * header.num_entries → take 48 bytes ≡ xorb_header_row header → Shows xorb_records IsWholeXorb header bytes (xorb_at header bytes)
unfolding xorb_at xorb_record_bytes
xorb_shown header bytes fits are few size begins =
    let after = drop 48 bytes in
    let after_size : length after ≡ 48 * header.num_entries = omega (arith, size, length-drop 48 bytes) in
    let c = rows_spelled chunk_row FitsChunk chunk_at chunk_spelled header.num_entries after (drop-bytes 48 bytes are) (omega (arith, after_size)) in
    let after_header = sym (c.rows_are ∙ take_all (48 * header.num_entries) after (omega (arith, after_size))) in
    record {
      same_header = refl;
      whole = record { count = c.len; widths = record { metadata = fits; chunks = c.fit } };
      rows = few;
      bytes_are = sym (take-append-drop 48 bytes) ∙ (λ i. begins i ++ after_header i);
    }

-- what decoding gives is shown by bytes that are long enough and begin with the header
pub record DecodingLaws {H R : Type 0} (K : RecordKind H R) (IsWhole : R → Type 0) (record_at : H → List ℕ → R) : Type 0 where
  pub header_size : (header : H) → length (K.header_bytes header) ≡ 48
  pub shows : (header : H) (bytes : List ℕ) → K.Fits header → AreBytes bytes → K.rows_after header ≤ 4294967295
      → length bytes ≡ 48 + 48 * K.rows_after header → take 48 bytes ≡ K.header_bytes header → Shows K IsWhole header bytes (record_at header bytes)

pub file_decoding : DecodingLaws file_records IsWholeFile file_at
file_decoding = record { header_size = length-header_row; shows = file_shown }

pub xorb_decoding : DecodingLaws xorb_records IsWholeXorb xorb_at
xorb_decoding = record { header_size = length-xorb_header_row; shows = xorb_shown }

module _ {H R : Type 0} (K : RecordKind H R) (IsWhole : R → Type 0) where
  pub header_begins : (header : H) (bytes : List ℕ) → K.Fits header → take 48 bytes ≡ K.header_bytes header → BeginsWithHeaderRow K bytes header
  header_begins header bytes fits front = record {
    rest = drop 48 bytes;
    widths = fits;
    bytes_are = sym (take-append-drop 48 bytes) ∙ ap (λ bs. bs ++ drop 48 bytes) front;
  }

  -- bytes that are cut to a record show it
  pub cut_shown : (record_at : H → List ℕ → R) → DecodingLaws K IsWhole record_at → (header : H) (bytes cut : List ℕ) (count : ℕ) → BeginsWithHeaderRow K bytes header
      → AreBytes bytes → count ≡ K.rows_after header → count ≤ 4294967295 → 48 + 48 * count ≤ length bytes → cut ≡ take (48 + 48 * count) bytes
      → Shows K IsWhole header cut (record_at header cut)
  cut_shown record_at laws header bytes cut count begins are count_is few enough cut_is =
      let size = 48 + 48 * count in
      let cut_size : length cut ≡ size = ap length cut_is ∙ length-take-le size bytes enough in
      let front : take 48 cut ≡ K.header_bytes header =
      ap (take 48) cut_is ∙ sym (take-append-le 48 (take size bytes) (drop size bytes) (omega (arith, length-take-le size bytes enough)))
      ∙ ap (take 48) (take-append-drop size bytes) ∙ front_is 48 bytes (K.header_bytes header) begins.rest (laws.header_size header) begins.bytes_are in
      laws.shows header cut begins.widths (subst AreBytes (sym cut_is) (take-bytes size bytes are)) (omega (arith, count_is)) (cut_size ∙ omega (arith, count_is)) front

  -- what the cut bytes show is what the bytes begin with
  pub shown_begins : (header : H) (bytes cut : List ℕ) (n : ℕ) (r : R) → cut ≡ take n bytes → Shows K IsWhole header cut r
      → BeginsWithRecord K IsWhole bytes r × (K.header_of r ≡ header)
  shown_begins header bytes cut n r cut_is shown = (
    record {
      rest = drop n bytes;
      whole = shown.whole;
      rows = subst (λ (h : H). K.rows_after h ≤ 4294967295) (sym shown.same_header) shown.rows;
      bytes_are = sym (take-append-drop n bytes) ∙ ap (λ bs. bs ++ drop n bytes) (sym cut_is ∙ shown.bytes_are);
    },
    shown.same_header,
  )

  -- the bytes and the record under other names
  pub shown_as : (header : H) (bytes cs : List ℕ) (r s : R) → bytes ≡ cs → r ≡ s → Shows K IsWhole header bytes r → Shows K IsWhole header cs s
  shown_as header bytes cs r s bytes_are r_is shown = subst (Shows K IsWhole header cs) r_is (subst (λ bs. Shows K IsWhole header bs r) bytes_are shown)

-- the rows of a record in the bytes that show it
module _ (header : FileDataSequenceHeader) (bytes : List ℕ) (r : MDBFileInfo) (shown : Shows file_records IsWholeFile header bytes r) where
  pub has_segments : HasRows segment_row FitsSegment bytes 1 r.segments
  unfolding file_record_bytes file_rows_bytes
  has_segments =
      let s = flat_map segment_row r.segments in
      let e = flat_map hash_row (optional_rows r) in
      record {
        before = header_row r.metadata;
        after = e;
        start_is = length-header_row r.metadata;
        fit = shown.whole.widths.segments;
        bytes_are = shown.bytes_are;
      }

  -- the rows of parts from some on
  has_rows : (xs ys zs : List HashRow) (start : ℕ) → optional_rows r ≡ xs ++ (ys ++ zs) → start ≡ 1 + length r.segments + length xs → HasRows hash_row FitsHashRow bytes start ys
  unfolding file_record_bytes file_rows_bytes
  has_rows xs ys zs start split start_is =
      let h = header_row r.metadata in
      let s = flat_map segment_row r.segments in
      let all = All-same FitsHashRow (xs ++ (ys ++ zs)) (optional_rows r) (sym split) shown.whole.widths.parts in
      let front = All-same FitsHashRow xs (take (length xs) (xs ++ (ys ++ zs))) (sym (front_is (length xs) _ xs (ys ++ zs) refl refl)) (All-take FitsHashRow (length xs) _ all) in
      let rest = All-same FitsHashRow (ys ++ zs) (drop (length xs) (xs ++ (ys ++ zs))) (sym (rest_is (length xs) _ xs (ys ++ zs) refl refl)) (All-drop FitsHashRow (length xs) _ all) in
      let x = flat_map hash_row xs in
      let y = flat_map hash_row ys in
      let z = flat_map hash_row zs in
      let rows_are : flat_map hash_row (optional_rows r) ≡ x ++ (y ++ z) =
      ap (flat_map hash_row) split ∙ flat_map-append hash_row xs (ys ++ zs) ∙ ap (λ bs. x ++ bs) (flat_map-append hash_row ys zs) in
      record {
        before = h ++ (s ++ x);
        after = z;
        start_is = length-append h (s ++ x)
            ∙ omega (arith, length-append s x, length-header_row r.metadata, length-segment_rows r.segments, length-hash_rows xs front, start_is);
        fit = All-same FitsHashRow ys (take (length ys) (ys ++ zs)) (sym (front_is (length ys) _ ys zs refl refl)) (All-take FitsHashRow (length ys) _ rest);
        bytes_are = shown.bytes_are ∙ ap (λ bs. h ++ (s ++ bs)) rows_are ∙ ap (λ bs. h ++ bs) (sym (append_assoc s x (y ++ z))) ∙ sym (append_assoc h (s ++ x) (y ++ z));
      }

  pub has_part_rows : (part : OptionalPart) → HasRows hash_row FitsHashRow bytes (1 + length r.segments + rows_before part r.metadata) (rows_of part r)
  has_part_rows part =
      has_rows (before_part (λ p. rows_of p r) part) (rows_of part r) (after_part (λ p. rows_of p r) part) _ (rows_split (λ p. rows_of p r) part)
      (ap (λ n. 1 + length r.segments + n) (sym (length-before_part (λ p. rows_of p r) r.metadata shown.whole.parts.parts part)))

  -- rows up to the end of a part
  pub part_small : (part : OptionalPart) → 1 + length r.segments + rows_before part r.metadata + length (rows_of part r) ≤ 4294967296
  part_small part = omega (
    arith,
    ap rows_after shown.same_header,
    shown.rows,
    shown.whole.parts.segments,
    part_within r.metadata part,
    shown.whole.parts.parts part,
  )

  pub part_count : (part : OptionalPart) → length (rows_of part r) ≡ part_rows part header
  part_count part = shown.whole.parts.parts part ∙ ap (part_rows part) shown.same_header

-- an optional row
pub no_row : (row : Option HashRow) → length (option_to_list row) ≡ 0 → None ≡ option_map clear row
no_row None none = refl
no_row (Some row) none = absurd (omega (arith, none))

pub the_row : (row : Option HashRow) (stored found : HashRow) → slice_get (option_to_list row) 0 ≡ Some stored
    → clear stored ≡ found → Some found ≡ option_map clear row
the_row None stored found there returned = cc
the_row (Some row) stored found there returned = ap Some (sym returned) ∙ ap (option_map clear) (sym there)

pub has_chunks : (header : XorbChunkSequenceHeader) (bytes : List ℕ) (r : MDBXorbInfo) → Shows xorb_records IsWholeXorb header bytes r
    → HasRows chunk_row FitsChunk bytes 1 r.chunks
unfolding xorb_record_bytes
has_chunks header bytes r shown = record {
  before = xorb_header_row r.metadata;
  after = [];
  start_is = length-xorb_header_row r.metadata;
  fit = shown.whole.widths.chunks;
  bytes_are = shown.bytes_are ∙ ap (λ bs. xorb_header_row r.metadata ++ bs) (sym (append-nil (flat_map chunk_row r.chunks)));
}

-- what a view shows may be in a section unless it is a bookend
pub file_stored : (header : FileDataSequenceHeader) (bytes : List ℕ) (r : MDBFileInfo) → Shows file_records IsWholeFile header bytes r → ShowsRecord file_records header bytes r
file_stored header bytes r shown = record {
  same_header = shown.same_header;
  is_stored = λ is_file. record {
    is_file = λ ones. is_file (ap (λ (h : FileDataSequenceHeader). h.file_hash) (sym shown.same_header) ∙ ones);
    whole = shown.whole.parts;
    widths = shown.whole.widths;
  };
  bytes_are = shown.bytes_are;
}

pub xorb_stored : (header : XorbChunkSequenceHeader) (bytes : List ℕ) (r : MDBXorbInfo) → Shows xorb_records IsWholeXorb header bytes r → ShowsRecord xorb_records header bytes r
xorb_stored header bytes r shown = record {
  same_header = shown.same_header;
  is_stored = λ is_xorb. record {
    is_xorb = λ ones. is_xorb (ap (λ (h : XorbChunkSequenceHeader). h.xorb_hash) (sym shown.same_header) ∙ ones);
    count = shown.whole.count;
    widths = shown.whole.widths;
  };
  bytes_are = shown.bytes_are;
}
