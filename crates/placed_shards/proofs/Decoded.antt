-- Records and what bytes spell.
use Rattle.std.proofs.Common.{◌≡◌, ◌≢◌, ℕ, ◌+◌, ◌*◌, ◌≤◌, List, [], ◌++◌, length, take, drop, refl, sym, ap, ◌∙◌, subst, arith, append-nil}
use Rattle.std.proofs.lemmas.List.{take-append-drop, take-append-le, length-take-le}
use Rattle.xet_base.specs.Bytes.{AreBytes}
use Rattle.xet_base.specs.Hash.{all_ones}
use Rattle.xet_base.proofs.Lists.{front_is}
use Rattle.xet_records.specs.declared.file_structs.header.FileDataSequenceHeader.{FileDataSequenceHeader}
use Rattle.xet_records.specs.declared.xorb_structs.XorbChunkSequenceHeader.{XorbChunkSequenceHeader}
use Rattle.xet_records.specs.Decoding.{file_at, header_at, xorb_at, xorb_header_at}
use Rattle.xet_records.specs.DecodingLaws.{header_spelled, xorb_header_spelled}
use Rattle.xet_records.specs.FileRecord.{file_records}
use Rattle.xet_records.specs.FileRow.{header_row, FitsHeader}
use Rattle.xet_records.specs.Reading.{BeginsWithHeader}
use Rattle.xet_records.specs.RecordKind.{RecordKind, KindLaws, IsHeaderRow}
use Rattle.xet_records.specs.Rows.{ReadsRow, Spells}
use Rattle.xet_records.specs.View.{BeginsWithHeaderRow, IsWholeFile, IsWholeXorb, Shows}
use Rattle.xet_records.specs.XorbRecord.{xorb_records}
use Rattle.xet_records.specs.XorbRow.{xorb_header_row, FitsXorbHeader}
use Rattle.xet_records.proofs.RecordKinds.{file_laws, xorb_laws, length-record_bytes}
use Rattle.xet_records.proofs.Views.{DecodingLaws, file_decoding, xorb_decoding, file_stored, xorb_stored, header_begins}
use Rattle.placed_shards.specs.Placed.{file_of, xorb_of, IsPlacedFile, IsPlacedXorb}

pub file_header_row : IsHeaderRow file_records header_row FitsHeader (λ h. h)
file_header_row = record { bytes = λ h. refl; widths = λ h fits. fits; same = λ h. refl }

pub xorb_header_is_row : IsHeaderRow xorb_records xorb_header_row FitsXorbHeader (λ h. h)
xorb_header_is_row = record { bytes = λ h. refl; widths = λ h fits. fits; same = λ h. refl }

module _ {H R : Type 0} (K : RecordKind H R) where
  pub header_first : (h : H) (bytes rest : List ℕ) → K.Fits h → bytes ≡ K.header_bytes h ++ rest → K.hash_of h ≢ all_ones → BeginsWithHeader K bytes h rest
  header_first h bytes rest fits begins is_record = record { widths = fits; is_record = is_record; bytes_are = begins }

  -- bytes begin with the header that was read from them
  pub header_read : (row_bytes : H → List ℕ) (Fits : H → Type 0) (as_read : H → H) → IsHeaderRow K row_bytes Fits as_read → (h : H) (bytes : List ℕ)
      → ReadsRow row_bytes Fits as_read (λ row. row ≡ take 48 bytes) h → BeginsWithHeaderRow K bytes h
  header_read row_bytes Fits as_read row h bytes read =
      let is : read.stored ≡ h = sym (row.same read.stored) ∙ read.returned in
      record {
        rest = drop 48 bytes;
        widths = subst K.Fits is (row.widths read.stored read.widths);
        bytes_are = sym (take-append-drop 48 bytes) ∙ ap (λ l. l ++ drop 48 bytes) (sym read.taken ∙ row.bytes read.stored ∙ ap K.header_bytes is);
      }

module _ {H R : Type 0} (K : RecordKind H R) (laws : KindLaws K) where
  -- bytes that are cut after the header that they begin with still do
  pub cut_begins : (h : H) (bytes cut : List ℕ) (size : ℕ) → BeginsWithHeaderRow K bytes h → 48 ≤ size → size ≤ length bytes → cut ≡ take size bytes → BeginsWithHeaderRow K cut h
  cut_begins h bytes cut size begins some within cut_is =
      header_begins K (λ (r : R). Unit {0}) h cut begins.widths
      (ap (take 48) cut_is ∙ sym (take-append-le 48 (take size bytes) (drop size bytes) (omega (arith, length-take-le size bytes within)))
      ∙ ap (take 48) (take-append-drop size bytes) ∙ front_is 48 bytes (K.header_bytes h) begins.rest (laws.header_size h) begins.bytes_are)

  -- a record is the only one with its bytes
  pub same_record : (bytes : List ℕ) (r s : R) → K.IsStored r → K.IsStored s → K.record_bytes r ≡ bytes → bytes ≡ K.record_bytes s → r ≡ s
  same_record bytes r s stored others first second =
      (laws.front r s [] [] stored others (append-nil (K.record_bytes r) ∙ first ∙ second ∙ sym (append-nil (K.record_bytes s)))).0

  module _ (bytes : List ℕ) (r : R) (stored : K.IsStored r) (bytes_are : bytes ≡ K.record_bytes r) where
    pub size_of_record : length bytes ≡ 48 + 48 * K.rows_after (K.header_of r)
    size_of_record = ap length bytes_are ∙ length-record_bytes K laws r stored ∙ omega (arith, laws.rows r stored)

    -- the header that the bytes of a record begin with is the record's
    pub header_of_record : (h : H) → BeginsWithHeaderRow K bytes h → h ≡ K.header_of r
    header_of_record h begins =
        (laws.header_front h (K.header_of r) begins.rest (K.bytes_after r) begins.widths (laws.header_fits r stored) (sym begins.bytes_are ∙ bytes_are ∙ laws.record_bytes_are r)).0

-- what bytes spell that begin with a header and have its rows
module _ {H R : Type 0} (K : RecordKind H R) (laws : KindLaws K) (IsWhole : R → Type 0) (header_of_bytes : List ℕ → H) (record_at : H → List ℕ → R)
    (spelled : (bytes : List ℕ) → AreBytes bytes → 48 ≤ length bytes → Spells K.header_bytes K.Fits bytes (header_of_bytes bytes)) (decoding : DecodingLaws K IsWhole record_at)
    (h : H) (bytes : List ℕ) (are : AreBytes bytes) (begins : BeginsWithHeaderRow K bytes h) (few : K.rows_after h ≤ 4294967295) (size : length bytes ≡ 48 + 48 * K.rows_after h) where
  header_front : take 48 bytes ≡ K.header_bytes h
  header_front = front_is 48 bytes (K.header_bytes h) begins.rest (laws.header_size h) begins.bytes_are

  header_is : h ≡ header_of_bytes bytes
  header_is =
      let s = spelled bytes are (omega (arith, size)) in
      (laws.header_front h (header_of_bytes bytes) (drop 48 bytes) (drop 48 bytes) begins.widths s.fits
      (ap (λ l. l ++ drop 48 bytes) (sym header_front) ∙ ap (λ l. l ++ drop 48 bytes) (sym s.row_is))).0

  shown : Shows K IsWhole (header_of_bytes bytes) bytes (record_at (header_of_bytes bytes) bytes)
  shown = subst (λ g. Shows K IsWhole g bytes (record_at g bytes)) header_is (decoding.shows h bytes begins.widths are few size header_front)

pub file_placed : (h : FileDataSequenceHeader) (bytes : List ℕ) → AreBytes bytes → BeginsWithHeaderRow file_records bytes h → h.file_hash ≢ all_ones → file_records.rows_after h ≤ 4294967295
    → length bytes ≡ 48 + 48 * file_records.rows_after h → IsPlacedFile h.file_hash.word0 bytes × (h ≡ header_at bytes)
file_placed h bytes are begins is_file few size =
    let is = header_is file_records file_laws IsWholeFile header_at file_at header_spelled file_decoding h bytes are begins few size in (
      record {
        shows = shown file_records file_laws IsWholeFile header_at file_at header_spelled file_decoding h bytes are begins few size;
        is_file = subst (λ (g : FileDataSequenceHeader). g.file_hash ≢ all_ones) is is_file;
        word_is = ap (λ (g : FileDataSequenceHeader). g.file_hash.word0) is;
      },
      is,
    )

pub xorb_placed : (h : XorbChunkSequenceHeader) (bytes : List ℕ) → AreBytes bytes → BeginsWithHeaderRow xorb_records bytes h → h.xorb_hash ≢ all_ones → h.num_entries ≤ 4294967295
    → length bytes ≡ 48 + 48 * h.num_entries → IsPlacedXorb h.xorb_hash.word0 bytes × (h ≡ xorb_header_at bytes)
xorb_placed h bytes are begins is_xorb few size =
    let is = header_is xorb_records xorb_laws IsWholeXorb xorb_header_at xorb_at xorb_header_spelled xorb_decoding h bytes are begins few size in (
      record {
        shows = shown xorb_records xorb_laws IsWholeXorb xorb_header_at xorb_at xorb_header_spelled xorb_decoding h bytes are begins few size;
        is_xorb = subst (λ (g : XorbChunkSequenceHeader). g.xorb_hash ≢ all_ones) is is_xorb;
        word_is = ap (λ (g : XorbChunkSequenceHeader). g.xorb_hash.word0) is;
      },
      is,
    )

-- a record in memory may be in a section
pub file_is_stored : (word : ℕ) (bytes : List ℕ) → IsPlacedFile word bytes → file_records.IsStored (file_of bytes)
file_is_stored word bytes placed = (file_stored (header_at bytes) bytes (file_of bytes) placed.shows).is_stored placed.is_file

pub xorb_is_stored : (word : ℕ) (bytes : List ℕ) → IsPlacedXorb word bytes → xorb_records.IsStored (xorb_of bytes)
xorb_is_stored word bytes placed = (xorb_stored (xorb_header_at bytes) bytes (xorb_of bytes) placed.shows).is_stored placed.is_xorb
