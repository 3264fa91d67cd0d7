-- A view of bytes that begin with a record shows that record, whatever follows it.
use Rattle.std.proofs.Common.{◌≡◌, ◌≢◌, inl, inr, Ok, Err, ℕ, ◌+◌, ◌*◌, ◌≤◌, List, ◌++◌, length, sym, ap, ◌∙◌, subst, arith}
use Rattle.std.specs.Prelude.{MatchResult, IsOkAnd}
use Rattle.std.specs.declared.result.Result.{Result}
use Rattle.std.proofs.lemmas.List.{length-append, append_assoc}
use Rattle.xet_base.specs.declared.error.CoreError.{CoreError}
use Rattle.xet_base.specs.Hash.{all_ones}
use Rattle.xet_records.specs.declared.file_structs.MDBFileInfo.{MDBFileInfo}
use Rattle.xet_records.specs.declared.xorb_structs.MDBXorbInfo.{MDBXorbInfo}
use Rattle.xet_records.specs.RecordKind.{RecordKind, KindLaws}
use Rattle.xet_records.specs.FileRecord.{IsStored, file_record_bytes, rows_after, file_records}
use Rattle.xet_records.specs.XorbRecord.{IsStoredXorb, xorb_record_bytes, xorb_records}
use Rattle.xet_records.specs.View.{BeginsWithHeaderRow, BeginsWithRecord, BeginsWithFile, BeginsWithXorb, IsWholeFile, IsWholeXorb, NoView}
use Rattle.xet_records.proofs.RecordKinds.{file_laws, xorb_laws}

-- what whole records of a kind are, beside those that may be in a section
record WholeLaws {H R : Type 0} (K : RecordKind H R) (IsWhole : R → Type 0) : Type 0 where
  stored : (r : R) → IsWhole r → K.hash_of (K.header_of r) ≢ all_ones → K.IsStored r
  fits : (r : R) → IsWhole r → K.Fits (K.header_of r)

module _ {H R : Type 0} (K : RecordKind H R) (laws : KindLaws K) (IsWhole : R → Type 0) (whole : WholeLaws K IsWhole) (bytes : List ℕ) (r : R) (rest : List ℕ) (stored : K.IsStored r)
    (few : K.rows_after (K.header_of r) ≤ 4294967295) (are : bytes ≡ K.record_bytes r ++ rest) where
  after : (x : R) (more : List ℕ) → K.record_bytes x ++ more ≡ K.header_bytes (K.header_of x) ++ (K.bytes_after x ++ more)
  after x more = ap (λ bs. bs ++ more) (laws.record_bytes_are x) ∙ append_assoc (K.header_bytes (K.header_of x)) (K.bytes_after x) more

  one_header : (header : H) (others : List ℕ) → K.Fits header → bytes ≡ K.header_bytes header ++ others → header ≡ K.header_of r
  one_header header others fits begins = (laws.header_front header (K.header_of r) others (K.bytes_after r ++ rest) fits (laws.header_fits r stored) (sym begins ∙ are ∙ after r rest)).0

  one_record : (found : R) → BeginsWithRecord K IsWhole bytes found → found ≡ r
  one_record found begins =
      let same = one_header (K.header_of found) (K.bytes_after found ++ begins.rest) (whole.fits found begins.whole) (begins.bytes_are ∙ after found begins.rest) in
      let is_record : K.hash_of (K.header_of found) ≢ all_ones = subst (λ (h : H). K.hash_of h ≢ all_ones) (sym same) (laws.is_record r stored) in
      (laws.front found r begins.rest rest (whole.stored found begins.whole is_record) stored (sym begins.bytes_are ∙ are)).0

  size : length bytes ≡ 48 + 48 * K.rows_after (K.header_of r) + length rest
  size = omega (
    arith,
    ap length are,
    length-append (K.record_bytes r) rest,
    ap length (laws.record_bytes_are r),
    length-append (K.header_bytes (K.header_of r)) (K.bytes_after r),
    laws.header_size (K.header_of r),
    laws.size_after r stored,
  )

  same_rows : (header : H) → BeginsWithHeaderRow K bytes header → K.rows_after header ≡ K.rows_after (K.header_of r)
  same_rows header begins = ap K.rows_after (one_header header begins.rest begins.widths begins.bytes_are)

  some_view : (e : CoreError) → ¬ NoView K bytes e
  some_view e (inl (ended, inl short)) = omega (arith, size, short)
  some_view e (inl (ended, inr (header, begins, within, short))) = omega (arith, size, short, same_rows header begins)
  some_view e (inr (bare, (header, begins, many))) = omega (arith, few, many, same_rows header begins)

  shown_again : (result : Result R CoreError) → MatchResult result (BeginsWithRecord K IsWhole bytes) (NoView K bytes) → IsOkAnd result (λ view. view ≡ r)
  shown_again (Ok found) begins = one_record found begins
  shown_again (Err e) none = absurd (some_view e none)

pub file_again : (bytes : List ℕ) (r : MDBFileInfo) (rest : List ℕ) → IsStored r → rows_after r.metadata ≤ 4294967295 → bytes ≡ file_record_bytes r ++ rest
    → (result : Result MDBFileInfo CoreError) → MatchResult result (BeginsWithFile bytes) (NoView file_records bytes) → IsOkAnd result (λ view. view ≡ r)
file_again bytes r rest stored few are result read =
    shown_again file_records file_laws IsWholeFile
    (record { stored = λ x is is_file. record { is_file = is_file; whole = is.parts; widths = is.widths }; fits = λ x is. is.widths.metadata }) bytes r rest stored few are result read

pub xorb_again : (bytes : List ℕ) (r : MDBXorbInfo) (rest : List ℕ) → IsStoredXorb r → bytes ≡ xorb_record_bytes r ++ rest
    → (result : Result MDBXorbInfo CoreError) → MatchResult result (BeginsWithXorb bytes) (NoView xorb_records bytes) → IsOkAnd result (λ view. view ≡ r)
xorb_again bytes r rest stored are result read =
    shown_again xorb_records xorb_laws IsWholeXorb
    (record { stored = λ x is is_xorb. record { is_xorb = is_xorb; count = is.count; widths = is.widths }; fits = λ x is. is.widths.metadata }) bytes r rest stored
    (omega (arith, stored.widths.metadata.num_entries)) are result read
