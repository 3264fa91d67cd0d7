-- What the bytes at the front of an input are to a reader of records: a bookend, a whole record, a
-- record that is truncated, or a header that is refused, since the version does not have it or it
-- announces too many rows.
use Rattle.std.specs.Prelude.{◌≡◌, ◌≢◌, ◌⊎◌, ℕ, ◌+◌, ◌*◌, ◌<◌, ◌≤◌, true, false, List, ◌++◌, length, map, flat_map, sum_by, All, Option, MatchOption}
use Rattle.xet_base.specs.declared.error.CoreError.{CoreError}
use Rattle.xet_base.specs.Errors.{IsBareInvalidShard}
use Rattle.xet_base.specs.Hash.{all_ones}
use Rattle.xet_records.specs.RecordKind.{RecordKind}
use Rattle.xet_records.specs.Limits.{MAX_ROWS}

-- a header with the all-ones hash was read, whatever its other fields
pub record ReadsBookend {H R : Type 0} (K : RecordKind H R) (Took : List ℕ → Type 0) : Type 0 where
  pub header : H
  pub widths : K.Fits header
  pub is_bookend : K.hash_of header ≡ all_ones
  pub taken : Took (K.header_bytes header)

-- the header of a record was read
pub record ReadsHeader {H R : Type 0} (K : RecordKind H R) (Took : List ℕ → Type 0) (header : H)
    : Type 0 where
  pub widths : K.Fits header
  pub is_record : K.hash_of header ≢ all_ones
  pub taken : Took (K.header_bytes header)

-- the header of a record was read, the reader does not refuse it, and the record's rows were
-- counted down from those that were left
pub record CountsHeader {H R : Type 0} (K : RecordKind H R) (Took : List ℕ → Type 0)
    (left after : ℕ) (header : H) : Type 0 where
  pub read : ReadsHeader K Took header
  pub allowed : K.refuses header ≡ false
  pub rows : after + (1 + K.rows_after header) ≡ left

-- the rows after a header were read: those of a stored record unless the header is a bookend;
-- `found` is returned for it
pub record ReadsRowsAfter {H R : Type 0} (K : RecordKind H R) (header : H) (Took : List ℕ → Type 0)
    (found : R) : Type 0 where
  pub stored : R
  pub same_header : K.header_of stored ≡ header
  pub is_stored : K.hash_of header ≢ all_ones → K.Fits header → K.IsStored stored
  pub size : length (K.bytes_after stored) ≡ 48 * K.rows_after header
  pub taken : Took (K.bytes_after stored)
  pub returned : K.as_read stored ≡ found

-- a stored record was read, and `found` returned for it
pub record ReadsRecord {H R : Type 0} (K : RecordKind H R) (Took : List ℕ → Type 0) (found : R)
    : Type 0 where
  pub stored : R
  pub is_stored : K.IsStored stored
  pub rows : K.rows_after (K.header_of stored) ≤ MAX_ROWS
  pub taken : Took (K.record_bytes stored)
  pub returned : K.as_read stored ≡ found

-- a bookend was read, and no row is counted
pub record ReadsEnd {H R : Type 0} (K : RecordKind H R) (Took : List ℕ → Type 0) (left after : ℕ)
    : Type 0 where
  pub bookend : ReadsBookend K Took
  pub stays : after ≡ left

-- a record was read, or a bookend
abbrev pub ReadsOrEnds : {H R : Type 0} → RecordKind H R → (List ℕ → Type 0) → Option R → Type 0
ReadsOrEnds K Took found = MatchOption found (ReadsBookend K Took) (ReadsRecord K Took)

-- a record was read, and its rows counted down from those that were left
pub record CountsRecord {H R : Type 0} (K : RecordKind H R) (Took : List ℕ → Type 0)
    (left after : ℕ) (found : R) : Type 0 where
  pub reads : ReadsRecord K Took found
  pub rows : after + (1 + K.rows_after (K.header_of found)) ≡ left

-- the header of the next record was read, and the rows of the record counted down; or a bookend was
abbrev pub ReadsNextHeader : {H R : Type 0} → RecordKind H R → (List ℕ → Type 0) → ℕ → ℕ → Option H
    → Type 0
ReadsNextHeader K Took left after found =
    MatchOption found (ReadsEnd K Took left after) (CountsHeader K Took left after)

-- the next record was read, and its rows counted down; or a bookend was
abbrev pub ReadsNextRecord : {H R : Type 0} → RecordKind H R → (List ℕ → Type 0) → ℕ → ℕ → Option R
    → Type 0
ReadsNextRecord K Took left after found =
    MatchOption found (ReadsEnd K Took left after) (CountsRecord K Took left after)

-- records were read, and their rows counted down from 4294967295; `found` is returned for them
pub record HasRead {H R : Type 0} (K : RecordKind H R) (Took : List ℕ → Type 0) (found : List R)
    (left : ℕ) : Type 0 where
  pub stored : List R
  pub are_stored : All K.IsStored stored
  pub taken : Took (flat_map K.record_bytes stored)
  pub rows : sum_by K.row_count stored + left ≡ MAX_ROWS
  pub returned : map K.as_read stored ≡ found

-- `reads a b bytes` says that an input read these bytes between its states `a` and `b`. The records
-- of a section were read, and the bookend after them
pub record ReadsRecords {H R I : Type 0} (K : RecordKind H R) (reads : I → I → List ℕ → Type 0)
    (old new : I) (found : List R) : Type 0 where
  pub mid : I
  pub left : ℕ
  pub records : HasRead K (reads old mid) found left
  pub bookend : ReadsBookend K (reads mid new)

module _ {H R : Type 0} (K : RecordKind H R) (left : ℕ) (header : H) where
  -- a reader does not go on after a header: its version does not have it, or the record has more
  -- rows than are left
  pub data IsRefused : Type 0 where
    not_allowed : K.refuses header ≡ true → IsRefused
    too_many_rows : left < 1 + K.rows_after header → IsRefused

  -- a reader goes on after a header: its version has it, and the record has no more rows than are
  -- left
  pub record IsAccepted : Type 0 where
    pub allowed : K.refuses header ≡ false
    pub rows : 1 + K.rows_after header ≤ left

-- `fails a b n e` says that reading up to `n` bytes failed with `e`
module _ {H R I : Type 0} (K : RecordKind H R) (reads : I → I → List ℕ → Type 0)
    (fails : I → I → ℕ → CoreError → Type 0) where
  -- why the next record was not read: its header was not, or is refused, or the rows after it were
  -- not
  pub data NextRecordNotRead (left : ℕ) (old new : I) (e : CoreError) : Type 0 where
    no_header : fails old new 48 e → NextRecordNotRead left old new e
    refused_header : (header : H) → ReadsHeader K (reads old new) header
        → IsRefused K left header → IsBareInvalidShard e → NextRecordNotRead left old new e
    no_rows : (header : H) (mid : I) (after : ℕ) → CountsHeader K (reads old mid) left after header
        → fails mid new (48 * K.rows_after header) e → NextRecordNotRead left old new e

  -- records of a section were read, and the one after them was not
  pub record StopsAfter (old new : I) (e : CoreError) : Type 0 where
    pub mid : I
    pub found : List R
    pub left : ℕ
    pub records : HasRead K (reads old mid) found left
    pub stops : NextRecordNotRead left mid new e

-- the bytes begin with the header of a record, not with a bookend
pub record BeginsWithHeader {H R : Type 0} (K : RecordKind H R) (bytes : List ℕ) (header : H)
    (rest : List ℕ) : Type 0 where
  pub widths : K.Fits header
  pub is_record : K.hash_of header ≢ all_ones
  pub bytes_are : bytes ≡ K.header_bytes header ++ rest

-- the bytes begin with a header that has the all-ones hash, whatever its other fields
pub record BeginsWithBookend {H R : Type 0} (K : RecordKind H R) (bytes : List ℕ) : Type 0 where
  pub header : H
  pub rest : List ℕ
  pub widths : K.Fits header
  pub is_bookend : K.hash_of header ≡ all_ones
  pub bytes_are : bytes ≡ K.header_bytes header ++ rest

module _ {H R : Type 0} (K : RecordKind H R) where
  -- the bytes begin with a header, not a bookend, that is refused
  abbrev pub BeginsRefused : ℕ → List ℕ → Type 0
  BeginsRefused left bytes =
      (header : H) × (rest : List ℕ) × BeginsWithHeader K bytes header rest
      × IsRefused K left header

  -- the bytes end before a header is complete, or after a header that is not refused and before its
  -- rows are
  abbrev pub EndsEarly : ℕ → List ℕ → Type 0
  EndsEarly left bytes =
      (length bytes < 48)
      ⊎ ((header : H) × (rest : List ℕ) × BeginsWithHeader K bytes header rest
      × IsAccepted K left header × (length rest < 48 * K.rows_after header))

  -- the bytes end before a header is complete, or before its rows, at most 4294967295, are
  abbrev pub IsTruncatedRecord : List ℕ → Type 0
  IsTruncatedRecord bytes = EndsEarly 4294967296 bytes

  -- the bytes begin with a header that is refused; in version 3 it announces more than 4294967295
  -- rows
  abbrev pub HasRefusedHeader : List ℕ → Type 0
  HasRefusedHeader bytes = BeginsRefused 4294967296 bytes
