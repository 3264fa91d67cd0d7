-- Files and xorbs have records of one shape: a header row, and the rows that
-- it announces. A kind of records says what these are.
use Rattle.std.specs.Prelude.{◌≡◌, ◌≢◌, ℕ, ◌+◌, ◌*◌, Bool, false, List, ◌++◌, length}
use Rattle.xet_base.specs.declared.merklehash.DataHash.{DataHash}
use Rattle.xet_base.specs.Hash.{all_ones}
use Rattle.xet_records.specs.declared.record_reader.FormatVersion.{FormatVersion}
use Rattle.xet_records.specs.declared.record_reader.FormatVersion.TheVariants.{V2, V3}

-- a kind of records: their headers, their rows and their bytes
pub record RecordKind (Header Record : Type 0) : Type 1 where
  -- the header of a record
  pub header_of : Record → Header
  -- which file or xorb it is; the all-ones hash makes it a bookend
  pub hash_of : Header → DataHash
  -- the bytes of a header
  pub header_bytes : Header → List ℕ
  -- the header that ends a section
  pub bookend : Header
  -- its numbers are within their widths
  pub Fits : Header → Type 0
  -- the rows that it announces
  pub rows_after : Header → ℕ
  -- a header that version 2 does not have
  pub is_new : Header → Bool
  -- a header that a reader refuses
  pub refuses : Header → Bool
  -- the bytes of a record's rows after its header
  pub bytes_after : Record → List ℕ
  -- the bytes of the whole record
  pub record_bytes : Record → List ℕ
  -- the rows of a record, its header included
  pub row_count : Record → ℕ
  -- it may be in a section
  pub IsStored : Record → Type 0
  -- what reading the record returns
  pub as_read : Record → Record

-- whether a reader refuses a header: in version 2 those that are new in version 3, in version 3
-- none
abbrev pub refuses_in : {H : Type 0} → FormatVersion → (H → Bool) → H → Bool
refuses_in V2 is_new = is_new
refuses_in V3 is_new = λ h. false

-- a record may be in a section of a shard of a version: in version 2 only one without a header that
-- is new in version 3
abbrev pub StoredIn : {R : Type 0} → FormatVersion → (R → Bool) → (R → Type 0) → R → Type 0
StoredIn V2 is_new IsStored = λ r. IsStored r × (is_new r ≡ false)
StoredIn V3 is_new IsStored = IsStored

-- the kind in shards of a version
abbrev pub in_version : {H R : Type 0} → RecordKind H R → FormatVersion → RecordKind H R
in_version K version =
    record K {
      refuses = refuses_in version K.is_new;
      IsStored = StoredIn version (λ r. K.is_new (K.header_of r)) K.IsStored;
    }

-- what both kinds have in common: sizes, and that bytes determine what is at their front
pub record KindLaws {H R : Type 0} (K : RecordKind H R) : Type 0 where
  -- a header has 48 bytes
  pub header_size : (h : H) → length (K.header_bytes h) ≡ 48
  -- bytes that begin with a header determine it and what follows it
  pub header_front : (g h : H) (x y : List ℕ) → K.Fits g → K.Fits h
      → K.header_bytes g ++ x ≡ K.header_bytes h ++ y → (g ≡ h) × (x ≡ y)
  -- the bookend's numbers are within their widths
  pub bookend_fits : K.Fits K.bookend
  pub bookend_hash : K.hash_of K.bookend ≡ all_ones
  -- a record is its header and the rows after it
  pub record_bytes_are : (r : R)
      → K.record_bytes r ≡ K.header_bytes (K.header_of r) ++ K.bytes_after r
  -- the rows after a header are as many as it announces, and have 48 bytes each
  pub size_after : (r : R) → K.IsStored r
      → length (K.bytes_after r) ≡ 48 * K.rows_after (K.header_of r)
  -- the rows of a record are its header and those that the header announces
  pub rows : (r : R) → K.IsStored r → K.row_count r ≡ 1 + K.rows_after (K.header_of r)
  -- the numbers of a stored record's header are within their widths
  pub header_fits : (r : R) → K.IsStored r → K.Fits (K.header_of r)
  -- a stored record is not a bookend
  pub is_record : (r : R) → K.IsStored r → K.hash_of (K.header_of r) ≢ all_ones
  -- a reader does not refuse the header of a stored record
  pub allowed : (r : R) → K.IsStored r → K.refuses (K.header_of r) ≡ false
  -- reading returns the header that is stored
  pub same_header : (r : R) → K.header_of (K.as_read r) ≡ K.header_of r
  -- reading returns as many rows as are stored
  pub same_rows : (r : R) → K.row_count (K.as_read r) ≡ K.row_count r
  -- what reading returns may be in a section
  pub as_read_stored : (r : R) → K.IsStored r → K.IsStored (K.as_read r)
  -- bytes that begin with a stored record determine it and what follows it
  pub front : (r s : R) (x y : List ℕ) → K.IsStored r → K.IsStored s
      → K.record_bytes r ++ x ≡ K.record_bytes s ++ y → (r ≡ s) × (x ≡ y)

-- a type of rows is that of the headers of a kind, which reading returns as they are stored
pub record IsHeaderRow {H R : Type 0} (K : RecordKind H R) (row_bytes : H → List ℕ)
    (Fits : H → Type 0) (as_read : H → H) : Type 0 where
  pub bytes : (h : H) → row_bytes h ≡ K.header_bytes h
  pub widths : (h : H) → Fits h → K.Fits h
  pub same : (h : H) → as_read h ≡ h
