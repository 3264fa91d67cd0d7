-- What some bytes are to a view: the record that they begin with, whatever follows it, or why they
-- begin with none.
use Rattle.std.specs.Prelude.{◌≡◌, ◌≢◌, ◌⊎◌, ℕ, ◌+◌, ◌*◌, ◌<◌, ◌≤◌, Bool, true, false, not, ◌&&◌, IsTrue, List, [], ◌∷◌, ◌++◌, length, map, slice_get, Some, if◌then◌else◌}
use Rattle.std.specs.IoError.{error_kind}
use Rattle.std.specs.declared.io.ErrorKind.TheVariants.{Other}
use Rattle.xet_base.specs.declared.error.CoreError.{CoreError}
use Rattle.xet_base.specs.declared.error.CoreError.TheVariants.{Io}
use Rattle.xet_base.specs.Errors.{IsEndOfInput, IsBareInvalidShard}
use Rattle.xet_base.specs.Hash.{all_ones}
use Rattle.xet_records.specs.declared.file_structs.header.FileDataSequenceHeader.{FileDataSequenceHeader}
use Rattle.xet_records.specs.declared.file_structs.MDBFileInfo.{MDBFileInfo}
use Rattle.xet_records.specs.Limits.{MAX_ROWS}
-- which of a record's verification rows and auxiliary row are written
pub use Rattle.xet_records.specs.declared.file_structs.view.KeptParts.{KeptParts}
use Rattle.xet_records.specs.declared.xorb_structs.XorbChunkSequenceEntry.{XorbChunkSequenceEntry}
use Rattle.xet_records.specs.declared.xorb_structs.MDBXorbInfo.{MDBXorbInfo}
use Rattle.xet_records.specs.RecordKind.{RecordKind}
use Rattle.xet_records.specs.declared.file_structs.part.OptionalPart.{OptionalPart}
use Rattle.xet_records.specs.declared.file_structs.part.OptionalPart.TheVariants.{Verification, AuxExt}
use Rattle.xet_records.specs.Part.{announces, flags_of, rows_of, with_parts, with_flag, all_but}
use Rattle.xet_records.specs.FileRecord.{has_verification, FitsItsHeader, FitsRecord, file_records}
use Rattle.xet_records.specs.XorbRecord.{end_of_chunk, HasItsChunks, FitsXorb, xorb_records}

-- a file record that has the segments and the parts that its header announces, with its numbers
-- within their widths; its hash may be all-ones
pub record IsWholeFile (r : MDBFileInfo) : Type 0 where
  pub parts : FitsItsHeader r
  pub widths : FitsRecord r

-- a xorb record that has the chunks that its header announces, with its numbers within their
-- widths; its hash may be all-ones
pub record IsWholeXorb (r : MDBXorbInfo) : Type 0 where
  pub count : HasItsChunks r
  pub widths : FitsXorb r

-- the bytes begin with the bytes of this header, which may be a bookend's
pub record BeginsWithHeaderRow {H R : Type 0} (K : RecordKind H R) (bytes : List ℕ) (header : H)
    : Type 0 where
  pub rest : List ℕ
  pub widths : K.Fits header
  pub bytes_are : bytes ≡ K.header_bytes header ++ rest

-- the bytes begin with the bytes of this record, which has at most 4294967295 rows after its header
pub record BeginsWithRecord {H R : Type 0} (K : RecordKind H R) (IsWhole : R → Type 0)
    (bytes : List ℕ) (r : R) : Type 0 where
  pub rest : List ℕ
  pub whole : IsWhole r
  pub rows : K.rows_after (K.header_of r) ≤ MAX_ROWS
  pub bytes_are : bytes ≡ K.record_bytes r ++ rest

-- the bytes begin with the bytes of this whole file record, which has at most 4294967295 rows after
-- its header
abbrev pub BeginsWithFile : List ℕ → MDBFileInfo → Type 0
BeginsWithFile bytes r = BeginsWithRecord file_records IsWholeFile bytes r

-- the bytes begin with the bytes of this whole xorb record, which has at most 4294967295 rows after
-- its header
abbrev pub BeginsWithXorb : List ℕ → MDBXorbInfo → Type 0
BeginsWithXorb bytes r = BeginsWithRecord xorb_records IsWholeXorb bytes r

-- a view of this header and these bytes shows a record: the bytes are those of the record, and no
-- others
pub record Shows {H R : Type 0} (K : RecordKind H R) (IsWhole : R → Type 0) (header : H)
    (bytes : List ℕ) (r : R) : Type 0 where
  pub same_header : K.header_of r ≡ header
  pub whole : IsWhole r
  pub rows : K.rows_after header ≤ MAX_ROWS
  pub bytes_are : bytes ≡ K.record_bytes r

-- a view of this header and these bytes shows a record that may be in a section unless the header
-- is a bookend: the bytes are those of the record, and no others
pub record ShowsRecord {H R : Type 0} (K : RecordKind H R) (header : H) (bytes : List ℕ) (r : R)
    : Type 0 where
  pub same_header : K.header_of r ≡ header
  pub is_stored : K.hash_of header ≢ all_ones → K.IsStored r
  pub bytes_are : bytes ≡ K.record_bytes r

module _ {H R : Type 0} (K : RecordKind H R) where
  -- the bytes end before a header is complete, or before the rows that it announces, at most
  -- 4294967295, are
  abbrev pub EndsInRecord : List ℕ → Type 0
  EndsInRecord bytes =
      (length bytes < 48)
      ⊎ ((header : H) × BeginsWithHeaderRow K bytes header × (K.rows_after header ≤ MAX_ROWS)
      × (length bytes < 48 + 48 * K.rows_after header))

  -- the bytes begin with a header that announces more than 4294967295 rows
  abbrev pub AnnouncesTooMany : List ℕ → Type 0
  AnnouncesTooMany bytes =
      (header : H) × BeginsWithHeaderRow K bytes header × (MAX_ROWS < K.rows_after header)

  -- why the bytes begin with no record: they are too few, or the header announces too many rows
  abbrev pub NoView : List ℕ → CoreError → Type 0
  NoView bytes e =
      (IsEndOfInput e × EndsInRecord bytes) ⊎ (IsBareInvalidShard e × AnnouncesTooMany bytes)

-- the record under this header, with those of its parts that stay
abbrev pub with_parts_if : (OptionalPart → Bool) → FileDataSequenceHeader → MDBFileInfo → MDBFileInfo
with_parts_if stays h r = with_parts h r.segments (λ part. if stays part then rows_of part r else [])

-- the header without verification rows: the bits of the other parts alone, and a zero reserved word
abbrev pub header_without_verification : FileDataSequenceHeader → FileDataSequenceHeader
header_without_verification h =
    record h {
      file_flags =
          flags_of (λ part. all_but Verification part && announces h.file_flags part);
      _unused = 0;
    }

-- a record without its verification rows
abbrev pub without_verification : MDBFileInfo → MDBFileInfo
without_verification r =
    with_parts_if (all_but Verification) (header_without_verification r.metadata) r

-- the record that is written: verification rows are left out unless they are wanted, and all else
-- is as it is
abbrev pub with_verification_if : Bool → MDBFileInfo → MDBFileInfo
with_verification_if wanted r =
    if has_verification r.metadata.file_flags && not wanted then without_verification r else r

-- a record without its auxiliary row: its header has bit 29 cleared, and all else is as it is
abbrev pub without_aux : MDBFileInfo → MDBFileInfo
without_aux r =
    with_parts_if (all_but AuxExt)
    (record r.metadata { file_flags = with_flag AuxExt false r.metadata.file_flags })
    r

-- the record, without its auxiliary row unless that is wanted
abbrev pub with_aux_if : Bool → MDBFileInfo → MDBFileInfo
with_aux_if wanted r = if wanted then r else without_aux r

-- the records, without their auxiliary rows unless those are wanted
abbrev pub all_with_aux_if : Bool → List MDBFileInfo → List MDBFileInfo
all_with_aux_if wanted rs = if wanted then rs else map without_aux rs

-- all parts are kept
abbrev pub all_kept : KeptParts
all_kept = record { verification = true; aux_ext = true }

-- the record that is written where these parts are kept
abbrev pub as_kept : KeptParts → MDBFileInfo → MDBFileInfo
as_kept kept r = with_aux_if kept.aux_ext (with_verification_if kept.verification r)

-- verification rows are wanted, and the record has none
abbrev pub LacksVerification : Bool → MDBFileInfo → Type 0
LacksVerification wanted r = IsTrue (wanted && not (has_verification r.metadata.file_flags))

-- `Io` of kind `Other`
abbrev pub IsIoOther : CoreError → Type 0
IsIoOther (Io e) = error_kind e ≡ Other
IsIoOther _ = ⊥

-- the offset after the last chunk, 0 if there is none
abbrev pub end_of_chunks : List XorbChunkSequenceEntry → ℕ
end_of_chunks [] = 0
end_of_chunks (c ∷ []) = end_of_chunk c
end_of_chunks (c ∷ d ∷ cs) = end_of_chunks (d ∷ cs)

-- a xorb's chunks under a header of their own: no flags, no bytes on disk, and the end of the last
-- chunk as the size
abbrev pub under_own_header : MDBXorbInfo → MDBXorbInfo
under_own_header r = record {
  metadata = record {
    xorb_hash = r.metadata.xorb_hash;
    xorb_flags = 0;
    num_entries = r.metadata.num_entries;
    num_bytes_in_xorb = end_of_chunks r.chunks;
    num_bytes_on_disk = 0;
  };
  chunks = r.chunks;
}

-- a function may be called with each index of a list and the element there
abbrev pub TakesEach : {X : Type 0} → (ℕ → X → Type 0) → List X → Type 0
TakesEach {X} takes xs = (i : ℕ) → (x : X) → slice_get xs i ≡ Some x → takes i x

-- at each index, the element that a function answers for the index and the element there
pub record Rewrites {X : Type 0} (answers : ℕ → X → X → Type 0) (xs ys : List X) : Type 0 where
  pub len : length ys ≡ length xs
  pub each : (i : ℕ) (x y : X) → slice_get xs i ≡ Some x → slice_get ys i ≡ Some y → answers i x y
