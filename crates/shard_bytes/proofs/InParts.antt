-- Lookups in the bytes of a table and of a record, over a source in memory.
use Rattle.std.proofs.Common.{◌≡◌, inl, inr, ℕ, ◌+◌, ◌*◌, ◌/◌, ◌%◌, ◌^◌, ◌<◌, ◌≤◌, List, length, ◌++◌, drop, Option, None, Some, Ok, Err, sym, ap, ◌∙◌, subst, append_assoc, arith}
use Rattle.std.specs.Prelude.{IfOk, MatchResult}
use Rattle.std.proofs.Math.Nat.{div-mul-le_self}
use Rattle.xet_base.specs.MemorySource.{in_memory}
use Rattle.xet_core_structures.specs.declared.error.CoreError.{CoreError}
use Rattle.xet_core_structures.specs.declared.file_structs.MDBFileInfo.{MDBFileInfo}
use Rattle.xet_core_structures.specs.declared.shard_format.MDBShardInfo.{MDBShardInfo}
use Rattle.xet_core_structures.specs.declared.source.MemorySource.{MemorySource}
use Rattle.xet_core_structures.specs.declared.xorb_structs.MDBXorbInfo.{MDBXorbInfo}
use Rattle.xet_core_structures.specs.Ends.{HasHeaderAndFooter}
use Rattle.xet_core_structures.specs.Errors.{CoreResult}
use Rattle.xet_core_structures.specs.FileRecord.{file_records_in}
use Rattle.xet_core_structures.specs.Lookup.{HasAt, row_at, IsRowAndIndex, IndexRefused, LooksUpIndex, Searches}
use Rattle.xet_core_structures.specs.Table.{offset_of_row, row_offset, SearchRefused}
use Rattle.xet_core_structures.specs.Version.{number_of, version_of}
use Rattle.xet_core_structures.specs.XorbRecord.{xorb_records}
use Rattle.xet_records.specs.RecordKind.{RecordKind}
use Rattle.xet_records.proofs.RecordKinds.{version_known}
use Rattle.xet_records.specs.declared.record_reader.FormatVersion.{FormatVersion}
use Rattle.shard_bytes.specs.PartLookups.{table_of, FindsPlaces, FindsRowsIn, HasFileIn, RefusesFileIn, HasXorbIn, RefusesXorbIn, RefusesPlaces, RefusesTableRows}
use Rattle.shard_bytes.specs.Walking.{HasFileAt, HasXorbAt, IsAtRow, NotAtRow}

-- what is read as of a version is read as of its number
pub of_version : (number : ℕ) (version : FormatVersion) (bytes : List ℕ) (found : CoreResult (Option MDBFileInfo)) → number ≡ number_of version
    → MatchResult found (IsAtRow (file_records_in version) bytes 0 0) (NotAtRow (file_records_in version) bytes 0 0) → MatchResult found (HasFileIn number bytes) (RefusesFileIn number bytes)
of_version number version bytes (Ok found) is at = (version, is, at)
of_version number version bytes (Err e) is not = inr (version, is, not)

module _ (bytes : List ℕ) (width : ℕ) (old new : MemorySource) (same : old.bytes.now ≡ bytes) (few : length bytes < 2 ^ 64) where
  -- the rows of a table are in its bytes
  end_within : row_offset (table_of bytes width) (length bytes / (8 + width)) ≤ length bytes
  unfolding offset_of_row
  end_within = omega (arith, div-mul-le_self (length bytes) (8 + width))

  -- so no search in it is refused
  no_refusal : (e : CoreError) → ¬ SearchRefused (table_of bytes width) (in_memory old) (in_memory new) e
  no_refusal e (inl (bare, inl many, stays)) = omega (arith, many, few, half) where
    half : length bytes / (8 + width) * 8 ≤ length bytes
    half = omega (arith, div-mul-le_self (length bytes) (8 + width))
  no_refusal e (inl (bare, inr far, stays)) = omega (arith, far, end_within, few)
  no_refusal e (inr (fits, inl failed)) = omega (arith, failed.0)
  no_refusal e (inr (fits, inr (works, end, some, short))) = omega (arith, short, ap length same, end_within)

pub rows_found : (bytes : List ℕ) (word : ℕ) (dest_old dest_new : List ℕ) (old new : MemorySource) (result : CoreResult ℕ) → old.bytes.now ≡ bytes → length bytes < 2 ^ 64 → length bytes % 12 ≡ 0
    → LooksUpIndex (table_of bytes 4) word dest_old dest_new (in_memory old) (in_memory new) result → MatchResult result (FindsRowsIn bytes word dest_old dest_new) (RefusesTableRows bytes word)
rows_found bytes word dest_old dest_new old new (Ok count) same few whole looks = record { whole = whole; finds = looks.found }
rows_found bytes word dest_old dest_new old new (Err e) same few whole looks = refuses_rows looks.refused where
  refuses_rows : IndexRefused (table_of bytes 4) word (in_memory old) (in_memory new) e → RefusesTableRows bytes word e
  refuses_rows (inl (works, is, collides)) = inr (is, collides)
  refuses_rows (inr no_search) = absurd (no_refusal bytes 4 old new same few e no_search)

pub places_found : (bytes : List ℕ) (word : ℕ) (dest_old dest_new : List (ℕ × ℕ)) (old new : MemorySource) (result : CoreResult ℕ) → old.bytes.now ≡ bytes → length bytes < 2 ^ 64 → length bytes % 16 ≡ 0
    → Searches (table_of bytes 8) word IsRowAndIndex 8 dest_old dest_new (in_memory old) (in_memory new) result → MatchResult result (FindsPlaces bytes word dest_old dest_new) (RefusesPlaces bytes)
places_found bytes word dest_old dest_new old new (Ok count) same few whole looks = record { whole = whole; found = looks.found; all = looks.count }
places_found bytes word dest_old dest_new old new (Err e) same few whole looks = absurd (no_refusal bytes 8 old new same few e looks.refused)

-- what is read at the front of bytes is what longer ones have that have these from a row on
pub at_place : {H R : Type 0} (K : RecordKind H R) (shard bytes more : List ℕ) (offset row : ℕ) (found : Option R) → drop (row_at offset row) shard ≡ bytes ++ more → IsAtRow K bytes 0 0 found
    → IsAtRow K shard offset row found
at_place K shard bytes more offset row None there is = record {
  header = is.header;
  rest = is.rest ++ more;
  widths = is.widths;
  is_bookend = is.is_bookend;
  bytes_are = there ∙ ap (λ front. front ++ more) is.bytes_are ∙ append_assoc (K.header_bytes is.header) is.rest more;
}
at_place K shard bytes more offset row (Some r) there is = record {
  stored = is.stored;
  is_stored = is.is_stored;
  rows = is.rows;
  taken = (is.taken.0 ++ more, there ∙ ap (λ front. front ++ more) is.taken.1 ∙ append_assoc (K.record_bytes is.stored) is.taken.0 more);
  returned = is.returned;
}

pub file_at_place : (shard bytes : List ℕ) (info : MDBShardInfo) (row : ℕ) (found : CoreResult (Option MDBFileInfo)) → HasHeaderAndFooter shard info
    → HasAt shard (row_at info.metadata.file_info_offset row) bytes → MatchResult found (HasFileIn info.header.version bytes) (RefusesFileIn info.header.version bytes) → IfOk found (HasFileAt shard row)
file_at_place shard bytes info row (Ok found) ends (more, there) (version, is, at) =
    let same : version_of info.header.version ≡ version = ap version_of is ∙ version_known version in
    (info, ends, at_place (file_records_in (version_of info.header.version)) shard bytes more info.metadata.file_info_offset row found there (subst (λ v. IsAtRow (file_records_in v) bytes 0 0 found) (sym same) at))
file_at_place shard bytes info row (Err e) ends there refused = tt

pub xorb_at_place : (shard bytes : List ℕ) (info : MDBShardInfo) (row : ℕ) (found : CoreResult (Option MDBXorbInfo)) → HasHeaderAndFooter shard info
    → HasAt shard (row_at info.metadata.xorb_info_offset row) bytes → MatchResult found (HasXorbIn bytes) (RefusesXorbIn bytes) → IfOk found (HasXorbAt shard row)
xorb_at_place shard bytes info row (Ok found) ends (more, there) at = (info, ends, at_place xorb_records shard bytes more info.metadata.xorb_info_offset row found there at)
xorb_at_place shard bytes info row (Err e) ends there refused = tt
