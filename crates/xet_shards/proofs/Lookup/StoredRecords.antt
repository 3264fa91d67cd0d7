-- Stored records in the bytes of a source: each is read at the row at which it starts.
use Rattle.std.proofs.Common.{◌≡◌, ◌⊎◌, ℕ, suc, ◌+◌, ◌*◌, ◌^◌, ◌<◌, ◌≤◌, List, ◌∷◌, ◌++◌, length, take, drop, drop-cons, flat_map, get_or, sym, ap, refl, ◌∙◌, subst, append_assoc, arith, rules}
use Rattle.std.specs.Prelude.{All, Contains}
use Rattle.std.proofs.lemmas.List.{drop-drop, take-append-drop}
use Rattle.std.proofs.lemmas.List.Elements.{All-contains, Contains-append_left, Contains-append_right, Contains-get_or}
use Rattle.std.proofs.lemmas.Grind.{common_steps, flat_map-append}
use Rattle.xet_base.specs.declared.error.CoreError.{CoreError}
use Rattle.xet_base.specs.declared.error.CoreError.TheVariants.{OutOfMemory}
use Rattle.xet_base.specs.Source.{Source, DeviceFailure}
use Rattle.xet_base.proofs.Lists.{rest_is}
use Rattle.xet_records.specs.RecordKind.{RecordKind}
use Rattle.xet_records.specs.Reading.{BeginsWithHeader}
use Rattle.xet_records.proofs.Lengths.{length-all_record_bytes}
use Rattle.xet_records.proofs.RecordKinds.{KindLaws, length-record_bytes, stored_begins, same_front, no_record}
use Rattle.xet_shards.specs.Write.WithOptions.{FitsSection}
use Rattle.xet_shards.specs.Write.Section.{total_rows, StartsAt}
use Rattle.xet_shards.specs.Read.SectionReading.{MayRead}
use Rattle.xet_shards.specs.Lookup.Lookup.{row_at, RecordAt, InfoRefusal}
use Rattle.xet_shards.proofs.Lookup.Lookups.{length-stored}

-- the bytes of stored records, and of the bookend, are at an offset
pub record AreStoredAt {H R : Type 0} (K : RecordKind H R) (records : List R) (offset : ℕ) (bytes : List ℕ) : Type 0 where
  pub fits : FitsSection K records
  pub offset_fits : offset ≤ 2 ^ 48
  pub rest : List ℕ
  pub records_are : drop offset bytes ≡ flat_map K.record_bytes records ++ (K.header_bytes K.bookend ++ rest)

-- the i-th starts after the rows of those before it
pub starts_at_index : {H R : Type 0} (K : RecordKind H R) (records : List R) (i : ℕ) (d : R) → i < length records → StartsAt K records (total_rows K (take i records)) (get_or records i d)
starts_at_index K records i d within = record {
  before = take i records;
  after = drop (suc i) records;
  records_are = sym (take-append-drop i records) ∙ ap (λ rs. take i records ++ rs) (drop-cons records i d within);
  row_is = refl;
}

module _ {H R : Type 0} (K : RecordKind H R) (laws : KindLaws K) (records : List R) (offset : ℕ) (old : Source) (is : AreStoredAt K records offset old.bytes)
    (row : ℕ) (r : R) (at : StartsAt K records row r) where
  pub in_records : Contains records r
  in_records = subst (λ rs. Contains rs r) (sym at.records_are) (Contains-append_right at.before (r ∷ at.after) r (0, omega arith, refl))

  pub is_stored : K.IsStored r
  is_stored = All-contains K.IsStored records r is.fits.stored in_records

  before_stored : All K.IsStored at.before
  before_stored i d below =
      let x = get_or at.before i d in
      All-contains K.IsStored records x is.fits.stored
      (subst (λ rs. Contains rs x) (sym at.records_are) (Contains-append_left at.before (r ∷ at.after) x (Contains-get_or at.before i d below)))

  pub record_there : (rest : List ℕ) × (drop (row_at offset row) old.bytes ≡ K.record_bytes r ++ rest)
  record_there =
      let end = K.header_bytes K.bookend ++ is.rest in
      let both_bytes : flat_map K.record_bytes records ≡ flat_map K.record_bytes at.before ++ (K.record_bytes r ++ flat_map K.record_bytes at.after) =
      ap (flat_map K.record_bytes) at.records_are ∙ flat_map-append K.record_bytes at.before (r ∷ at.after) in (
        flat_map K.record_bytes at.after ++ end,
        sym (drop-drop (48 * row) offset old.bytes)
            ∙ ap (drop (48 * row)) is.records_are
            ∙ rest_is (48 * row) (flat_map K.record_bytes records ++ end) (flat_map K.record_bytes at.before) ((K.record_bytes r ++ flat_map K.record_bytes at.after) ++ end)
            (length-all_record_bytes K.record_bytes K.row_count K.IsStored (length-record_bytes K laws) at.before before_stored ∙ ap (λ n. 48 * n) (sym at.row_is))
            (ap (λ xs. xs ++ end) both_bytes ∙ append_assoc (flat_map K.record_bytes at.before) (K.record_bytes r ++ flat_map K.record_bytes at.after) end)
            ∙ append_assoc (K.record_bytes r) (flat_map K.record_bytes at.after) end,
      )

  -- a record that is read there is this one
  pub record_is : (found : R) → RecordAt K old.bytes (row_at offset row) found → found ≡ K.as_read r
  record_is found reads =
      sym reads.returned ∙ ap K.as_read (laws.front reads.stored r reads.taken.0 record_there.0 reads.is_stored is_stored (sym reads.taken.1 ∙ record_there.1)).0

  -- a header that begins there is this record's
  header_is : (h : H) (rest : List ℕ) → BeginsWithHeader K (drop (row_at offset row) old.bytes) h rest → h ≡ K.header_of r
  header_is h rest begins =
      let whole = stored_begins K laws (drop (row_at offset row) old.bytes) r record_there.0 is_stored record_there.1 in
      (same_front K laws (drop (row_at offset row) old.bytes) (K.header_of r) h (K.bytes_after r ++ record_there.0) rest whole.widths whole.bytes_are begins).0

  -- the rows of a record and of those before it
  pub end_bound : row + K.row_count r ≤ 4294967295
  end_bound = grind (arith, common_steps)

  -- reading it takes no more than its bytes
  pub record_is_enough : (n : ℕ) → MayRead K (drop (row_at offset row) old.bytes) n → n ≤ length (K.record_bytes r)
  record_is_enough n takes = search (rules, length-stored K laws r is_stored, header_is)

  -- it is read, unless the device fails or an allocation does
  pub record_is_read : (new : Source) (e : CoreError) → InfoRefusal K offset row old new e → DeviceFailure old new e ⊎ (e ≡ OutOfMemory)
  record_is_read new e refusal =
      let nothing_stops = no_record K laws 4294967296 (drop (row_at offset row) old.bytes) r record_there.0 is_stored (omega (arith, end_bound)) record_there.1 in
      search (rules, nothing_stops, end_bound, is.offset_fits)

-- the bookend is after the last record
pub bookend_there : {H R : Type 0} (K : RecordKind H R) → KindLaws K → (records : List R) (offset : ℕ) (bytes : List ℕ) → (is : AreStoredAt K records offset bytes)
    → drop (row_at offset (total_rows K records)) bytes ≡ K.header_bytes K.bookend ++ is.rest
bookend_there K laws records offset bytes is =
    let rows = total_rows K records in
    sym (drop-drop (48 * rows) offset bytes) ∙ ap (drop (48 * rows)) is.records_are
    ∙ rest_is (48 * rows) (flat_map K.record_bytes records ++ (K.header_bytes K.bookend ++ is.rest)) (flat_map K.record_bytes records) (K.header_bytes K.bookend ++ is.rest)
    (length-all_record_bytes K.record_bytes K.row_count K.IsStored (length-record_bytes K laws) records is.fits.stored) refl
