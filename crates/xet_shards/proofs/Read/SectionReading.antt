-- The turns of the loop that reads a section.
use Rattle.std.proofs.Common.{◌≡◌, inl, inr, ℕ, ◌+◌, ◌*◌, ◌<◌, ◌≤◌, List, [], ◌∷◌, ◌++◌, length, map, flat_map, sum_by, refl, ap, ◌∙◌, arith, rules}
use Rattle.std.proofs.lemmas.List.{length-append}
use Rattle.std.proofs.lemmas.List.Sums.{sum_by-cons}
use Rattle.xet_base.specs.declared.error.CoreError.{CoreError}
use Rattle.std.specs.declared.io.Error.{Error}
use Rattle.xet_base.specs.Errors.{FromDevice}
use Rattle.xet_base.specs.Source.{Source, ReadsBytes, Fails, FailedBy, ReadCase, ReadFails, after_read, bytes_left}
use Rattle.xet_base.specs.InputLaws.{ReadsBytes-trans}
use Rattle.xet_base.proofs.Reading.{ReadsBytes-consumes, lacks_left}
use Rattle.xet_records.specs.RecordKind.{RecordKind}
use Rattle.xet_records.specs.Reading.{ReadsBookend, ReadsHeader, BeginsWithHeader, IsAccepted, BeginsRefused, EndsEarly, HasRead, NextRecordNotRead, ReadsRecords, StopsAfter}
use Rattle.xet_records.specs.Reading.NextRecordNotRead.{no_header, refused_header, no_rows}
use Rattle.xet_records.proofs.Lengths.{length-all_record_bytes}
use Rattle.xet_records.proofs.RecordKinds.{KindLaws, length-record_bytes, stored_begins}
use Rattle.xet_shards.specs.Read.SectionReading.SectionCase.{passes_limit}
use Rattle.xet_shards.specs.Read.SectionReading.{HoldsRecords, IsSection, StreamsSection, SectionNotStreamed, SectionFailure, rows_left}
use Rattle.xet_shards.specs.Steps.SectionReadingSteps.{ReadsNext, RecordFails}

-- a read of n bytes was refused, after calls that did not fail
refused_as : (Passes Ends : List ℕ → Type 0) (bytes : List ℕ) (old mid new : Source) (n : ℕ) (e : CoreError) → mid.failures ≡ old.failures
    → (length mid.bytes < mid.at + n → Ends bytes) → FailedBy (ReadCase (length mid.bytes < mid.at + n)) mid new e
    → SectionFailure Passes Ends bytes old new e
refused_as Passes Ends bytes old mid new n e same ends cause = search rules

-- records were not read after calls that did not fail
pub section_failure : (Passes Ends Passes' Ends' : List ℕ → Type 0) (bytes bytes' : List ℕ) (old mid new : Source) (e : CoreError) → mid.failures ≡ old.failures
    → (Passes bytes → Passes' bytes') → (Ends bytes → Ends' bytes') → SectionFailure Passes Ends bytes mid new e → SectionFailure Passes' Ends' bytes' old new e
section_failure Passes Ends Passes' Ends' bytes bytes' old mid new e same passes ends cause =
    search rules

module _ {H R : Type 0} (K : RecordKind H R) (laws : KindLaws K) where
  -- the header at the front of the bytes that were left
  begins_with : (old mid : Source) (h : H) → ReadsHeader K (ReadsBytes old mid) h → BeginsWithHeader K (bytes_left old) h (bytes_left mid)
  begins_with old mid h read = record { widths = read.widths; is_record = read.is_record; bytes_are = ReadsBytes-consumes old mid (K.header_bytes h) read.taken }

  -- the next record of a source was not read
  module _ {S : Type 0} (meaning : S → Source) where
    abbrev TakesOf : S → S → List ℕ → Type 0
    TakesOf a b xs = ReadsBytes (meaning a) (meaning b) xs

    abbrev FailsOf : S → S → ℕ → CoreError → Type 0
    FailsOf a b n e = ReadFails (meaning a) (meaning b) n e

    pub record_fails : (left : ℕ) (s t : S) (e : CoreError) → NextRecordNotRead K TakesOf FailsOf left s t e → RecordFails K left (meaning s) (meaning t) e
    record_fails left s t e (no_header fails) =
        let old = meaning s in
        record {
          bytes = fails.bytes;
          seeks = fails.seeks;
          taken = 48;
          read = fails.read;
          may_take = inl (omega arith);
          cause = refused_as (BeginsRefused K left) (EndsEarly K left) (bytes_left old) old old (meaning t) 48 e refl (λ short. inl (lacks_left old 48 (omega arith) short)) fails.cause;
        }
    record_fails left s t e (refused_header h read refused is) =
        let taken = read.taken in
        record {
          bytes = ap (λ (u : Source). u.bytes) taken.after;
          seeks = ap (λ (u : Source). u.seeks) taken.after;
          taken = 48;
          read = omega (arith, ap (λ (u : Source). u.read) taken.after, laws.header_size h);
          may_take = inl (omega arith);
          cause = inr (ap (λ (u : Source). u.failures) taken.after, passes_limit is (h, bytes_left (meaning t), begins_with (meaning s) (meaning t) h read, refused));
        }
    record_fails left s t e (no_rows h m after begun fails) =
        let old = meaning s in
        let mid = meaning m in
        let taken = begun.read.taken in
        let bytes : mid.bytes ≡ old.bytes = ap (λ (u : Source). u.bytes) taken.after in
        let some : 0 < length (K.header_bytes h) = omega (arith, laws.header_size h) in
        let at : mid.at ≡ old.at + length (K.header_bytes h) = ap (λ (u : Source). u.at) taken.after in
        let inside : mid.at ≤ length mid.bytes = omega (arith, at, taken.within some, ap length bytes) in
        let begins = begins_with old mid h begun.read in
        let within : IsAccepted K left h = record { allowed = begun.allowed; rows = omega (arith, begun.rows) } in
        record {
          bytes = fails.bytes ∙ bytes;
          seeks = fails.seeks ∙ ap (λ (u : Source). u.seeks) taken.after;
          taken = 48 * (1 + K.rows_after h);
          read = omega (arith, fails.read, ap (λ (u : Source). u.read) taken.after, laws.header_size h);
          may_take = inr (h, bytes_left mid, begins, omega arith);
          cause = refused_as (BeginsRefused K left) (EndsEarly K left) (bytes_left old) old mid (meaning t) (48 * K.rows_after h) e (ap (λ (u : Source). u.failures) taken.after)
              (λ short. inr (h, bytes_left mid, begins, within, lacks_left mid (48 * K.rows_after h) (omega (arith, short, inside)) short)) fails.cause;
        }

  pub no_offset_after : (left after : ℕ) (old now new : Source) (found : R) (failure : Error) (e : CoreError) → ReadsNext K old now left after found
      → Fails now new 0 failure → FromDevice failure e → RecordFails K left old new e
  no_offset_after left after old now new found failure e next fails is =
      let x = next.reads.stored in
      let taken = next.reads.taken in
      let stored = next.reads.is_stored in
      let are : bytes_left old ≡ K.record_bytes x ++ bytes_left now = ReadsBytes-consumes old now (K.record_bytes x) taken in
      let size : length (K.record_bytes x) ≡ 48 * (1 + K.rows_after (K.header_of x)) = length-record_bytes K laws x stored ∙ ap (λ n. 48 * n) (laws.rows x stored) in
      record {
        bytes = fails.bytes ∙ ap (λ (s : Source). s.bytes) taken.after;
        seeks = omega (arith, fails.seeks, ap (λ (s : Source). s.seeks) taken.after);
        taken = length (K.record_bytes x);
        read = omega (arith, fails.read, ap (λ (s : Source). s.read) taken.after);
        may_take = inr (K.header_of x, K.bytes_after x ++ bytes_left now, stored_begins K laws (bytes_left old) x (bytes_left now) stored are, omega (arith, size));
        cause = inl (fails.failures ∙ ap (λ (s : Source). s.failures + 1) taken.after, failure, fails.last_failure, is);
      }

  -- the offset after the records that were read
  pub offset_after : (start now : Source) (found : List R) (left : ℕ) → HasRead K (ReadsBytes start now) found left → now.at ≡ start.at + 48 * sum_by K.row_count found
  offset_after start now found left read = omega (
    arith,
    ap (λ (s : Source). s.at) read.taken.after,
    length-all_record_bytes K.record_bytes K.row_count K.IsStored (length-record_bytes K laws) read.stored read.are_stored,
    same_total read.stored,
    ap (λ rs. sum_by K.row_count rs) read.returned,
  )
    where
      same_total : (rs : List R) → sum_by K.row_count (map K.as_read rs) ≡ sum_by K.row_count rs
      same_total [] = refl
      same_total (r ∷ rs) =
          omega (arith, sum_by-cons K.row_count (K.as_read r) (map K.as_read rs), sum_by-cons K.row_count r rs, laws.same_rows r, same_total rs)

  -- the bytes of the section, as far as the records that were read
  module _ (start now : Source) (found : List R) (left : ℕ) (read : HasRead K (ReadsBytes start now) found left) where
    pub holds : HoldsRecords K (bytes_left start) read.stored (bytes_left now)
    holds = search (rules, ReadsBytes-consumes)

    left_is : left ≡ rows_left K read.stored
    left_is = omega (arith, read.rows)

    -- the section of the records that were read, whose bookend was read after them
    pub section_passed : (new : Source) → ReadsBookend K (ReadsBytes now new)
        → IsSection K (bytes_left start) read.stored × (new ≡ after_read start (48 * (sum_by K.row_count read.stored + 1)))
    section_passed new last =
        let records_bytes = flat_map K.record_bytes read.stored in
        let bookend = K.header_bytes last.header in
        let size : length (records_bytes ++ bookend) ≡ 48 * (sum_by K.row_count read.stored + 1) =
        omega (
          arith,
          length-append records_bytes bookend,
          laws.header_size last.header,
          length-all_record_bytes K.record_bytes K.row_count K.IsStored (length-record_bytes K laws) read.stored read.are_stored,
        ) in (
          search (rules, holds, ReadsBytes-consumes now new bookend last.taken),
          (ReadsBytes-trans start now new records_bytes bookend read.taken last.taken).after ∙ ap (after_read start) size,
        )

    pub section_ends : (new : Source) → ReadsBookend K (ReadsBytes now new) → StreamsSection K start new found
    section_ends new last = search (rules, section_passed new last)

    pub section_fails : (new : Source) (e : CoreError) → RecordFails K left now new e → SectionNotStreamed K start new e
    section_fails new e fails = search (rules, read.taken.after, section_failure, holds, left_is)

  -- the whole section
  pub section_read : {S : Type 0} (meaning : S → Source) (s t : S) (found : List R) → ReadsRecords K (TakesOf meaning) s t found → StreamsSection K (meaning s) (meaning t) found
  section_read meaning s t found reads = section_ends (meaning s) (meaning reads.mid) found reads.left reads.records (meaning t) reads.bookend

  pub section_stops : {S : Type 0} (meaning : S → Source) (s t : S) (e : CoreError) → StopsAfter K (TakesOf meaning) (FailsOf meaning) s t e → SectionNotStreamed K (meaning s) (meaning t) e
  section_stops meaning s t e stops =
      section_fails (meaning s) (meaning stops.mid) stops.found stops.left stops.records (meaning t) e (record_fails meaning stops.left stops.mid t e stops.stops)
