-- Queries at one location: what follows from the header that is read there and the run after it.
use Rattle.std.proofs.Common.{◌≡◌, ◌≢◌, inl, inr, ◌==◌, Ok, Err, Bool, true, false, ◌+◌, ◌*◌, ◌^◌, ◌<◌, ◌≤◌, [], ◌++◌, length, Option, sym, ap, ◌∙◌, subst, arith}
use Rattle.std.specs.Prelude.{◌⊎◌, ◌↔◌, IsTrue, MatchResult}
use Rattle.std.proofs.lemmas.Bool.{both_ways, eq-eqb}
use Rattle.xet_base.specs.declared.error.CoreError.{CoreError}
use Rattle.xet_base.specs.Errors.{CoreResult}
use Rattle.xet_base.specs.Hash.{all_ones}
use Rattle.xet_base.specs.Source.{Source, DeviceFailure, bytes_left, after_seek}
use Rattle.xet_base.proofs.Reading.{ReadsBytes-consumes}
use Rattle.xet_records.specs.declared.xorb_structs.XorbChunkSequenceHeader.{XorbChunkSequenceHeader}
use Rattle.xet_records.specs.XorbRow.{xorb_header_row}
use Rattle.xet_records.specs.XorbRecord.{xorb_records}
use Rattle.xet_records.specs.Reading.{BeginsWithHeader}
use Rattle.xet_records.proofs.Lengths.{length-xorb_header_row}
use Rattle.xet_shards.specs.ShardInMemory.ChunkQuery.{Run}
use Rattle.xet_shards.specs.Lookup.Lookup.{Visit}
use Rattle.xet_shards.specs.Lookup.RunReading.{QueryAt, xorb_offset, xorb_at, chunk_offset, chunks_at, chunks_left, FoundRun, AnnouncesChunk, AnnouncesNoChunk, RefusalAt}
use Rattle.xet_shards.specs.Steps.RunReadingSteps.{OutcomeAt}
use Rattle.xet_shards.specs.Steps.RunSteps.{RowFails, ReadsHeaderAt, RunFailure, ReadsRunAt, RunFails}
use Rattle.xet_shards.proofs.Lookup.Lookups.{serves_after}

-- a test for no hashes that failed
some_hashes : (q : QueryAt) → false ≡ (length q.hashes == 0) → q.hashes ≢ []
some_hashes q some none = both_ways _ (sym some) (eq-eqb _ _ (ap length none))

-- the header was not read
pub header_fails : {Absent : CoreError → Type 0} (q : QueryAt) {old new : Source} {e : CoreError} → false ≡ (length q.hashes == 0) → RowFails q.section q.row old new e → OutcomeAt Absent q old new (Err e)
header_fails q some fails = record {
  answer = tt;
  refused = (
    some_hashes q some,
    elim fails.cause [
      | inl device ↦ inl device
      | inr (inl past) ↦ inr (inl (past.0, past.1, inl past.2))
      | inr (inr cut) ↦ inr (inr (inr (cut.0, cut.1, inl (cut.2, cut.3))))
    ],
  );
  nothing = λ none. absurd (some_hashes q some none);
  no_failure = tt;
  visit = record { bytes = fails.bytes; seeks = omega (arith, fails.seeks); no_fewer = fails.no_fewer; taken = 48; read = fails.read; may_take = inl (omega arith) };
}

-- the header was read, and tested for a bookend
module _ (q : QueryAt) {old mid : Source} {header : XorbChunkSequenceHeader} (some : false ≡ (length q.hashes == 0)) (read : ReadsHeaderAt q.section q.row old mid header)
    {b : Bool} (is : IsTrue b ↔ (header.xorb_hash ≡ all_ones)) where
  bytes_are : xorb_at q old.bytes ≡ xorb_header_row header ++ bytes_left mid
  bytes_are = ReadsBytes-consumes (after_seek old (xorb_offset q)) mid (xorb_header_row header) read.taken

  bytes_same : mid.bytes ≡ old.bytes
  bytes_same = ap (λ (s : Source). s.bytes) read.taken.after

  failures_same : mid.failures ≡ old.failures
  failures_same = ap (λ (s : Source). s.failures) read.taken.after

  seeks_then : mid.seeks ≡ old.seeks + 1
  seeks_then = ap (λ (s : Source). s.seeks) read.taken.after

  read_then : mid.read ≡ old.read + 48
  read_then = ap (λ (s : Source). s.read) read.taken.after ∙ ap (λ n. old.read + n) (length-xorb_header_row header)

  begins : b ≡ false → BeginsWithHeader xorb_records (xorb_at q old.bytes) header (bytes_left mid)
  begins other = record { widths = read.fits; is_record = λ ones. both_ways b other (is.1 ones); bytes_are = bytes_are }

  -- there is a bookend, or no such chunk
  announces_none : (b ≡ true) ⊎ ((b ≡ false) × (header.num_entries ≤ q.index)) → AnnouncesNoChunk q old.bytes
  announces_none (inl bookend) = inl (record { header = header; rest = bytes_left mid; widths = read.fits; is_bookend = is.0 bookend; bytes_are = bytes_are })
  announces_none (inr (other, past)) = inr (header, bytes_left mid, begins other, past)

  pub absent_fails : {Absent : CoreError → Type 0} {e : CoreError} → (b ≡ true) ⊎ ((b ≡ false) × (header.num_entries ≤ q.index)) → Absent e → OutcomeAt Absent q old mid (Err e)
  absent_fails none is_absent = record {
    answer = tt;
    refused = (some_hashes q some, inr (inr (inl (failures_same, is_absent, announces_none none))));
    nothing = λ none. absurd (some_hashes q some none);
    no_failure = tt;
    visit = record { bytes = bytes_same; seeks = omega (arith, seeks_then); no_fewer = omega (arith, seeks_then); taken = 48; read = omega (arith, read_then); may_take = inl (omega arith) };
  }

  -- there is a chunk
  module _ (other : b ≡ false) (within : q.index < header.num_entries) where
    location : AnnouncesChunk q old.bytes header
    location = record { rest = bytes_left mid; begins = begins other; within = within }

    device_failed : (new : Source) (e : CoreError) → DeviceFailure mid new e → DeviceFailure old new e
    device_failed new e device = (device.0 ∙ ap (λ k. k + 1) failures_same, device.1, device.2, device.3)

    run_refused : (Absent : CoreError → Type 0) (new : Source) (e : CoreError) → chunk_offset q < 2 ^ 64 → RunFailure q.key q.hashes (chunks_left q header) (chunks_at q old.bytes) mid new e
        → RefusalAt Absent q old new e
    run_refused Absent new e fits (inl device) = inl (device_failed new e device)
    run_refused Absent new e fits (inr (inl (none, bare, passes))) = inr (inl (none ∙ failures_same, bare, inr (header, location, inr passes)))
    run_refused Absent new e fits (inr (inr (none, end, cut))) = inr (inr (inr (none ∙ failures_same, end, inr (header, location, fits, cut))))

    refused_here : (Absent : CoreError → Type 0) (new : Source) (e : CoreError) → RunFails q header mid new e → RefusalAt Absent q old new e
    refused_here Absent new e fails = elim fails.cause [
      | inl cause ↦ run_refused Absent new e cause.0 (subst (λ bytes. RunFailure q.key q.hashes (chunks_left q header) (chunks_at q bytes) mid new e) bytes_same cause.1)
      | inr (inl device) ↦ inl (device_failed new e device)
      | inr (inr past) ↦ inr (inl (past.0 ∙ failures_same, past.1, inr (header, location, inl past.2)))
    ]

    visit_run : (new : Source) → new.bytes ≡ mid.bytes → new.seeks ≤ mid.seeks + 1 → mid.seeks ≤ new.seeks → new.read ≤ mid.read + 48 * chunks_left q header → Visit xorb_records 2 q.section q.row old new
    visit_run new bytes seeks no_fewer most = record {
      bytes = bytes ∙ bytes_same;
      seeks = omega (arith, seeks, seeks_then);
      no_fewer = omega (arith, no_fewer, seeks_then);
      taken = 48 + 48 * chunks_left q header;
      read = omega (arith, most, read_then);
      may_take = inr (header, bytes_left mid, begins other, omega arith);
    }

    pub run_read : {Absent : CoreError → Type 0} {new : Source} (r : CoreResult (Option Run)) → MatchResult r (ReadsRunAt q header mid new) (RunFails q header mid new)
        → OutcomeAt Absent q old new r
    run_read {Absent} {new} (Ok answer) reads = record {
      answer = inr (some_hashes q some, header, location, subst (λ bytes. FoundRun q header bytes answer) bytes_same reads.found);
      refused = tt;
      nothing = λ none. absurd (some_hashes q some none);
      no_failure = serves_after old mid new (record { bytes = bytes_same; failures = failures_same; last_failure = ap (λ (s : Source). s.last_failure) read.taken.after }) reads.no_failure;
      visit = visit_run new reads.no_failure.bytes (omega (arith, reads.seeks)) (omega (arith, reads.seeks)) reads.read;
    }
    run_read {Absent} {new} (Err e) fails = record {
      answer = tt;
      refused = (some_hashes q some, refused_here Absent new e fails);
      nothing = λ none. absurd (some_hashes q some none);
      no_failure = tt;
      visit = visit_run new fails.bytes fails.seeks fails.no_fewer fails.read;
    }
