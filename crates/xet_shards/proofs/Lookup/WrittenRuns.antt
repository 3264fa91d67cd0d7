-- Chunk queries in the bytes of xorbs that are written.
use Rattle.std.proofs.Common.{◌≡◌, ◌≢◌, ◌⊎◌, Ok, Err, ℕ, ◌+◌, ◌^◌, ◌<◌, ◌≤◌, List, [], ◌∷◌, ◌++◌, length, drop, Option, None, refl, sym, ap, ◌∙◌, subst, arith}
use Rattle.std.specs.Prelude.{Contains, MatchResult}
use Rattle.std.specs.FinMap.{values, entries}
use Rattle.std.proofs.lemmas.List.Elements.{All-contains, Contains-append_right}
use Rattle.xet_base.specs.declared.error.CoreError.{CoreError}
use Rattle.xet_base.specs.Errors.{CoreResult}
use Rattle.xet_base.specs.declared.error.CoreError.TheVariants.{InvalidArguments}
use Rattle.xet_base.specs.declared.merklehash.DataHash.{DataHash}
use Rattle.xet_base.specs.Source.{Source, DeviceFailure}
use Rattle.xet_records.specs.declared.file_structs.MDBFileInfo.{MDBFileInfo}
use Rattle.xet_records.specs.declared.xorb_structs.MDBXorbInfo.{MDBXorbInfo}
use Rattle.xet_records.specs.XorbRow.{xorb_header_row}
use Rattle.xet_records.specs.XorbRecord.{xorb_records, xorb_bookend, xorb_record_bytes, xorb_row_count, IsStoredXorb, size_of_chunks, IsXorb}
use Rattle.xet_records.proofs.RecordKinds.{xorb_laws}
use Rattle.xet_shards.specs.ShardInMemory.ChunkQuery.{Run}
use Rattle.xet_shards.specs.declared.shard_format.ends.footer.MDBShardFileFooter.{MDBShardFileFooter}
use Rattle.xet_shards.specs.Write.Section.{total_rows, StartsAt}
use Rattle.xet_shards.specs.Content.Shard.{Shard, IsShard}
use Rattle.xet_shards.specs.Write.Layout.{LayoutOptions}
use Rattle.xet_shards.specs.Write.WithOptions.{IsBytesWithOptions}
use Rattle.xet_shards.specs.Lookup.Lookup.{row_at}
use Rattle.xet_shards.specs.Lookup.RunReading.{QueryAt, query_at, AnswerAt, RefusedAt}
use Rattle.xet_shards.specs.Steps.RunReadingSteps.{OutcomeAt}
use Rattle.xet_shards.specs.Lookup.WrittenQueries.{RunInXorb, QueryFailsInXorb}
use Rattle.xet_shards.proofs.Write.WithOptions.{xorbs_stored}
use Rattle.xet_shards.proofs.Lookup.StoredRecords.{AreStoredAt, is_stored, record_there, bookend_there, end_bound}
use Rattle.xet_shards.proofs.Lookup.StoredRuns.{answers_at, refuses_at, bookend_answers, bookend_refuses}
use Rattle.xet_shards.proofs.ShardInMemory.Xorbs.{xorb_values}

pub xorb_of_shard : (s : Shard) → IsShard s → (row : ℕ) (x : MDBXorbInfo) → StartsAt xorb_records (values s.xorbs) row x → IsXorb x
xorb_of_shard s shard row x at =
    All-contains IsXorb (values s.xorbs) x (xorb_values (entries s.xorbs) shard.xorbs)
    (subst (λ xs. Contains xs x) (sym at.records_are) (Contains-append_right at.before (x ∷ at.after) x (0, omega arith, refl)))

module _ {files : List MDBFileInfo} {xorbs : List MDBXorbInfo} {options : LayoutOptions} (old : Source) {footer : MDBShardFileFooter} (is : IsBytesWithOptions files xorbs options old.bytes footer) where
  section : AreStoredAt xorb_records xorbs footer.xorb_info_offset old.bytes
  section = xorbs_stored files xorbs options old footer is

  -- where a xorb starts
  module _ {row : ℕ} {x : MDBXorbInfo} (at : StartsAt xorb_records xorbs row x) where
    x_is_stored : IsStoredXorb x
    x_is_stored = is_stored xorb_records xorb_laws xorbs footer.xorb_info_offset old section row x at

    there : (rest : List ℕ) × (drop (row_at footer.xorb_info_offset row) old.bytes ≡ xorb_record_bytes x ++ rest)
    there = record_there xorb_records xorb_laws xorbs footer.xorb_info_offset old section row x at

    fits : row_at footer.xorb_info_offset (row + xorb_row_count x) < 2 ^ 64
    fits = omega (arith, section.offset_fits, end_bound xorb_records xorb_laws xorbs footer.xorb_info_offset old section row x at)

    module _ (qs : List DataHash) (index : ℕ) where
      abbrev q : QueryAt
      q = query_at footer qs (row, index)

      -- a query there gives the run
      pub run_there : (answer : Option Run) → AnswerAt q old.bytes answer → RunInXorb footer.chunk_hash_hmac_key qs x index answer
      run_there answer found = answers_at x_is_stored q old there.0 there.1 fits answer found

      pub no_run_there : (Absent : CoreError → Type 0) (new : Source) (e : CoreError) → size_of_chunks x ≤ 4294967295 → RefusedAt Absent q old new e
          → DeviceFailure old new e ⊎ (Absent e × (length x.chunks ≤ index))
      no_run_there Absent new e few refused = refuses_at x_is_stored q old there.0 there.1 fits few Absent new e refused

      pub direct_with_options : size_of_chunks x ≤ 4294967295 → (new : Source) (r : CoreResult (Option Run)) → OutcomeAt (λ e. e ≡ InvalidArguments) q old new r
          → MatchResult r (RunInXorb options.key qs x index) (QueryFailsInXorb qs x index old new)
      direct_with_options few new (Ok answer) outcome =
          subst (λ (f : MDBShardFileFooter). RunInXorb f.chunk_hash_hmac_key qs x index answer) is.footer_is (run_there answer outcome.answer)
      direct_with_options few new (Err e) outcome = (outcome.refused.0, no_run_there (λ e. e ≡ InvalidArguments) new e few outcome.refused)

  -- at the bookend after the last
  module _ {row : ℕ} (at : row ≡ total_rows xorb_records xorbs) (qs : List DataHash) (index : ℕ) where
    bookend_here : drop (row_at footer.xorb_info_offset row) old.bytes ≡ xorb_header_row xorb_bookend ++ section.rest
    bookend_here = ap (λ n. drop (row_at footer.xorb_info_offset n) old.bytes) at ∙ bookend_there xorb_records xorb_laws xorbs footer.xorb_info_offset old.bytes section

    bookend_fits : row_at footer.xorb_info_offset row < 2 ^ 64
    bookend_fits = omega (arith, section.offset_fits, section.fits.rows, at)

    pub direct_at_bookend : (new : Source) (r : CoreResult (Option Run)) → OutcomeAt (λ e. e ≡ InvalidArguments) (query_at footer qs (row, index)) old new r
        → MatchResult r (λ answer. (qs ≡ []) × (answer ≡ None)) (λ e. (qs ≢ []) × (DeviceFailure old new e ⊎ (e ≡ InvalidArguments)))
    direct_at_bookend new (Ok answer) outcome = bookend_answers (query_at footer qs (row, index)) old section.rest bookend_here bookend_fits answer outcome.answer
    direct_at_bookend new (Err e) outcome =
        (outcome.refused.0, bookend_refuses (query_at footer qs (row, index)) old section.rest bookend_here bookend_fits (λ e. e ≡ InvalidArguments) new e outcome.refused)
