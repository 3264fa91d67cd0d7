-- What is read of the record at a row, from a source in memory.
use Rattle.std.proofs.Common.{◌≡◌, ◌≢◌, ◌⊎◌, inl, inr, ℕ, List, drop, Option, Ok, Err, sym, ap, subst, arith}
use Rattle.std.specs.Prelude.{MatchResult}
use Rattle.xet_base.specs.MemorySource.{in_memory}
use Rattle.xet_core_structures.specs.declared.error.CoreError.{CoreError}
use Rattle.xet_core_structures.specs.declared.error.CoreError.TheVariants.{InternalError}
use Rattle.xet_core_structures.specs.declared.shard_format.MDBShardInfo.{MDBShardInfo}
use Rattle.xet_core_structures.specs.declared.source.MemorySource.{MemorySource}
use Rattle.xet_core_structures.specs.TwoShards.ByteResults.{LoadRefusal}
use Rattle.xet_core_structures.specs.Ends.{HasHeaderAndFooter}
use Rattle.xet_core_structures.specs.Errors.{CoreResult, variant_number}
use Rattle.xet_core_structures.specs.Lookup.{RecordAt, row_at, InfoRefusal, ReadsInfo, ReadInfoFails}
use Rattle.xet_core_structures.specs.SectionReading.{SectionCase, BeginsWithBookend, BeginsRefused, EndsEarly}
use Rattle.xet_core_structures.specs.SectionReading.SectionCase.{not_read, passes_limit}
use Rattle.xet_core_structures.specs.Source.ReadCase.{out_of_memory, out_of_bytes}
use Rattle.xet_records.specs.RecordKind.{RecordKind}
use Rattle.shard_bytes.specs.Walking.{IsAtRow, NotAtRow, WithEnds}
use Rattle.shard_bytes.specs.Steps.WalkingSteps.{IsRead}

module _ {H R : Type 0} (K : RecordKind H R) (bytes : List ℕ) (offset row : ℕ) (old new : MemorySource) (are : old.bytes.now ≡ bytes) where
  abbrev here : List ℕ → List ℕ
  here all = drop (row_at offset row) all

  abbrev Case : List ℕ → CoreError → Type 0
  Case all e = SectionCase (BeginsRefused K 4294967296) (EndsEarly K 4294967296) (here all) e

  -- only a bookend is an internal error
  no_case : (all : List ℕ) (e : CoreError) → variant_number e ≡ 2 → ¬ Case all e
  no_case all e number (not_read (out_of_memory is)) = omega (arith, number, ap variant_number is)
  no_case all (InternalError text) number (not_read (out_of_bytes is short)) = is
  no_case all (InternalError text) number (passes_limit is passes) = is
  no_case all _ number case = absurd (omega (arith, number))

  bookend_here : (e : CoreError) → variant_number e ≡ 2 → InfoRefusal K offset row (in_memory old) (in_memory new) e → BeginsWithBookend K (here bytes)
  bookend_here (InternalError text) number (inl (same, bare, past)) = absurd bare
  bookend_here e number (inr (fits, inl (same, bare, bookend))) = subst (λ all. BeginsWithBookend K (here all)) are bookend
  bookend_here e number (inr (fits, inr (inl failed))) = absurd (omega (arith, failed.0))
  bookend_here e number (inr (fits, inr (inr (same, case)))) = absurd (no_case old.bytes.now e number case)
  bookend_here _ number cause = absurd (omega (arith, number))

  not_here : (e : CoreError) → variant_number e ≢ 2 → InfoRefusal K offset row (in_memory old) (in_memory new) e → NotAtRow K bytes offset row e
  not_here e number (inl (same, bare, past)) = inl (bare, past)
  not_here e number (inr (fits, inr (inl failed))) = absurd (omega (arith, failed.0))
  not_here e number (inr (fits, inr (inr (same, case)))) = inr (subst (λ all. Case all e) are case)
  not_here (InternalError text) number (inr (fits, inl (same, bare, bookend))) = absurd (omega (arith, number))
  not_here _ number (inr (fits, inl (same, bare, bookend))) = absurd bare

  pub at_row : (read : CoreResult R) (found : CoreResult (Option R))
      → MatchResult read (ReadsInfo K offset row (in_memory old) (in_memory new)) (ReadInfoFails K offset row (in_memory old) (in_memory new)) → IsRead read found
      → MatchResult found (IsAtRow K bytes offset row) (NotAtRow K bytes offset row)
  at_row (Ok r) found reads is = subst (λ f. MatchResult f (IsAtRow K bytes offset row) (NotAtRow K bytes offset row)) (sym is) (subst (λ all. RecordAt K all (row_at offset row) r) are reads.is_at)
  at_row (Err (InternalError text)) found fails is =
      subst (λ f. MatchResult f (IsAtRow K bytes offset row) (NotAtRow K bytes offset row)) (sym is) (bookend_here (InternalError text) (omega arith) fails.cause)
  at_row (Err e) found fails is = subst (λ f. MatchResult f (IsAtRow K bytes offset row) (NotAtRow K bytes offset row)) (sym is) (not_here e (omega arith) fails.cause)

-- what is said with a header and a footer is said of bytes that have them
pub found_with_ends : {T : Type 0} (bytes : List ℕ) (info : MDBShardInfo) → HasHeaderAndFooter bytes info → (Is : MDBShardInfo → T → Type 0) (No : MDBShardInfo → CoreError → Type 0) (found : CoreResult T)
    → MatchResult found (Is info) (No info) → MatchResult found (λ v. WithEnds bytes (λ i. Is i v)) (λ e. LoadRefusal bytes e ⊎ WithEnds bytes (λ i. No i e))
found_with_ends bytes info ends Is No (Ok v) is = (info, ends, is)
found_with_ends bytes info ends Is No (Err e) refused = inr (info, ends, refused)
