-- What was made is delivered, and why nothing was made is answered.
use Rattle.std.proofs.Common.{◌≡◌, ◌⊎◌, inl, inr, ℕ, ◌<◌, ◌≤◌, List, ◌++◌, length, drop, map, Option, Ok, Err, Result, MatchResult, sym, ◌∙◌, subst, arith}
use Rattle.std.specs.Prelude.{IfOk, IsOkAnd}
use Rattle.std.specs.FinMap.{values}
use Rattle.std.specs.declared.vec.Vec.{Vec}
use Rattle.xet_core_structures.specs.declared.error.CoreError.{CoreError}
use Rattle.xet_core_structures.specs.declared.file_structs.FileDataSequenceEntry.{FileDataSequenceEntry}
use Rattle.xet_core_structures.specs.declared.merklehash.DataHash.{DataHash}
use Rattle.xet_core_structures.specs.declared.xorb_structs.MDBXorbInfo.{MDBXorbInfo}
use Rattle.xet_core_structures.specs.Errors.{CoreResult, variant_number}
use Rattle.xet_core_structures.specs.KeyedHash.{no_key}
use Rattle.xet_core_structures.specs.Shard.{Shard}
use Rattle.placed_shards.specs.Filling.{Fills, FillsWith}
use Rattle.shard_bytes.specs.Concatenations.{FillsSpanWith}
use Rattle.xet_core_structures.specs.WrittenQueries.{RunAmong, RunInXorb}
use Rattle.xet_core_structures.specs.WrittenShard.{IsBytesOf}
use Rattle.xet_core_structures.specs.XorbRecord.{xorb_records}
use Rattle.shard_bytes.specs.Query.{AnswersQuery, AnswersQueryAt, HasNoChunkAt, RefusesQuery, RefusesQueryAt}
use Rattle.shard_bytes.specs.Section.{StartsAt}
use Rattle.xet_c.specs.declared.hash.XetHash.{XetHash}
use Rattle.xet_c.specs.declared.segment.XetSegment.{XetSegment}
use Rattle.xet_c.specs.Arguments.{AnswersRun, AnswersRunAt, IsRun, RefusesRun, RefusesRunAt, ShowsRun, c_hash}
use Rattle.xet_c.specs.Output.{Answers, AnswersSpan, Delivers, Refuses, Outcome, SpanOutcome}

pub outcome : {X Z : Type 0} (IsMade : List X → Type 0) (IsCause : CoreError → Type 0) (old new : List X) (written answer : ℕ) (made : Result (Vec X Z) CoreError)
    → MatchResult made (λ items. IsMade items.items) IsCause
    → MatchResult made (λ items. Delivers items.items old new written answer) (λ e. Refuses e old new written answer)
    → Outcome IsMade IsCause old new written answer
outcome IsMade IsCause old new written answer (Ok items) is delivered = inl (items.items, is, delivered)
outcome IsMade IsCause old new written answer (Err e) is refused = inr (e, is, refused)

-- what is said of the number of items that were made, and of none, is said of the number that is returned
pub count_given : {X Z : Type 0} (Says : ℕ → Type 0) (old new : List X) (written answer : ℕ) (made : Result (Vec X Z) CoreError)
    → IfOk made (λ items. Says (length items.items)) → Says 0
    → MatchResult made (λ items. Delivers items.items old new written answer) (λ e. Refuses e old new written answer)
    → Says written
count_given Says old new written answer (Ok items) says none delivered = subst Says (sym delivered.0) says
count_given Says old new written answer (Err e) says none refused = subst Says (sym refused.1) none

module _ (bytes old new : List ℕ) (room answer size : ℕ) (size_is : size ≡ length bytes) (room_is : room ≡ length old) where
  fits_or_stays : ((size ≤ length old) × (new ≡ bytes ++ drop size old)) ⊎ ((length old < size) × (new ≡ old))
      → ((answer ≡ 0) × (size ≤ room)) ⊎ ((answer ≡ 19) × (room < size))
      → ((answer ≡ 0) × (length bytes ≤ length old) × (new ≡ bytes ++ drop (length bytes) old)) ⊎ ((answer ≡ 19) × (length old < length bytes) × (new ≡ old))
  fits_or_stays (inl (small, new_is)) (inl (zero, fits)) = inl (zero, omega (arith, small, size_is), subst (λ n. new ≡ bytes ++ drop n old) size_is new_is)
  fits_or_stays (inl (small, new_is)) (inr (short, large)) = absurd (omega (arith, small, large, room_is))
  fits_or_stays (inr (large, same)) (inl (zero, fits)) = absurd (omega (arith, large, fits, room_is))
  fits_or_stays (inr (large, same)) (inr (short, also)) = inr (short, omega (arith, large, size_is), same)

-- bytes that were put into the output itself are delivered
pub delivers : (bytes old new : List ℕ) (room written answer size : ℕ) → room ≡ length old → Fills bytes old new size → Answers room written answer size → Delivers bytes old new written answer
delivers bytes old new room written answer size room_is (is, fits) (count, answers) = (count ∙ is, fits_or_stays bytes old new room answer size is room_is fits answers)

pub outcome_of_fill : (IsMade : List ℕ → Type 0) (IsCause : CoreError → Type 0) (old new : List ℕ) (room written answer : ℕ) (r : Result ℕ CoreError) → room ≡ length old
    → FillsWith IsMade IsCause old new r
    → MatchResult r (Answers room written answer) (λ e. (answer ≡ variant_number e) × (written ≡ 0))
    → Outcome IsMade IsCause old new written answer
outcome_of_fill IsMade IsCause old new room written answer (Ok size) room_is (bytes, made, fills) answers =
    inl (bytes, made, delivers bytes old new room written answer size room_is fills answers)
outcome_of_fill IsMade IsCause old new room written answer (Err e) room_is (cause, stays) (answers, none) = inr (e, cause, (answers, none, stays))

-- a span that was put into the output itself
pub outcome_of_span : (IsMade : List ℕ → Type 0) (IsCause : CoreError → Type 0) (from : ℕ) (old new : List ℕ) (count size answer : ℕ) (r : Result ℕ CoreError) → count ≡ length old
    → FillsSpanWith IsMade IsCause from old new r
    → MatchResult r (AnswersSpan from count size answer) (λ e. (answer ≡ variant_number e) × (size ≡ 0))
    → SpanOutcome IsMade IsCause from old new size answer
outcome_of_span IsMade IsCause from old new count size answer (Ok whole) count_is (bytes, made, (whole_is, inl (within, filled))) (size_is, inl (zero, fits)) =
    inl (bytes, made, size_is ∙ whole_is, inl (zero, omega (arith, within, whole_is), filled))
outcome_of_span IsMade IsCause from old new count size answer (Ok whole) count_is (bytes, made, (whole_is, inl (within, filled))) (size_is, inr (refused, past)) = absurd (omega (arith, within, past, count_is))
outcome_of_span IsMade IsCause from old new count size answer (Ok whole) count_is (bytes, made, (whole_is, inr (past, same))) (size_is, inl (zero, fits)) = absurd (omega (arith, past, fits, count_is))
outcome_of_span IsMade IsCause from old new count size answer (Ok whole) count_is (bytes, made, (whole_is, inr (past, same))) (size_is, inr (refused, also)) =
    inl (bytes, made, size_is ∙ whole_is, inr (refused, omega (arith, past, whole_is), same))
outcome_of_span IsMade IsCause from old new count size answer (Err e) count_is (cause, stays) (answers, none) = inr (e, cause, (answers, none, stays))

-- what is said of the size of what was made, and of none, is said of the number that is returned
pub size_given : (Says : ℕ → Type 0) (room written answer : ℕ) (r : Result ℕ CoreError) → IfOk r Says → Says 0
    → MatchResult r (Answers room written answer) (λ e. (answer ≡ variant_number e) × (written ≡ 0)) → Says written
size_given Says room written answer (Ok size) says none (count, answers) = subst Says (sym count) says
size_given Says room written answer (Err e) says none (answers, zero) = subst Says (sym zero) none

-- a run that was looked for is shown, or why there is none
pub run_shown : (IsAnswer : Option (ℕ × FileDataSequenceEntry) → Type 0) (IsCause : CoreError → Type 0) (old new : XetSegment) (count answer : ℕ) (found : CoreResult (Option (ℕ × FileDataSequenceEntry)))
    → MatchResult found IsAnswer IsCause
    → MatchResult found (λ run. IsRun run old new count × (answer ≡ 0)) (λ e. (new ≡ old) × (count ≡ 0) × (answer ≡ variant_number e))
    → ShowsRun IsAnswer IsCause old new count answer
run_shown IsAnswer IsCause old new count answer (Ok run) is shown = inl (run, is, shown.0, shown.1)
run_shown IsAnswer IsCause old new count answer (Err e) is shown = inr (e, is, shown.0, shown.1, shown.2)

-- a run that was looked for, on any bytes and on those of a shard
pub run_said : (bytes : List ℕ) (cs : List XetHash) (hashes : List DataHash) (found : CoreResult (Option (ℕ × FileDataSequenceEntry))) → map c_hash hashes ≡ cs
    → MatchResult found (AnswersQuery bytes hashes) (RefusesQuery bytes hashes) → ((s : Shard) → IsBytesOf s bytes → IsOkAnd found (RunAmong no_key hashes (values s.xorbs)))
    → MatchResult found (AnswersRun bytes cs) (RefusesRun bytes cs)
run_said bytes cs hashes (Ok answer) same any_bytes written = (hashes, same, any_bytes, written)
run_said bytes cs hashes (Err e) same any_bytes written = inr (hashes, same, any_bytes, written)

-- a run that was looked for at a place, on any bytes and at a shard's xorb
pub run_at_said : (bytes : List ℕ) (cs : List XetHash) (hashes : List DataHash) (row index : ℕ) (found : CoreResult (Option (ℕ × FileDataSequenceEntry))) → map c_hash hashes ≡ cs
    → MatchResult found (AnswersQueryAt bytes hashes row index) (RefusesQueryAt bytes hashes row index)
    → ((s : Shard) (xorb : MDBXorbInfo) → IsBytesOf s bytes → StartsAt xorb_records (values s.xorbs) row xorb → MatchResult found (RunInXorb no_key hashes xorb index) (HasNoChunkAt hashes xorb index))
    → MatchResult found (AnswersRunAt bytes cs row index) (RefusesRunAt bytes cs row index)
run_at_said bytes cs hashes row index (Ok answer) same any_bytes written = (hashes, same, any_bytes, λ s xorb start. written s xorb start.0 start.1)
run_at_said bytes cs hashes row index (Err e) same any_bytes written = inr (hashes, same, any_bytes, λ s xorb start. written s xorb start.0 start.1)
