-- What is written for the records of two headers with one hash, and why nothing is.
use Rattle.std.proofs.Common.{◌≡◌, ◌⊎◌, inl, inr, ℕ, ◌+◌, ◌*◌, ◌<◌, List, Option, None, Some, Ok, Err, refl, sym, ap, ◌∙◌, subst, arith, append-nil}
use Rattle.std.specs.Prelude.{⊤, MatchResult, IsErrAnd}
use Rattle.std.specs.declared.result.Result.{Result}
use Rattle.std.specs.Io.KnownBytes.{Appends}
use Rattle.std.proofs.KnownBytes.{Appends-nil}
use Rattle.std.proofs.lemmas.Option.{same_Some, none-some}
use Rattle.xet_base.specs.declared.error.CoreError.{CoreError}
use Rattle.xet_base.specs.Source.{Source, ReadsBytes, ReadFails, NoFailure}
use Rattle.xet_records.specs.declared.row_copier.CopyFailure.{CopyFailure}
use Rattle.xet_records.specs.declared.row_copier.CopyFailure.TheVariants.{Input, Output}
use Rattle.xet_records.specs.Copying.{CopyFails}
use Rattle.xet_records.specs.RecordKind.{RecordKind, KindLaws}
use Rattle.xet_records.specs.Reading.{ReadsRowsAfter}
use Rattle.xet_shards.proofs.Write.Copying.{header_returned, rows_returned}
use Rattle.xet_core_structures.specs.Records.RecordPairs.{key_of_record}
use Rattle.xet_core_structures.specs.Steps.RecordPairsSteps.{AreOfOneHash}
use Rattle.xet_core_structures.specs.Steps.MergeJoin.{IsRecordHeader, ReadsOptionalRecord, SkipFails, SkipsBoth, CopiesKept, KeepsRecord, HasTooManyRows, WritesMade, MakesRecord, CannotMake, PairFails}
use Rattle.xet_core_structures.specs.Steps.MergeJoin.CannotMake.{too_many_rows}
use Rattle.xet_core_structures.specs.Steps.MergeJoin.PairFails.{output_fails, first_fails, second_fails, refused}
use Rattle.xet_core_structures.specs.TwoShards.Streams.{streams}
use Rattle.xet_core_structures.specs.Steps.StreamsSteps.{Sources, sources}
use Rattle.xet_core_structures.proofs.TwoShards.OneSection.{serves_same, taken_serves}

module _ {H R : Type 0} (K : RecordKind H R) where
  module _ (first second : Option H) (old new : Sources) where
    -- a failure for one reason is one for another
    pub fails_so : (Narrow Wide : Option R → Option R → Type 0) → ((one other : Option R) → ReadsOptionalRecord K first old.first new.first one → ReadsOptionalRecord K second old.second new.second other → Narrow one other → Wide one other)
        → (failure : CopyFailure) → PairFails K first second old new Narrow failure → PairFails K first second old new Wide failure
    fails_so Narrow Wide wider failure (output_fails e is device one two) = output_fails e is device one two
    fails_so Narrow Wide wider failure (first_fails e is h at fails no_failure) = first_fails e is h at fails no_failure
    fails_so Narrow Wide wider failure (second_fails e is h at fails no_failure) = second_fails e is h at fails no_failure
    fails_so Narrow Wide wider failure (refused e is invalid one other p q narrow) = refused e is invalid one other p q (wider one other p q narrow)

    fails_turned : (Refused : Option R → Option R → Type 0) (failure : CopyFailure) → PairFails K first second old new Refused failure
        → PairFails K second first (sources old.second old.first) (sources new.second new.first) (λ other one. Refused one other) failure
    fails_turned Refused failure (output_fails e is device one two) = output_fails e is device two one
    fails_turned Refused failure (first_fails e is h at fails no_failure) = second_fails e is h at fails no_failure
    fails_turned Refused failure (second_fails e is h at fails no_failure) = first_fails e is h at fails no_failure
    fails_turned Refused failure (refused e is invalid one other p q narrow) = refused e is invalid other one q p narrow

    -- what a call that always fails returns
    pub refused_so : {T : Type 0} (Done : T → Type 0) (Refused : Option R → Option R → Type 0)
        → ((one other : Option R) → ReadsOptionalRecord K first old.first new.first one → ReadsOptionalRecord K second old.second new.second other → Refused one other)
        → (r : Result T CopyFailure) → IsErrAnd r (PairFails K first second old new (λ one other. ⊤)) → MatchResult r Done (PairFails K first second old new Refused)
    refused_so Done Refused reason (Ok v) fails = absurd fails
    refused_so Done Refused reason (Err failure) fails = fails_so (λ one other. ⊤) Refused (λ one other p q _. reason one other p q) failure fails

  -- copying the record of the first header failed
  pub copy_failed : {S : Type 0} (meaning : S → Source) (s t : S) (kept : H) (passed : Option H) (two : Source) (Refused : Option R → Option R → Type 0) (failure : CopyFailure)
      → CopyFails (λ a b xs. ReadsBytes (meaning a) (meaning b) xs) (λ a b n e. ReadFails (meaning a) (meaning b) n e) s t (48 * K.rows_after kept) failure
      → PairFails K (Some kept) passed (sources (meaning s) two) (sources (meaning t) two) Refused failure
  copy_failed meaning s t kept passed two Refused (Input e) fails = first_fails e refl kept refl fails (serves_same two two refl)
  copy_failed meaning s t kept passed two Refused (Output e) (is, taken, read) = output_fails e refl is (taken_serves (meaning s) (meaning t) taken read).bytes refl

  -- reading past the record of either header failed
  pub first_not_past : (first second : Option H) (old_1 new_1 two : Source) (Refused : Option R → Option R → Type 0) (e : CoreError) → SkipFails K first old_1 new_1 e
      → PairFails K first second (sources old_1 two) (sources new_1 two) Refused (Input e)
  first_not_past first second old_1 new_1 two Refused e (h, is, fails) = first_fails e refl h is fails (serves_same two two refl)

  pub second_not_past : (first second : Option H) (old_1 new_1 old_2 new_2 : Source) (Refused : Option R → Option R → Type 0) (e : CoreError) → NoFailure old_1 new_1 → SkipFails K second old_2 new_2 e
      → PairFails K first second (sources old_1 old_2) (sources new_1 new_2) Refused (Input e)
  second_not_past first second old_1 new_1 old_2 new_2 Refused e no_failure (h, is, fails) = second_fails e refl h is fails no_failure

  module _ (laws : KindLaws K) where
    -- the record of a header, as it was returned
    pub record_of : (h : H) (old new : Source) (r : R) → ReadsRowsAfter K h (ReadsBytes old new) r → IsRecordHeader K h → (K.header_of r ≡ h) × (K.row_count r ≡ 1 + K.rows_after h) × K.IsStored r
    record_of h old new r read header = (
      header_returned K laws (ReadsBytes old new) h r read,
      rows_returned K laws (ReadsBytes old new) h r read header.is_record header.fits,
      subst K.IsStored read.returned (laws.as_read_stored read.stored (read.is_stored header.is_record header.fits)),
    )

    no_room : (h : H) (old new : Source) (rows : ℕ) → IsRecordHeader K h → 4294967295 < rows + (1 + K.rows_after h) → (one : Option R) → ReadsOptionalRecord K (Some h) old new one → HasTooManyRows K rows one
    no_room h old new rows header many one (r, is, read) =
        subst (HasTooManyRows K rows) (sym is) (omega (arith, many, (record_of h old new r read header).1))

    -- what the record has no room for
    pub refused_rows : (kept : H) (passed : Option H) (old_1 new_1 old_2 new_2 : Source) (rows : ℕ) → IsRecordHeader K kept → 4294967295 < rows + (1 + K.rows_after kept)
        → (one other : Option R) → ReadsOptionalRecord K (Some kept) old_1 new_1 one → ReadsOptionalRecord K passed old_2 new_2 other → HasTooManyRows K rows one
    refused_rows kept passed old_1 new_1 old_2 new_2 rows header many one other p q = no_room kept old_1 new_1 rows header many one p

    -- the record of one header is what is made of both
    module _ (makes : Option R → Option R → Option R → Type 0) (kept : H) (passed : Option H) (old_1 new_1 old_2 new_2 : Source) (rows : ℕ) (header : IsRecordHeader K kept)
        (hash : AreOfOneHash K.hash_of (Some kept) passed) where
      -- what is known of the other
      key_of_other : (passed : Option H) → AreOfOneHash K.hash_of (Some kept) passed → (other : Option R) → ReadsOptionalRecord K passed old_2 new_2 other → (x : R) → other ≡ Some x → K.hash_of kept ≡ key_of_record K x
      key_of_other None hash other (none, same) x is = absurd (none-some x (sym none ∙ is))
      key_of_other (Some g) hash other (r, at, read) x is =
          hash ∙ ap K.hash_of (sym (header_returned K laws (ReadsBytes old_2 new_2) g r read)) ∙ ap (key_of_record K) (same_Some r x (sym at ∙ is))

      made_of_kept : (r : R) (other : Option R) → ReadsRowsAfter K kept (ReadsBytes old_1 new_1) r → ReadsOptionalRecord K passed old_2 new_2 other → (x : R) → (Some r ≡ Some x) ⊎ (other ≡ Some x)
          → key_of_record K r ≡ key_of_record K x
      made_of_kept r other read q x (inl is) = ap (key_of_record K) (same_Some r x is)
      made_of_kept r other read q x (inr is) = ap K.hash_of (header_returned K laws (ReadsBytes old_1 new_1) kept r read) ∙ key_of_other passed hash other q x is

      kept_first : ((r : R) (other : Option R) → ReadsRowsAfter K kept (ReadsBytes old_1 new_1) r → ReadsOptionalRecord K passed old_2 new_2 other → makes (Some r) other (Some r))
          → (Before After : List R → Type 0) (old new : Option (List ℕ)) → CopiesKept K kept passed (streams old_1 old_2 old) (streams new_1 new_2 new) rows Before After
          → WritesMade K makes (Some kept) passed (streams old_1 old_2 old) (streams new_1 new_2 new) rows Before After
      kept_first is_made Before After old new keeps =
          let r = keeps.copied.found in
          let facts = record_of kept old_1 new_1 r keeps.copied.read header in
          record {
            one = Some r;
            other = keeps.other;
            made = Some r;
            reads_first = (r, refl, keeps.copied.read);
            reads_second = keeps.past;
            is_made = is_made r keeps.other keeps.copied.read keeps.past;
            made_of = record { stored = facts.2; rows = omega arith; hash = made_of_kept r keeps.other keeps.copied.read keeps.past };
            few = omega (arith, keeps.few, facts.1);
            bytes = subst (Appends old new) (sym (append-nil (K.record_bytes r))) keeps.copied.bytes;
            written = keeps.copied.written;
          }

      kept_second : ((r : R) (other : Option R) → ReadsRowsAfter K kept (ReadsBytes old_1 new_1) r → ReadsOptionalRecord K passed old_2 new_2 other → makes other (Some r) (Some r))
          → (Before After : List R → Type 0) (old new : Option (List ℕ)) → CopiesKept K kept passed (streams old_1 old_2 old) (streams new_1 new_2 new) rows Before After
          → WritesMade K makes passed (Some kept) (streams old_2 old_1 old) (streams new_2 new_1 new) rows Before After
      kept_second is_made Before After old new keeps =
          let r = keeps.copied.found in
          let facts = record_of kept old_1 new_1 r keeps.copied.read header in
          record {
            one = keeps.other;
            other = Some r;
            made = Some r;
            reads_first = keeps.past;
            reads_second = (r, refl, keeps.copied.read);
            is_made = is_made r keeps.other keeps.copied.read keeps.past;
            made_of = record { stored = facts.2; rows = omega arith; hash = λ x is. made_of_kept r keeps.other keeps.copied.read keeps.past x (other_way x is) };
            few = omega (arith, keeps.few, facts.1);
            bytes = subst (Appends old new) (sym (append-nil (K.record_bytes r))) keeps.copied.bytes;
            written = keeps.copied.written;
          } where
            other_way : (x : R) → (keeps.other ≡ Some x) ⊎ (Some keeps.copied.found ≡ Some x) → (Some keeps.copied.found ≡ Some x) ⊎ (keeps.other ≡ Some x)
            other_way x (inl is) = inr is
            other_way x (inr is) = inl is

      -- it has too many rows
      cannot_first : ((r : R) (other : Option R) → ReadsRowsAfter K kept (ReadsBytes old_1 new_1) r → ReadsOptionalRecord K passed old_2 new_2 other → makes (Some r) other (Some r))
          → (one other : Option R) → ReadsOptionalRecord K (Some kept) old_1 new_1 one → ReadsOptionalRecord K passed old_2 new_2 other → HasTooManyRows K rows one → CannotMake K makes rows one other
      cannot_first is_made one other (r, is, read) q many =
          let facts = record_of kept old_1 new_1 r read header in
          subst (λ o. CannotMake K makes rows o other) (sym is)
          (too_many_rows r (is_made r other read q) (record { stored = facts.2; rows = omega arith; hash = made_of_kept r other read q }) (subst (HasTooManyRows K rows) is many))

      cannot_second : ((r : R) (other : Option R) → ReadsRowsAfter K kept (ReadsBytes old_1 new_1) r → ReadsOptionalRecord K passed old_2 new_2 other → makes other (Some r) (Some r))
          → (one other : Option R) → ReadsOptionalRecord K (Some kept) old_1 new_1 one → ReadsOptionalRecord K passed old_2 new_2 other → HasTooManyRows K rows one → CannotMake K makes rows other one
      cannot_second is_made one other (r, is, read) q many =
          let facts = record_of kept old_1 new_1 r read header in
          subst (λ o. CannotMake K makes rows other o) (sym is)
          (too_many_rows r (is_made r other read q) (record { stored = facts.2; rows = omega arith; hash = λ x at. made_of_kept r other read q x (other_way x at) }) (subst (HasTooManyRows K rows) is many))
        where
          other_way : (x : R) → (other ≡ Some x) ⊎ (Some r ≡ Some x) → (Some r ≡ Some x) ⊎ (other ≡ Some x)
          other_way x (inl at) = inr at
          other_way x (inr at) = inl at

      -- what a call that keeps one record returns
      pub keeps_first : ((r : R) (other : Option R) → ReadsRowsAfter K kept (ReadsBytes old_1 new_1) r → ReadsOptionalRecord K passed old_2 new_2 other → makes (Some r) other (Some r))
          → (Before After : List R → Type 0) (old new : Option (List ℕ)) → {T : Type 0} (r : Result T CopyFailure)
          → KeepsRecord K kept passed (streams old_1 old_2 old) (streams new_1 new_2 new) rows Before After r
          → MakesRecord K makes (Some kept) passed (streams old_1 old_2 old) (streams new_1 new_2 new) rows Before After r
      keeps_first is_made Before After old new (Ok v) keeps = kept_first is_made Before After old new keeps
      keeps_first is_made Before After old new (Err failure) fails =
          fails_so (Some kept) passed (sources old_1 old_2) (sources new_1 new_2) (λ one _. HasTooManyRows K rows one) (CannotMake K makes rows) (cannot_first is_made) failure fails

      pub keeps_second : ((r : R) (other : Option R) → ReadsRowsAfter K kept (ReadsBytes old_1 new_1) r → ReadsOptionalRecord K passed old_2 new_2 other → makes other (Some r) (Some r))
          → (Before After : List R → Type 0) (old new : Option (List ℕ)) → {T : Type 0} (r : Result T CopyFailure)
          → KeepsRecord K kept passed (streams old_1 old_2 old) (streams new_1 new_2 new) rows Before After r
          → MakesRecord K makes passed (Some kept) (streams old_2 old_1 old) (streams new_2 new_1 new) rows Before After r
      keeps_second is_made Before After old new (Ok v) keeps = kept_second is_made Before After old new keeps
      keeps_second is_made Before After old new (Err failure) fails =
          fails_turned (Some kept) passed (sources old_1 old_2) (sources new_1 new_2) (λ one other. CannotMake K makes rows other one) failure
          (fails_so (Some kept) passed (sources old_1 old_2) (sources new_1 new_2) (λ one _. HasTooManyRows K rows one) (λ one other. CannotMake K makes rows other one) (cannot_second is_made) failure fails)

    -- nothing was made of both
    pub nothing_kept : (makes : Option R → Option R → Option R → Type 0) (first second : Option H) (old_1 new_1 old_2 new_2 : Source) (rows : ℕ) (Before : List R → Type 0) (old : Option (List ℕ))
        → ((one other : Option R) → ReadsOptionalRecord K first old_1 new_1 one → ReadsOptionalRecord K second old_2 new_2 other → makes one other None) → {T : Type 0} (r : Result T CopyFailure)
        → MatchResult r (λ _. SkipsBoth K first second (sources old_1 old_2) (sources new_1 new_2)) (PairFails K first second (sources old_1 old_2) (sources new_1 new_2) (λ one other. ⊥))
        → MakesRecord K makes first second (streams old_1 old_2 old) (streams new_1 new_2 old) rows Before Before r
    nothing_kept makes first second old_1 new_1 old_2 new_2 rows Before old is_made (Ok v) both = record {
      one = both.0.0;
      other = both.1.0;
      made = None;
      reads_first = both.0.1;
      reads_second = both.1.1;
      is_made = is_made both.0.0 both.1.0 both.0.1 both.1.1;
      made_of = tt;
      few = tt;
      bytes = Appends-nil old;
      written = λ front have. subst Before (sym (append-nil front)) have;
    }
    nothing_kept makes first second old_1 new_1 old_2 new_2 rows Before old is_made (Err failure) fails =
        fails_so first second (sources old_1 old_2) (sources new_1 new_2) (λ one other. ⊥) (CannotMake K makes rows) (λ one other p q never. absurd never) failure fails
