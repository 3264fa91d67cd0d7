-- Headers, records and sections that are read from any input.
use Rattle.std.proofs.Common.{◌≡◌, ◌≢◌, inl, inr, Ok, Err, Option, None, Some, IfSome, ℕ, ◌+◌, ◌≤◌, List, [], ◌∷◌, ◌++◌, flat_map, append-nil, refl, sym, ap, ◌∙◌, subst, arith}
use Rattle.std.specs.Prelude.{MatchResult, IfOk, OnOk}
use Rattle.std.specs.declared.result.Result.{Result}
use Rattle.std.specs.Io.KnownBytes.{Consumes}
use Rattle.std.proofs.lemmas.List.{map-append}
use Rattle.std.proofs.lemmas.List.Elements.{All-append, All-cons, All-nil}
use Rattle.std.proofs.lemmas.List.Sums.{sum_by_push}
use Rattle.std.proofs.lemmas.Grind.{flat_map-append}
use Rattle.xet_base.specs.declared.error.CoreError.{CoreError}
use Rattle.xet_base.specs.Hash.{all_ones}
use Rattle.xet_records.specs.declared.record_reader.FormatVersion.{FormatVersion}
use Rattle.xet_records.specs.RecordKind.{RecordKind, in_version, KindLaws, IsHeaderRow}
use Rattle.xet_records.specs.Rows.{ReadsRow}
use Rattle.xet_records.specs.Reading.{ReadsHeader, CountsHeader, ReadsRowsAfter, CountsRecord, ReadsNextRecord, HasRead, BeginsWithBookend, BeginsRefused, EndsEarly}
use Rattle.xet_records.proofs.RecordKinds.{whole_record, stored_begins, bookend_or_header, bookend_or_ends, bookend_or_passes, no_record}

-- a header row, not a bookend's
pub header_read : {H R : Type 0} (K : RecordKind H R) (row_bytes : H → List ℕ) (Fits : H → Type 0) (as_read : H → H) (Took : List ℕ → Type 0) (h : H)
    → IsHeaderRow K row_bytes Fits as_read → ReadsRow row_bytes Fits as_read Took h → K.hash_of h ≢ all_ones → ReadsHeader K Took h
header_read {H = H} K row_bytes Fits as_read Took h row read is_record =
    let same : read.stored ≡ h = sym (row.same read.stored) ∙ read.returned in
    record {
      widths = subst (λ (k : H). K.Fits k) same (row.widths read.stored read.widths);
      is_record = is_record;
      taken = subst Took (row.bytes read.stored ∙ ap (λ (k : H). K.header_bytes k) same) read.taken;
    }

-- the same in a version
pub header_in : {H R : Type 0} (K : RecordKind H R) (version : FormatVersion) (Took : List ℕ → Type 0) (h : H) → ReadsHeader K Took h → ReadsHeader (in_version K version) Took h
header_in K version Took h read = record { widths = read.widths; is_record = read.is_record; taken = read.taken }

-- what an answer says of a value
on_value : {T E : Type 0} (P Claim : T → Type 0) (Q : E → Type 0) (r : Result T E) → ((v : T) → P v → Claim v) → MatchResult r P Q → IfOk r Claim
on_value P Claim Q (Ok v) claims holds = claims v holds
on_value P Claim Q (Err e) claims holds = tt

module _ {H R : Type 0} (K : RecordKind H R) (laws : KindLaws K) where
  -- the rows after a header make a record
  pub rows_after_header : (version : FormatVersion) (First Next Both : List ℕ → Type 0) (left after : ℕ) (h : H) (found : R) → ((xs ys : List ℕ) → First xs → Next ys → Both (xs ++ ys))
      → CountsHeader (in_version K version) First left after h → left ≤ 4294967296 → ReadsRowsAfter K h Next found → CountsRecord (in_version K version) Both left after found
  rows_after_header version First Next Both left after h found joins begun few read =
      let same : K.header_of found ≡ h = ap K.header_of (sym read.returned) ∙ laws.same_header read.stored ∙ read.same_header in
      record {
        reads = whole_record K laws version First Next Both h found joins begun.read.widths begun.read.is_record begun.allowed begun.read.taken read (omega (arith, begun.rows, few));
        rows = ap (λ (k : H). after + (1 + K.rows_after k)) same ∙ begun.rows;
      }

  -- before the first record of a section
  unfoldable pub nothing_read : (Took : List ℕ → Type 0) → Took [] → HasRead K Took [] 4294967295
  nothing_read Took nothing = record { stored = []; are_stored = All-nil K.IsStored; taken = nothing; rows = refl; returned = refl }

  -- one record more
  unfoldable pub more_read : (First Next Both : List ℕ → Type 0) (found : List R) (left after : ℕ) (r : R) → ((xs ys : List ℕ) → First xs → Next ys → Both (xs ++ ys))
      → HasRead K First found left → CountsRecord K Next left after r → HasRead K Both (found ++ r ∷ []) after
  more_read First Next Both found left after r joins before next =
      let x = next.reads.stored in
      let header : K.header_of x ≡ K.header_of r = sym (laws.same_header x) ∙ ap K.header_of next.reads.returned in
      let rows : K.row_count x ≡ 1 + K.rows_after (K.header_of r) = laws.rows x next.reads.is_stored ∙ ap (λ (k : H). 1 + K.rows_after k) header in
      record {
        stored = before.stored ++ x ∷ [];
        are_stored = All-append K.IsStored before.stored (x ∷ []) before.are_stored (All-cons K.IsStored x [] next.reads.is_stored (All-nil K.IsStored));
        taken = subst Both (ap (λ bs. flat_map K.record_bytes before.stored ++ bs) (sym (append-nil (K.record_bytes x))) ∙ sym (flat_map-append K.record_bytes before.stored (x ∷ [])))
            (joins (flat_map K.record_bytes before.stored) (K.record_bytes x) before.taken next.reads.taken);
        rows = omega (arith, sum_by_push K.row_count before.stored x, before.rows, next.rows, rows);
        returned = map-append K.as_read before.stored (x ∷ []) ∙ (λ i. before.returned i ++ next.reads.returned i ∷ []);
      }

  -- the rows of a record that was read are within those that were left
  record_within : (Took : List ℕ → Type 0) (left after : ℕ) (found : R) (next : CountsRecord K Took left after found) → K.row_count next.reads.stored ≤ left
  record_within Took left after found next =
      let x = next.reads.stored in
      let header : K.header_of x ≡ K.header_of found = sym (laws.same_header x) ∙ ap K.header_of next.reads.returned in
      omega (arith, laws.rows x next.reads.is_stored, ap (λ (k : H). K.rows_after k) header, next.rows)

  -- bytes from which a bookend or a record was read are neither truncated nor too many
  whole : (bytes rest : List ℕ) (left after : ℕ) (found : Option R) → ReadsNextRecord K (Consumes (Some bytes) (Some rest)) left after found
      → (¬ EndsEarly K left bytes) × (¬ BeginsRefused K left bytes)
  whole bytes rest left after None read =
      let bookend : BeginsWithBookend K bytes = record { header = read.bookend.header; rest = rest; widths = read.bookend.widths; is_bookend = read.bookend.is_bookend; bytes_are = read.bookend.taken } in
      (bookend_or_ends K laws left bytes bookend, bookend_or_passes K laws left bytes bookend)
  whole bytes rest left after (Some found) next =
      let none = no_record K laws left bytes next.reads.stored rest next.reads.is_stored (record_within _ left after found next) next.reads.taken in
      ((λ ends. none (inr (inr ends))), (λ passes. none (inr (inl passes))))

  reads_whole : (old new : Option (List ℕ)) (left after : ℕ) (found : Option R) → ReadsNextRecord K (Consumes old new) left after found
      → IfSome old (λ bytes. ¬ EndsEarly K left bytes) × IfSome old (λ bytes. ¬ BeginsRefused K left bytes)
  reads_whole None new left after found read = (tt, tt)
  reads_whole (Some bytes) None left after None read = absurd read.bookend.taken
  reads_whole (Some bytes) None left after (Some found) next = absurd next.reads.taken
  reads_whole (Some bytes) (Some rest) left after found read = whole bytes rest left after found read

  -- what was written is read again, whatever follows
  read_front : (new : Option (List ℕ)) (r : R) (rest : List ℕ) (left after : ℕ) (found : Option R) → K.IsStored r
      → ReadsNextRecord K (Consumes (Some (K.record_bytes r ++ rest)) new) left after found → (found ≡ Some (K.as_read r)) × (new ≡ Some rest)
  read_front None r rest left after None stored read = absurd read.bookend.taken
  read_front None r rest left after (Some found) stored next = absurd next.reads.taken
  read_front (Some more) r rest left after None stored read =
      let bytes = K.record_bytes r ++ rest in
      absurd (bookend_or_header K laws bytes (K.header_of r) (K.bytes_after r ++ rest)
      (record { header = read.bookend.header; rest = more; widths = read.bookend.widths; is_bookend = read.bookend.is_bookend; bytes_are = read.bookend.taken }) (stored_begins K laws bytes r rest stored refl))
  read_front (Some more) r rest left after (Some found) stored next =
      let same = laws.front r next.reads.stored rest more stored next.reads.is_stored next.reads.taken in
      (ap Some (sym next.reads.returned ∙ ap K.as_read (sym same.0)), ap Some (sym same.1))

  -- the same of what a reader answers
  module _ (old new : Option (List ℕ)) (left after : ℕ) (Fails : CoreError → Type 0) (r : Result (Option R) CoreError) (read : MatchResult r (ReadsNextRecord K (Consumes old new) left after) Fails) where
    pub not_cut_short : OnOk r (IfSome old (λ bytes. ¬ EndsEarly K left bytes))
    not_cut_short = on_value _ _ Fails r (λ found next. (reads_whole old new left after found next).0) read

    pub few_rows : OnOk r (IfSome old (λ bytes. ¬ BeginsRefused K left bytes))
    few_rows = on_value _ _ Fails r (λ found next. (reads_whole old new left after found next).1) read

    pub read_again : (x : R) (rest : List ℕ) → K.IsStored x → old ≡ Some (K.record_bytes x ++ rest) → IfOk r (λ found. (found ≡ Some (K.as_read x)) × (new ≡ Some rest))
    read_again x rest stored are =
        on_value _ _ Fails r (λ found next. read_front new x rest left after found stored (subst (λ bs. ReadsNextRecord K (Consumes bs new) left after found) are next)) read
