-- Sections that are processed record by record.
use Rattle.std.proofs.Common.{inl, inr, ℕ, List, [], ◌∷◌, ◌++◌, flat_map, append-nil, Ok, Err, Option, refl, sym, ap, ◌∙◌, subst, arith}
use Rattle.std.specs.Prelude.{◌⊎◌, MatchResult}
use Rattle.std.specs.Io.KnownBytes.{Consumes}
use Rattle.std.proofs.lemmas.List.Elements.{All-append, All-cons, All-nil}
use Rattle.std.proofs.lemmas.List.Sums.{sum_by_push}
use Rattle.std.proofs.lemmas.Grind.{flat_map-append}
use Rattle.std.proofs.lemmas.Fn.{FoldsTo-push}
use Rattle.xet_base.specs.declared.error.CoreError.{CoreError}
use Rattle.xet_base.specs.Errors.{CoreResult}
use Rattle.xet_base.specs.Input.{ReaderFails}
use Rattle.xet_records.specs.RecordKind.{RecordKind, KindLaws}
use Rattle.xet_records.specs.Reading.{NextRecordNotRead}
use Rattle.xet_records.specs.Reading.NextRecordNotRead.{no_header, refused_header, no_rows}
use Rattle.xet_records.specs.ViewReading.{CountsStored}
use Rattle.xet_records.specs.Processing.{HasProcessed, ProcessesSection, RefusesRecord, StopsReading, Processes}

module _ {H R V F : Type 0} (K : RecordKind H R) (laws : KindLaws K) (record_of : V → R) (step : F → V → CoreResult (Unit {0}) → F → Type 0) where
  -- before the first record
  pub nothing_processed : (Took : List ℕ → Type 0) (f : F) → Took [] → HasProcessed K record_of Took step f f 4294967295
  nothing_processed Took f nothing = record { given = []; are_stored = All-nil _; taken = nothing; rows = refl; calls = refl }

  -- one record more
  pub more_processed : (First Next Both : List ℕ → Type 0) (f g h : F) (left after : ℕ) (view : V) → ((xs ys : List ℕ) → First xs → Next ys → Both (xs ++ ys))
      → HasProcessed K record_of First step f g left → CountsStored K Next left after (record_of view) → step g view (Ok tt) h → HasProcessed K record_of Both step f h after
  more_processed First Next Both f g h left after view joins before next call =
      let bytes_of : V → List ℕ = λ v. K.record_bytes (record_of v) in
      let rows : V → ℕ = λ v. K.row_count (record_of v) in
      record {
        given = before.given ++ view ∷ [];
        are_stored = All-append (λ v. K.IsStored (record_of v)) before.given (view ∷ []) before.are_stored
            (All-cons (λ v. K.IsStored (record_of v)) view [] next.is_stored (All-nil (λ v. K.IsStored (record_of v))));
        taken = subst Both (ap (λ bs. flat_map bytes_of before.given ++ bs) (sym (append-nil (bytes_of view))) ∙ sym (flat_map-append bytes_of before.given (view ∷ [])))
            (joins (flat_map bytes_of before.given) (bytes_of view) before.taken next.taken);
        rows = omega (arith, sum_by_push rows before.given view, before.rows, next.rows, laws.rows (record_of view) next.is_stored);
        calls = FoldsTo-push _ f before.given g view h before.calls call;
      }

-- what is said of an input's states, of what a function makes of them
module _ {H R V F I J : Type 0} (K : RecordKind H R) (record_of : V → R) (view : I → J) (reads : J → J → List ℕ → Type 0) (fails : J → J → ℕ → CoreError → Type 0)
    (step : F → V → CoreResult (Unit {0}) → F → Type 0) where
  stops_seen : (left : ℕ) (old new : I) (e : CoreError) → NextRecordNotRead K (λ a b xs. reads (view a) (view b) xs) (λ a b n f. fails (view a) (view b) n f) left old new e
      → NextRecordNotRead K reads fails left (view old) (view new) e
  stops_seen left old new e (no_header failed) = no_header failed
  stops_seen left old new e (refused_header h read refused bare) = refused_header h read refused bare
  stops_seen left old new e (no_rows h mid after begun failed) = no_rows h (view mid) after begun failed

  pub processes_all : (old new : I) (first last : F) (result : CoreResult (Unit {0}))
      → MatchResult result (λ _. ProcessesSection K record_of (λ a b xs. reads (view a) (view b) xs) (λ a b n f. fails (view a) (view b) n f) step old new first last)
      (λ e. RefusesRecord K record_of (λ a b xs. reads (view a) (view b) xs) (λ a b n f. fails (view a) (view b) n f) step old new first last e
      ⊎ StopsReading K record_of (λ a b xs. reads (view a) (view b) xs) (λ a b n f. fails (view a) (view b) n f) step old new first last e)
      → MatchResult result (λ _. ProcessesSection K record_of reads fails step (view old) (view new) first last)
      (λ e. RefusesRecord K record_of reads fails step (view old) (view new) first last e ⊎ StopsReading K record_of reads fails step (view old) (view new) first last e)
  processes_all old new first last (Ok _) done = record { mid = view done.mid; left = done.left; records = done.records; bookend = done.bookend }
  processes_all old new first last (Err e) (inl refuses) = inl (record {
    mid = view refuses.mid;
    before = refuses.before;
    left = refuses.left;
    after = refuses.after;
    refused = refuses.refused;
    records = refuses.records;
    next = refuses.next;
    refusal = refuses.refusal;
  })
  processes_all old new first last (Err e) (inr stops) =
      inr (record { mid = view stops.mid; left = stops.left; records = stops.records; stops = stops_seen stops.left stops.mid new e stops.stops })

-- and of a reader's states, of the bytes that it has left
pub processes_reader : {H R F I : Type 0} (K : RecordKind H R) (remaining : I → Option (List ℕ)) (step : F → R → CoreResult (Unit {0}) → F → Type 0)
    (old new : I) (first last : F) (result : CoreResult (Unit {0}))
    → MatchResult result
    (λ _. ProcessesSection K (λ r. r) (λ a b xs. Consumes (remaining a) (remaining b) xs) (λ a b n e. ReaderFails (remaining a) n e) step old new first last)
    (λ e. RefusesRecord K (λ r. r) (λ a b xs. Consumes (remaining a) (remaining b) xs) (λ a b n e. ReaderFails (remaining a) n e) step old new first last e
    ⊎ StopsReading K (λ r. r) (λ a b xs. Consumes (remaining a) (remaining b) xs) (λ a b n e. ReaderFails (remaining a) n e) step old new first last e)
    → Processes K step (remaining old) (remaining new) first last result
processes_reader K remaining step old new first last result =
    processes_all K (λ r. r) remaining Consumes (λ before after n e. ReaderFails before n e) step old new first last result
