-- Locations that are tried one after another, after a search in the chunk table.
use Rattle.std.proofs.Common.{◌≡◌, ◌≢◌, inr, Ok, Err, is_some, true, false, true≢false, ℕ, ◌+◌, ◌<◌, ◌≤◌, List, [], ◌∷◌, ◌++◌, length, take, drop, map, get_or, Option, None, Some, String, Global, refl, sym, ap, ◌∙◌, subst, arith, rules}
use Rattle.std.specs.Prelude.{Contains, string_bytes, slice_get, IfOk, IfErr, OnOk}
use Rattle.std.proofs.lemmas.Grind.{common_steps}
use Rattle.std.proofs.lemmas.Option.{none-some, same_Some}
use Rattle.std.proofs.lemmas.List.{map-append, length-map, take_more, take_all, take-map}
use Rattle.std.proofs.lemmas.List.Elements.{All-push, Contains-get_or}
use Rattle.xet_base.specs.declared.error.CoreError.{CoreError}
use Rattle.xet_base.specs.Errors.{CoreResult, IsBareInvalidShard}
use Rattle.xet_base.specs.declared.error.CoreError.TheVariants.{InvalidShard}
use Rattle.xet_base.specs.declared.merklehash.DataHash.{DataHash}
use Rattle.xet_base.specs.Source.{Source, NoFailure}
use Rattle.xet_base.specs.Search.Table.{Table, Hit, Finds}
use Rattle.xet_base.proofs.Lists.{front_is}
use Rattle.xet_records.specs.XorbRecord.{xorb_records}
use Rattle.xet_records.proofs.RecordKinds.{xorb_laws}
use Rattle.xet_shards.specs.ShardInMemory.ChunkQuery.{Run}
use Rattle.xet_shards.specs.declared.shard_format.ends.footer.MDBShardFileFooter.{MDBShardFileFooter}
use Rattle.xet_shards.specs.Lookup.Lookup.{chunk_lookup_table, IsRowAndIndex, Searches, Visits, VisitsSome}
use Rattle.xet_shards.specs.Lookup.RunReading.{QueryAt, query_at, AnswerAt, RefusedAt, keyed_word, Queries, TriedAnswer, TriedRefused, QueryOutcome}
use Rattle.xet_shards.specs.Steps.RunReadingSteps.{OutcomeAt, OutcomeOfTries, NoneTried}
use Rattle.xet_shards.proofs.Lookup.Lookups.{serves_after, visits_more}

-- an error for a location that is not there, if it is a bare `InvalidShard`
if_corrupt : (q : QueryAt) (old new : Source) (e : CoreError) (text : String Global) → string_bytes text ≡ []
    → RefusedAt (λ e. e ≡ InvalidShard text) q old new e → RefusedAt IsBareInvalidShard q old new e
if_corrupt q old new e text bare refused = search rules

-- what is said of an option that is none
if_none : {X : Type 0} (P : Option X → Type 0) (o : Option X) → is_some o ≡ false → P o → P None
if_none P None none holds = holds
if_none P (Some x) some holds = absurd (true≢false some)

-- a refusal after calls that did not fail is one over all
refused_later : (q : QueryAt) (old now new : Source) (e : CoreError) → NoFailure old now → RefusedAt IsBareInvalidShard q now new e → RefusedAt IsBareInvalidShard q old new e
refused_later q old now new e no_failure refused = search rules

rows_of_values : (found : List (Hit (ℕ × ℕ))) → map (λ (location : ℕ × ℕ). location.0) (map (λ (h : Hit (ℕ × ℕ)). h.value) found) ≡ map (λ (h : Hit (ℕ × ℕ)). h.value.0) found
rows_of_values [] = refl
rows_of_values (h ∷ found) = ap (λ rows. h.value.0 ∷ rows) (rows_of_values found)

abbrev row_of : ℕ × ℕ → ℕ
row_of location = location.0

-- the next of some locations was tried
module _ {footer : MDBShardFileFooter} {hashes : List DataHash} (locations : List (ℕ × ℕ)) (i : ℕ) (below : i < length locations) {old now new : Source}
    (before : NoneTried footer hashes (take i locations) old now) {text : String Global} (bare : string_bytes text ≡ []) {r : CoreResult (Option Run)}
    (outcome : OutcomeAt (λ e. e ≡ InvalidShard text) (query_at footer hashes (get_or locations i (0, 0))) now new r) where
  abbrev next : ℕ × ℕ
  next = get_or locations i (0, 0)

  more : take (i + 1) locations ≡ take i locations ++ next ∷ []
  more = take_more locations i (0, 0) below

  visits_next : Visits xorb_records 2 footer.xorb_info_offset (map row_of (take i locations ++ next ∷ [])) old new
  visits_next = search (rules, map-append, visits_more, xorb_laws)

  visits : VisitsSome xorb_records 2 footer.xorb_info_offset (map row_of locations) old new
  visits = (i + 1, subst (λ rows. Visits xorb_records 2 footer.xorb_info_offset rows old new) (ap (map row_of) (sym more) ∙ sym (take-map row_of (i + 1) locations)) visits_next)

  answer_stays : (answer : Option Run) → AnswerAt (query_at footer hashes next) now.bytes answer → AnswerAt (query_at footer hashes next) old.bytes answer
  answer_stays answer found = subst (λ bytes. AnswerAt (query_at footer hashes next) bytes answer) before.visits.bytes found

  contains : Contains locations next
  contains = Contains-get_or locations i (0, 0) below

  -- it has a run, or was refused
  pub stops_next : IfOk r (λ answer. true ≡ is_some answer) → OutcomeOfTries footer hashes locations old new r
  stops_next some = record { answer = answer_found r some outcome.answer; refused = next_refused r outcome.refused; no_failure = no_failure r outcome.no_failure; visits = visits }
    where
      answer_found : (o : CoreResult (Option Run)) → IfOk o (λ answer. true ≡ is_some answer) → IfOk o (AnswerAt (query_at footer hashes next) now.bytes)
          → IfOk o (λ answer. TriedAnswer footer hashes old.bytes answer locations)
      answer_found (Ok None) some answer = absurd (true≢false some)
      answer_found (Ok (Some run)) some answer = (next, contains, answer_stays (Some run) answer)
      answer_found (Err e) some answer = tt

      next_refused : (o : CoreResult (Option Run)) → IfErr o (RefusedAt (λ e. e ≡ InvalidShard text) (query_at footer hashes next) now new)
          → IfErr o (λ e. TriedRefused footer hashes old new e locations)
      next_refused (Ok answer) none = tt
      next_refused (Err e) why = (next, contains, refused_later (query_at footer hashes next) old now new e before.no_failure (if_corrupt (query_at footer hashes next) now new e text bare why))

      no_failure : (o : CoreResult (Option Run)) → OnOk o (NoFailure now new) → OnOk o (NoFailure old new)
      no_failure (Ok answer) is = serves_after old now new before.no_failure is
      no_failure (Err e) none = tt

-- it has none
pub none_next : {footer : MDBShardFileFooter} {hashes : List DataHash} (locations : List (ℕ × ℕ)) (i : ℕ) → i < length locations → {old now new : Source}
    → NoneTried footer hashes (take i locations) old now → {text : String Global} → string_bytes text ≡ [] → {answer : Option Run}
    → OutcomeAt (λ e. e ≡ InvalidShard text) (query_at footer hashes (get_or locations i (0, 0))) now new (Ok answer) → false ≡ is_some answer
    → NoneTried footer hashes (take (i + 1) locations) old new
none_next {footer} {hashes} locations i below {old} {now} {new} before {text} bare {answer} outcome none =
    let next = get_or locations i (0, 0) in
    subst (λ ps. NoneTried footer hashes ps old new) (sym (more locations i below before bare outcome)) (record {
      visits = visits_next locations i below before bare outcome;
      no_failure = serves_after old now new before.no_failure outcome.no_failure;
      none = All-push (λ location. AnswerAt (query_at footer hashes location) old.bytes None) (take i locations) next before.none
          (answer_stays locations i below before bare outcome None (if_none (AnswerAt (query_at footer hashes next) now.bytes) answer (sym none) outcome.answer));
    })

-- all of them have none
pub none_found : {footer : MDBShardFileFooter} {hashes : List DataHash} (locations : List (ℕ × ℕ)) (i : ℕ) → length locations ≤ i → {old new : Source}
    → NoneTried footer hashes (take i locations) old new → OutcomeOfTries footer hashes locations old new (Ok None)
none_found {footer} {hashes} locations i all {old} {new} tried = record {
  answer = subst (TriedAnswer footer hashes old.bytes None) (take_all i locations all) tried.none;
  refused = tt;
  no_failure = tried.no_failure;
  visits = (i, subst (λ rows. Visits xorb_records 2 footer.xorb_info_offset rows old new) (sym (take-map row_of i locations)) tried.visits);
}

-- what was found is no more than there is room for
found_fit : {t : Table} {word count : ℕ} {dest_old dest_new : List (ℕ × ℕ)} → Finds t word IsRowAndIndex dest_old dest_new count → count ≤ length dest_new
found_fit finds = grind (arith, common_steps)

-- the search for a hash answered, and locations that it found were tried
module _ (footer : MDBShardFileFooter) (hash : DataHash) {count : ℕ} {old mid new : Source} {dest_old dest_new : List (ℕ × ℕ)}
    (search_gave : Searches (chunk_lookup_table footer old) (keyed_word footer hash) IsRowAndIndex 8 dest_old dest_new old mid (Ok count)) (room : length dest_new ≡ 8)
    {hashes : List DataHash} {r : CoreResult (Option Run)} (tried : OutcomeOfTries footer hashes (take count dest_new) mid new r) where
  finds : Finds (chunk_lookup_table footer old) (keyed_word footer hash) IsRowAndIndex dest_old dest_new count
  finds = search_gave.found

  in_front : take count dest_new ≡ map (λ (h : Hit (ℕ × ℕ)). h.value) finds.found
  in_front = front_is count dest_new (map (λ (h : Hit (ℕ × ℕ)). h.value) finds.found) (drop count dest_old) (length-map finds.found (λ (h : Hit (ℕ × ℕ)). h.value) ∙ finds.number) finds.written

  rows_are : map row_of (take count dest_new) ≡ map (λ (h : Hit (ℕ × ℕ)). h.value.0) finds.found
  rows_are = ap (map row_of) in_front ∙ rows_of_values finds.found

  pub queries_tries : (Answer : List (ℕ × ℕ) → Type 0) → Answer (take count dest_new) → Queries footer hash old new Answer
  queries_tries Answer answer = record {
    fits = search_gave.fits (omega arith);
    found = finds.found;
    few = omega (arith, found_fit finds, finds.number, room);
    each = finds.each;
    distinct = finds.distinct;
    all = λ sorted. finds.number ∙ search_gave.count sorted;
    searched = mid;
    no_failure = search_gave.no_failure;
    bounded = search_gave.bounds;
    visits = subst (λ rows. VisitsSome xorb_records 2 footer.xorb_info_offset rows mid new) rows_are tried.visits;
    answer = subst Answer in_front answer;
  }

  query_refused : (e : CoreError) → TriedRefused footer hashes mid new e (take count dest_new) → Queries footer hash old new (TriedRefused footer hashes old new e)
  query_refused e (location, contains, refused) =
      queries_tries (TriedRefused footer hashes old new e) (location, contains, refused_later (query_at footer hashes location) old mid new e search_gave.no_failure refused)

  query_answered : (answer : Option Run) → TriedAnswer footer hashes mid.bytes answer (take count dest_new)
      → Queries footer hash old new (TriedAnswer footer hashes old.bytes answer)
  query_answered answer found =
      queries_tries (TriedAnswer footer hashes old.bytes answer) (subst (λ bytes. TriedAnswer footer hashes bytes answer (take count dest_new)) search_gave.no_failure.bytes found)

-- the query by the first hash
pub query_read : (footer : MDBShardFileFooter) (hash : DataHash) {hashes : List DataHash} {count : ℕ} {old mid new : Source} {dest_old dest_new : List (ℕ × ℕ)}
    {r : CoreResult (Option Run)} → Some hash ≡ slice_get hashes 0 → footer.chunk_lookup_num_entry ≢ 0
    → Searches (chunk_lookup_table footer old) (keyed_word footer hash) IsRowAndIndex 8 dest_old dest_new old mid (Ok count) → length dest_new ≡ 8
    → OutcomeOfTries footer hashes (take count dest_new) mid new r → QueryOutcome footer hashes old new r
query_read footer hash {hashes = []} first some gave room tried = absurd (none-some hash (sym first))
query_read footer hash {hashes = h ∷ qs} {count} {old} {mid} {new} {dest_old} {dest_new} {r} first some gave room tried = go r tried
  where
    same : Searches (chunk_lookup_table footer old) (keyed_word footer h) IsRowAndIndex 8 dest_old dest_new old mid (Ok count)
    same = subst (λ x. Searches (chunk_lookup_table footer old) (keyed_word footer x) IsRowAndIndex 8 dest_old dest_new old mid (Ok count)) (same_Some hash h first) gave

    go : (o : CoreResult (Option Run)) → OutcomeOfTries footer (h ∷ qs) (take count dest_new) mid new o → QueryOutcome footer (h ∷ qs) old new o
    go (Ok answer) outcome = inr (some, query_answered footer h same room outcome answer outcome.answer)
    go (Err e) outcome = (some, inr (query_refused footer h same room outcome e outcome.refused))
