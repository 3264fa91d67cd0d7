-- Reading the records that a lookup leads to.
use Rattle.std.proofs.Common.{◌≡◌, ◌≢◌, inl, inr, ℕ, ◌+◌, ◌*◌, ◌^◌, ◌<◌, List, [], ◌∷◌, ◌++◌, length, map, take, drop, Option, sym, ap, ◌∙◌, subst, arith, mul-add, mul-one, rules}
use Rattle.std.specs.Prelude.{IfOk}
use Rattle.std.specs.declared.result.Result.{Result}
use Rattle.std.proofs.lemmas.Grind.{common_steps}
use Rattle.std.proofs.lemmas.List.{length-append}
use Rattle.xet_base.specs.Search.Table.{Table, IsSorted, SearchIsBounded, Hit, Finds}
use Rattle.xet_base.specs.Source.{NoFailure, Source, ReadsBytes, Fails, after_seek, bytes_left}
use Rattle.std.proofs.lemmas.List.Elements.{AllZip-push, All-push}
use Rattle.std.proofs.lemmas.List.Sums.{sum_by-append}
use Rattle.xet_base.specs.declared.error.CoreError.{CoreError}
use Rattle.xet_base.specs.declared.merklehash.DataHash.{DataHash}
use Rattle.xet_shards.specs.Write.Tables.{hash_in}
use Rattle.std.specs.declared.io.Error.{Error}
use Rattle.xet_base.specs.Errors.{FromDevice}
use Rattle.xet_base.proofs.Reading.{ReadsBytes-consumes}
use Rattle.xet_base.proofs.Search.Steps.{serves_still, serves_moved, serves_advanced}
use Rattle.xet_records.specs.RecordKind.{RecordKind}
use Rattle.xet_records.specs.Reading.{ReadsBookend}
use Rattle.xet_records.proofs.RecordKinds.{KindLaws, length-record_bytes, stored_begins}
use Rattle.xet_shards.specs.Read.SectionReading.{MayRead}
use Rattle.xet_shards.specs.Steps.SectionReadingSteps.{ReadsNext, RecordFails}
use Rattle.xet_shards.specs.Lookup.Lookup.{IndexFinds, VisitsSome, LooksUp, LookupAnswer, LookupRefused, FindsRecord, FindRecordFails, row_at, RecordAt, IsBareInternalError, InfoRefusal, ReadsInfo, ReadInfoFails, Visit, Visits}
use Rattle.xet_shards.specs.Steps.LookupSteps.{NoneHasHash}

-- calls that did not fail, after others
pub serves_after : (old now new : Source) → NoFailure old now → NoFailure now new → NoFailure old new
serves_after old now new first last = search rules

-- what some readings gave, others give too
pub finds_weaker : {V E : Type 0} (t : Table) (key : ℕ) (Gives Others : List ℕ → V → Type 0) (old new : List V) (r : Result ℕ E) → ((bytes : List ℕ) (v : V) → Gives bytes v → Others bytes v)
    → IfOk r (Finds t key Gives old new) → IfOk r (Finds t key Others old new)
finds_weaker t key Gives Others old new r weaker = search rules

-- the row numbers that an index lookup put in front
pub rows_in_front : (t : Table) (key count : ℕ) (old new : List ℕ) (finds : IndexFinds t key old new count) → take count new ≡ map (λ (h : Hit ℕ). h.value) finds.found
rows_in_front t key count old new finds = grind (arith, common_steps)

module _ {H R : Type 0} (K : RecordKind H R) (laws : KindLaws K) where
  -- a stored record has the rows that its header announces, and the header
  pub length-stored : (r : R) → K.IsStored r → length (K.record_bytes r) ≡ 48 * (1 + K.rows_after (K.header_of r))
  length-stored r stored = length-record_bytes K laws r stored ∙ ap (λ n. 48 * n) (laws.rows r stored)

  -- the seek to a row failed
  pub info_no_seek : (offset row : ℕ) (old new : Source) (failure : Error) (e : CoreError) → row_at offset row < 2 ^ 64 → Fails old new 1 failure → FromDevice failure e
      → ReadInfoFails K offset row old new e
  info_no_seek offset row old new failure e fits fails is = search rules

  -- after a seek to a row
  module _ (offset row : ℕ) (old mid new : Source) (fits : row_at offset row < 2 ^ 64) (sought : mid ≡ after_seek old (row_at offset row)) where
    left_is : bytes_left mid ≡ drop (row_at offset row) old.bytes
    left_is = ap (λ (s : Source). bytes_left s) sought

    pub info_read : (left after : ℕ) (found : R) → ReadsNext K mid new left after found → ReadsInfo K offset row old new found
    info_read left after found next =
        let read = next.reads in
        let are : drop (row_at offset row) old.bytes ≡ K.record_bytes read.stored ++ bytes_left new = sym left_is ∙ ReadsBytes-consumes mid new (K.record_bytes read.stored) read.taken in
        record {
          within = fits;
          is_at = record { stored = read.stored; is_stored = read.is_stored; rows = read.rows; taken = (bytes_left new, are); returned = read.returned };
          no_failure = serves_advanced old mid new (length (K.record_bytes read.stored)) (serves_moved old old mid (row_at offset row) (serves_still old) sought) read.taken.after;
          seeks = ap (λ (s : Source). s.seeks) read.taken.after ∙ ap (λ (s : Source). s.seeks) sought;
          taken = length (K.record_bytes read.stored);
          read = ap (λ (s : Source). s.read) read.taken.after ∙ ap (λ (s : Source). s.read + length (K.record_bytes read.stored)) sought;
          may_take = inr (
            K.header_of read.stored,
            K.bytes_after read.stored ++ bytes_left new,
            stored_begins K laws (drop (row_at offset row) old.bytes) read.stored (bytes_left new) read.is_stored are,
            omega (arith, length-stored read.stored read.is_stored),
          );
        }

    pub info_bookend : (e : CoreError) → IsBareInternalError e → ReadsBookend K (ReadsBytes mid new) → ReadInfoFails K offset row old new e
    info_bookend e bare read = record {
      bytes = ap (λ (s : Source). s.bytes) read.taken.after ∙ ap (λ (s : Source). s.bytes) sought;
      seeks = omega (arith, ap (λ (s : Source). s.seeks) read.taken.after, ap (λ (s : Source). s.seeks) sought);
      no_fewer = omega (arith, ap (λ (s : Source). s.seeks) read.taken.after, ap (λ (s : Source). s.seeks) sought);
      taken = 48;
      read = omega (arith, ap (λ (s : Source). s.read) read.taken.after, ap (λ (s : Source). s.read) sought, laws.header_size read.header);
      may_take = inl (omega arith);
      cause = inr (
        fits,
        inl (
          ap (λ (s : Source). s.failures) read.taken.after ∙ ap (λ (s : Source). s.failures) sought,
          bare,
          record {
            header = read.header;
            rest = bytes_left new;
            widths = read.widths;
            is_bookend = read.is_bookend;
            bytes_are = sym left_is ∙ ReadsBytes-consumes mid new (K.header_bytes read.header) read.taken;
          },
        ),
      );
    }

    pub info_fails : (e : CoreError) → RecordFails K 4294967296 mid new e → ReadInfoFails K offset row old new e
    info_fails e fails = search rules

  -- one row more
  pub visits_more : (most offset row : ℕ) (rows : List ℕ) (old now new : Source) → Visits K most offset rows old now → Visit K most offset row now new
      → Visits K most offset (rows ++ row ∷ []) old new
  visits_more most offset row rows old now new before visit = record {
    bytes = visit.bytes ∙ before.bytes;
    seeks = omega (arith, visit.seeks, before.seeks, ap (λ n. most * n) (length-append rows (row ∷ [])), mul-add most (length rows) 1, mul-one most);
    no_fewer = omega (arith, visit.no_fewer, before.no_fewer);
    taken = before.taken ++ visit.taken ∷ [];
    may_take = AllZip-push (λ r k. MayRead K (drop (row_at offset r) old.bytes) k) rows before.taken row visit.taken before.may_take
        (subst (λ bs. MayRead K (drop (row_at offset row) bs) visit.taken) before.bytes visit.may_take);
    read = omega (arith, visit.read, before.read, sum_by-append (λ k. k) before.taken (visit.taken ∷ []));
  }

  pub visits_read : (offset row : ℕ) (rows : List ℕ) (old now new : Source) (found : R) → Visits K 1 offset rows old now → ReadsInfo K offset row now new found
      → Visits K 1 offset (rows ++ row ∷ []) old new
  visits_read offset row rows old now new found before read = search (rules, visits_more)

  pub visits_read_not : (offset row : ℕ) (rows : List ℕ) (old now new : Source) (e : CoreError) → Visits K 1 offset rows old now → ReadInfoFails K offset row now new e
      → Visits K 1 offset (rows ++ row ∷ []) old new
  visits_read_not offset row rows old now new e before read = search (rules, visits_more)

  -- one record more
  pub missed_more : (offset row : ℕ) (hash : DataHash) (rows : List ℕ) (old now new : Source) (found : R) → NoneHasHash K offset hash rows old now
      → ReadsInfo K offset row now new found → hash_in K found ≢ hash → NoneHasHash K offset hash (rows ++ row ∷ []) old new
  missed_more offset row hash rows old now new found before read other = record {
    visits = visits_read offset row rows old now new found before.visits read;
    no_failure = serves_after old now new before.no_failure read.no_failure;
    others = All-push (λ r. (info : R) × RecordAt K old.bytes (row_at offset r) info × (hash_in K info ≢ hash)) rows row before.others
        (found, subst (λ bytes. RecordAt K bytes (row_at offset row) found) before.visits.bytes read.is_at, other);
  }

  -- a refusal after reads that did not fail is one over all
  pub refusal_after : (offset row : ℕ) (old now new : Source) (e : CoreError) → now.bytes ≡ old.bytes → now.failures ≡ old.failures → InfoRefusal K offset row now new e
      → InfoRefusal K offset row old new e
  refusal_after offset row old now new e bytes same refusal = search rules

  -- the search answered, and the records at its rows were read
  module _ (t : Table) (offset count : ℕ) (hash : DataHash) (old mid new : Source) (dest_old dest_new : List ℕ)
      (finds : IndexFinds t hash.word0 dest_old dest_new count) (no_failure : NoFailure old mid) (bounded : IsSorted t → SearchIsBounded t hash.word0 old mid)
      (visits : VisitsSome K 1 offset (take count dest_new) mid new) where
    looked_up : (Answer : List ℕ → Type 0) → Answer (take count dest_new) → LooksUp K t offset hash.word0 old new Answer
    looked_up Answer answer = grind (arith, common_steps)

    pub record_found : (answer : Option R) → LookupAnswer K mid.bytes offset hash answer (take count dest_new) → FindsRecord K t offset hash old new answer
    record_found answer read = grind (arith, common_steps)

    pub record_not_found : (e : CoreError) → LookupRefused K offset mid new e (take count dest_new) → FindRecordFails K t offset hash old new e
    record_not_found e (row, contains, refusal) =
        inr (looked_up (LookupRefused K offset old new e) (row, contains, refusal_after offset row old mid new e no_failure.bytes no_failure.failures refusal))
