-- What is found in parts of a shard is what a lookup in all its bytes may find, by one that makes no seek.
use Rattle.std.proofs.Common.{◌≡◌, ◌≢◌, inl, inr, refl, ◌≤◌, ℕ, zero, suc, min, List, [], ◌∷◌, length, map, take, drop, Ok, Option, None, Some, sym, ap, ◌∙◌, subst, arith}
use Rattle.std.specs.List.{AllZip}
use Rattle.std.proofs.Math.Nat.{eq-zero-or-pos}
use Rattle.std.proofs.lemmas.List.{length-append, length-map, length-take}
use Rattle.std.proofs.lemmas.List.Elements.{All-weaker}
use Rattle.xet_base.proofs.Lists.{front_is}
use Rattle.xet_core_structures.specs.declared.error.CoreError.{CoreError}
use Rattle.xet_core_structures.specs.declared.merklehash.DataHash.{DataHash}
use Rattle.xet_core_structures.specs.declared.shard_format.MDBShardInfo.{MDBShardInfo}
use Rattle.xet_core_structures.specs.declared.shard_format.MDBShardFileFooter.{MDBShardFileFooter}
use Rattle.xet_core_structures.specs.ChunkQuery.{Run}
use Rattle.xet_core_structures.specs.Ends.{HasHeaderAndFooter}
use Rattle.xet_core_structures.specs.Lookup.{FindRecordFails, IndexFinds, IsRowAndIndex, LookupAnswer, LooksUpRecord, Visits, row_at}
use Rattle.xet_core_structures.specs.RunReading.{AnswerAt, QueryAnswer, TriedAnswer, keyed_word, query_at}
use Rattle.xet_core_structures.specs.Source.{Source, NoFailure}
use Rattle.xet_core_structures.specs.Table.{Table, table_at, FitsTable, Finds, Hit}
use Rattle.xet_records.specs.RecordKind.{RecordKind}
use Rattle.xet_shards.specs.Read.SectionReading.{MayRead}
use Rattle.xet_shards.specs.Write.Tables.{hash_in}
use Rattle.xet_shards.proofs.Lookup.Lookups.{rows_in_front}
use Rattle.xet_core_structures.specs.XorbRecord.{xorb_records}
use Rattle.shard_bytes.specs.PartLookups.{FindsRowsIn, RefusesTableRows}
use Rattle.shard_bytes.specs.Query.{AnswersQueryAt}
use Rattle.shard_bytes.specs.RangeReads.{AnswersAtPlaces, AnswersAtRows, HasRowsWith, QueriesInParts, chunk_table_in}
use Rattle.shard_bytes.specs.Walking.{IsAtRow, WithEnds}
use Rattle.shard_bytes.proofs.CutOut.{collides_of, places_of, rows_of, same_hits, sorted_part}
use Rattle.shard_bytes.proofs.Reading.{source_of}
use Rattle.shard_bytes.proofs.Walks.{said_of}

no_rows : {X Y : Type 0} (P : X → Y → Type 0) (xs : List X) → AllZip P (take 0 xs) []
no_rows P [] = tt
no_rows P (x ∷ xs) = tt

-- no call went to any of these rows
no_visits : {H R : Type 0} (K : RecordKind H R) (most offset : ℕ) (rows : List ℕ) (s : Source) → Visits K most offset (take 0 rows) s s
no_visits K most offset rows s = record {
  bytes = refl;
  seeks = omega arith;
  no_fewer = omega arith;
  taken = [];
  may_take = no_rows (λ row n. MayRead K (drop (row_at offset row) s.bytes) n) rows;
  read = omega arith;
}

NoFailure-refl : (s : Source) → NoFailure s s
NoFailure-refl s = record { bytes = refl; failures = refl; last_failure = refl }

-- a record is looked up by the rows that are found in a part of a table
module _ {H R : Type 0} (K : RecordKind H R) (shard table : List ℕ) (offset start count : ℕ) (hash : DataHash)
    (cut : HasRowsWith (table_at (source_of shard) start count 4) table hash.word0) (fits : FitsTable (table_at (source_of shard) start count 4)) where
  abbrev t : Table
  t = table_at (source_of shard) start count 4

  abbrev src : Source
  src = source_of shard

  pub looked_up : (n : ℕ) (old new : List ℕ) (answer : Option R) → FindsRowsIn table hash.word0 old new n → LookupAnswer K shard offset hash answer (take n new) → LooksUpRecord K t offset hash src src (Ok answer)
  looked_up n old new answer finds is =
      let f : IndexFinds t hash.word0 old new n = rows_of t table hash.word0 cut fits n old new finds.finds in
      record {
        read = record {
          fits = fits;
          found = f.found;
          few = omega (arith, f.few, f.number);
          are_hits = f.are_hits;
          searched = src;
          no_failure = NoFailure-refl src;
          bounded = λ sorted. record { made = 0; seeks = omega arith; few = omega arith; read = omega arith };
          visits = (0, no_visits K 1 offset (map (λ (h : Hit ℕ). h.value) f.found) src);
          answer = subst (LookupAnswer K shard offset hash answer) (rows_in_front t hash.word0 n old new f) is;
        };
        no_failure = NoFailure-refl src;
        kept = refl;
      }

  -- a collision among the rows is one in the table
  pub collides_in_table : (e : CoreError) → RefusesTableRows table hash.word0 e → FindRecordFails K t offset hash src src e
  collides_in_table e (inl (is, not_whole)) = absurd (not_whole cut.is_part.whole)
  collides_in_table e (inr (is, collides)) =
      inl (inl (refl, is, collides_of t table hash.word0 cut fits collides), λ sorted. record { made = 0; seeks = omega arith; few = omega arith; read = omega arith })

-- records at rows are those that the header and the footer lead to
module _ {H R : Type 0} (shard : List ℕ) (info : MDBShardInfo) (ends : HasHeaderAndFooter shard info) (K : MDBShardInfo → RecordKind H R) (offset : MDBShardInfo → ℕ) where
  abbrev At : ℕ → Option R → Type 0
  At row found = WithEnds shard (λ i. IsAtRow (K i) shard (offset i) row found)

  here : (row : ℕ) (found : R) → At row (Some found) → IsAtRow (K info) shard (offset info) row (Some found)
  here row found at = said_of shard info ends (λ i. IsAtRow (K i) shard (offset i) row (Some found)) at

  pub answer_of : (hash : DataHash) (rows : List ℕ) (answer : Option R) → AnswersAtRows At (hash_in (K info)) hash rows answer → LookupAnswer (K info) shard (offset info) hash answer rows
  answer_of hash rows (Some found) (same, row, among, at) = (same, row, among, here row found at)
  answer_of hash rows None others =
      All-weaker (λ row. (found : R) × At row (Some found) × (hash_in (K info) found ≢ hash)) (λ row. (found : R) × IsAtRow (K info) shard (offset info) row (Some found) × (hash_in (K info) found ≢ hash))
      (λ row is. (is.0, here row is.0 is.1, is.2)) rows others

-- what was put in front is no more than there is room for
found_fit : {V : Type 0} (t : Table) (word : ℕ) (Gives : List ℕ → V → Type 0) (old new : List V) (n : ℕ) → Finds t word Gives old new n → n ≤ length new
found_fit t word Gives old new n finds =
    let values = map (λ (h : Hit _). h.value) finds.found in
    omega (arith, ap length finds.written, length-append values (drop n old), length-map finds.found (λ (h : Hit _). h.value), finds.number)

-- a run is looked for at the places that are found in a part of the chunk table
module _ (shard : List ℕ) (info : MDBShardInfo) (ends : HasHeaderAndFooter shard info) (q : DataHash) (qs : List DataHash) (answer : Option Run)
    (parts : QueriesInParts info.metadata shard q qs answer) (fits : FitsTable (chunk_table_in info.metadata shard)) where
  abbrev footer : MDBShardFileFooter
  footer = info.metadata

  abbrev chunks : Table
  chunks = chunk_table_in footer shard

  abbrev all : Source
  all = source_of shard

  abbrev word : ℕ
  word = keyed_word footer q

  finds : Finds chunks word IsRowAndIndex parts.old parts.places parts.count
  finds = places_of chunks parts.table word parts.has_rows IsRowAndIndex parts.count parts.old parts.places parts.found.found

  in_front : take parts.count parts.places ≡ map (λ (h : Hit (ℕ × ℕ)). h.value) finds.found
  in_front =
      front_is parts.count parts.places (map (λ (h : Hit (ℕ × ℕ)). h.value) finds.found) (drop parts.count parts.old)
      (length-map finds.found (λ (h : Hit (ℕ × ℕ)). h.value) ∙ finds.number) finds.written

  abbrev RunAt : ℕ × ℕ → Option Run → Type 0
  RunAt place run = AnswersQueryAt shard (q ∷ qs) place.0 place.1 run

  run_here : (place : ℕ × ℕ) (run : Option Run) → RunAt place run → AnswerAt (query_at footer (q ∷ qs) place) shard run
  run_here place run at = said_of shard info ends (λ i. AnswerAt (query_at i.metadata (q ∷ qs) place) shard run) at

  tries_places : (places : List (ℕ × ℕ)) (run : Option Run) → AnswersAtPlaces RunAt places run → TriedAnswer footer (q ∷ qs) shard run places
  tries_places places (Some run) (place, among, at) = (place, among, run_here place (Some run) at)
  tries_places places None others = All-weaker (λ place. RunAt place None) (λ place. AnswerAt (query_at footer (q ∷ qs) place) shard None) (λ place at. run_here place None at) places others

  -- a table without rows has none
  none_found : chunks.rows ≡ 0 → (n : ℕ) → parts.count ≡ n → n ≡ 0
  none_found none zero is = refl
  none_found none (suc n) is =
      let first : Hit (ℕ × ℕ) = record { row = 0; value = (0, 0) } in
      absurd (omega (arith, none, (finds.each 0 first (omega (arith, finds.number, is))).within))

  nothing : (run : Option Run) → length (take parts.count parts.places) ≡ 0 → AnswersAtPlaces RunAt (take parts.count parts.places) run → run ≡ None
  nothing None empty others = refl
  nothing (Some run) empty (place, among, at) = absurd (omega (arith, empty, among.1))

  pub query_answers : QueryAnswer footer (q ∷ qs) all all answer
  query_answers = elim (eq-zero-or-pos chunks.rows) [
    | inl none ↦ inl (none, nothing answer (omega (arith, length-take parts.count parts.places, none_found none parts.count refl)) parts.answers, refl)
    | inr some ↦ inr (
      λ none. absurd (omega (arith, none, some)),
      record {
        fits = fits;
        found = finds.found;
        few = omega (arith, finds.number, found_fit chunks word IsRowAndIndex parts.old parts.places parts.count finds, parts.room);
        each = finds.each;
        distinct = finds.distinct;
        all = λ sorted. finds.number ∙ parts.found.all (sorted_part chunks parts.table parts.has_rows.before parts.has_rows.is_part sorted)
            ∙ ap (λ k. min k 8) (sym (same_hits chunks parts.table word parts.has_rows));
        searched = all;
        no_failure = NoFailure-refl all;
        bounded = λ sorted. record { made = 0; seeks = omega arith; few = omega arith; read = omega arith };
        visits = (0, no_visits xorb_records 2 footer.xorb_info_offset (map (λ (h : Hit (ℕ × ℕ)). h.value.0) finds.found) all);
        answer = subst (TriedAnswer footer (q ∷ qs) shard answer) in_front (tries_places (take parts.count parts.places) answer parts.answers);
      },
    )
  ]
