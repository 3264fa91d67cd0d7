-- Lookups in a source that holds a section of records and a table of their starts.
use Rattle.std.proofs.Common.{◌≡◌, ◌≢◌, ◌⊎◌, inl, inr, ◌==◌, if◌then◌else◌, ℕ, zero, suc, ◌-◌, ◌^◌, ◌<◌, ◌≤◌, List, [], ◌∷◌, ◌++◌, length, take, drop, map, flat_map, get_or, Ok, Err, Option, None, Some, refl, sym, ap, ◌∙◌, subst, append_assoc, append-nil, arith, rules}
use Rattle.std.specs.Prelude.{All, AllPairs, sum_by, sum, Contains, filter, MatchResult, IfErr}
use Rattle.std.specs.declared.result.Result.{Result}
use Rattle.std.specs.List.{AllZip}
use Rattle.std.proofs.lemmas.List.{take_all, length-append, length-map, length-take, get_or-map, get_or_default}
use Rattle.std.proofs.lemmas.List.Elements.{All-map, All-contains, All-drop, All-weaker, Contains-get_or}
use Rattle.std.proofs.lemmas.List.Sums.{sum_by-cons}
use Rattle.std.proofs.lemmas.Bool.{eq-eqb, cond-true}
use Rattle.xet_base.specs.declared.error.CoreError.{CoreError}
use Rattle.xet_base.specs.declared.error.CoreError.TheVariants.{OutOfMemory, TruncatedHashCollision}
use Rattle.xet_base.specs.declared.merklehash.DataHash.{DataHash}
use Rattle.xet_base.specs.Bytes.{u32_bytes}
use Rattle.xet_base.specs.Source.{Source, DeviceFailure}
use Rattle.xet_base.specs.Search.Table.{table_at, Table, IsSorted, hits, Hit, IsHit, OtherRow, SearchRefused, SearchIsBounded}
use Rattle.xet_base.proofs.Bytes.{length-u32_bytes, u32_bytes-injective}
use Rattle.xet_records.specs.RecordKind.{RecordKind}
use Rattle.xet_records.proofs.RecordKinds.{KindLaws}
use Rattle.xet_shards.specs.Write.Section.{total_rows, with_fronts, StartsAt}
use Rattle.xet_shards.specs.Write.Tables.{hash_in, start_of, starts, start_row}
use Rattle.xet_shards.specs.Read.SectionReading.{MayRead}
use Rattle.xet_shards.specs.Lookup.Lookup.{with_first_word, IsRowNumber, row_at, RecordAt, InfoRefusal, LooksUp, LooksUpIndex, LooksUpRecord, LookupAnswer, LookupRefused, FindsRecord, FindRecordFails, WithinBounds, SearchWithinBounds, IndexFinds, IndexRefused, AreStarts, StartsAmong, IndexFailsAmong, LookupFailsAmong}
use Rattle.xet_shards.proofs.Write.Tables.{length-starts}
use Rattle.xet_shards.proofs.Lookup.Distinct.{sum_distinct, sum_marked}
use Rattle.xet_shards.proofs.Lookup.KnownRows.{IsKnown, rows_sorted, rows_hit, search_served, row_hit, hits_few, hits_all}
use Rattle.xet_shards.proofs.Lookup.Lookups.{rows_in_front}
use Rattle.xet_shards.proofs.Lookup.StoredRecords.{AreStoredAt, starts_at_index, end_bound, record_is, record_is_read, record_is_enough}

-- the i-th row of a table of starts
starts_at : {H R : Type 0} (K : RecordKind H R) (front records : List R) (i : ℕ) (d : R) (e : ℕ × ℕ) → i < length records
    → get_or (map (start_of K) (with_fronts front records)) i e ≡ ((hash_in K (get_or records i d)).word0, total_rows K (front ++ take i records))
starts_at K front [] i d e within = absurd (omega (arith, within))
starts_at K front (r ∷ records) zero d e within = ap (λ rs. ((hash_in K r).word0, total_rows K rs)) (sym (append-nil front))
starts_at K front (r ∷ records) (suc i) d e within =
    starts_at K (front ++ r ∷ []) records i d e (omega (arith, within))
    ∙ ap (λ rs. ((hash_in K (get_or records i d)).word0, total_rows K rs)) (append_assoc front (r ∷ []) (take i records))

-- what was read at some of the rows is no more than what may be read at all of them
sum-taken : (ReadsBytes : ℕ → ℕ → Type 0) (cost : Hit ℕ → ℕ) (found : List (Hit ℕ)) (n : ℕ) (taken : List ℕ) → All (λ h. (k : ℕ) → ReadsBytes h.value k → k ≤ cost h) found
    → AllZip ReadsBytes (take n (map (λ h. h.value) found)) taken → sum taken ≤ sum_by cost found
sum-taken ReadsBytes cost [] zero [] most zip = omega arith
sum-taken ReadsBytes cost [] (suc n) [] most zip = omega arith
sum-taken ReadsBytes cost [] zero (k ∷ taken) most zip = absurd zip
sum-taken ReadsBytes cost [] (suc n) (k ∷ taken) most zip = absurd zip
sum-taken ReadsBytes cost (h ∷ found) zero [] most zip = omega arith
sum-taken ReadsBytes cost (h ∷ found) zero (k ∷ taken) most zip = absurd zip
sum-taken ReadsBytes cost (h ∷ found) (suc n) [] most zip = absurd zip
sum-taken ReadsBytes cost (h ∷ found) (suc n) (k ∷ taken) most zip =
    omega (
      arith,
      most 0 h (omega arith) k zip.0,
      sum_by-cons (λ (j : ℕ). j) k taken,
      sum_by-cons cost h found,
      sum-taken ReadsBytes cost found n taken (All-drop (λ (g : Hit ℕ). (j : ℕ) → ReadsBytes g.value j → j ≤ cost g) 1 (h ∷ found) most) zip.1,
    )

sum-lengths : {X : Type 0} (f : X → List ℕ) (xs : List X) → sum_by (λ x. length (f x)) xs ≡ length (flat_map f xs)
sum-lengths f [] = refl
sum-lengths f (x ∷ xs) = sum_by-cons (λ y. length (f y)) x xs ∙ omega (arith, sum-lengths f xs, length-append (f x) (flat_map f xs))

-- rows of the table with a word are as many as records that share it
length-with_first_word : {H R : Type 0} (K : RecordKind H R) (word : ℕ) (front records : List R)
    → length (filter (λ (row : ℕ × ℕ). row.0 == word) (map (start_of K) (with_fronts front records))) ≡ length (with_first_word K word records)
length-with_first_word K word front [] = refl
length-with_first_word K word front (r ∷ records) =
    search (rules, (length-with_first_word K word (front ++ r ∷ []) records))

-- stored records, in ascending order of the first words of their hashes, with their section at an offset of a source, and
-- a table of their starts at another; `d` is a record for where a list has none
pub record IsLookedUp {H R : Type 0} (K : RecordKind H R) (d : R) (records : List R) (offset start count : ℕ) (old : Source) : Type 0 where
  pub section : AreStoredAt K records offset old.bytes
  pub few : length records ≤ total_rows K records
  pub words : All (λ r. (hash_in K r).word0 < 2 ^ 64) records
  pub ascend : (i j : ℕ) → i < j → j < length records → (hash_in K (get_or records i d)).word0 ≤ (hash_in K (get_or records j d)).word0
  pub count_is : count ≡ length records
  pub start_fits : start ≤ 2 ^ 48
  pub start_there : start ≤ length old.bytes
  pub after : List ℕ
  pub table_is : drop start old.bytes ≡ flat_map start_row (starts K records) ++ after

-- the answer to a lookup among records: one with the hash, as it is returned, or none where each has another
abbrev pub IsAnswer : {H R : Type 0} → RecordKind H R → R → List R → DataHash → Option R → Type 0
IsAnswer {R = R} K d records hash (Some found) = (i : ℕ) × (i < length records) × (found ≡ K.as_read (get_or records i d)) × (hash_in K found ≡ hash)
IsAnswer {R = R} K d records hash None = (i : ℕ) → i < length records → hash_in K (get_or records i d) ≢ hash

module _ {H R : Type 0} (K : RecordKind H R) (laws : KindLaws K) (d : R) (records : List R) (offset start count : ℕ) (old : Source) (is : IsLookedUp K d records offset start count old) where
  abbrev table : Table
  table = table_at old start count 4

  abbrev record_at : ℕ → R
  record_at i = get_or records i d

  abbrev start_at : ℕ → ℕ
  start_at i = total_rows K (take i records)

  pub rows_is : table.rows ≡ length records
  rows_is = is.count_is

  at_row : (i : ℕ) → i < length records → StartsAt K records (start_at i) (record_at i)
  at_row i within = starts_at_index K records i d within

  row_is : (i : ℕ) → i < length records → get_or (starts K records) i (0, 0) ≡ ((hash_in K (record_at i)).word0, start_at i)
  row_is i within = starts_at K [] records i d (0, 0) within

  abbrev word_of : ℕ × ℕ → ℕ
  word_of row = row.0

  abbrev start_bytes : ℕ × ℕ → List ℕ
  start_bytes row = u32_bytes row.1

  in_table : (i : ℕ) → i < length records → i < length (starts K records)
  in_table i within = omega (arith, within, length-starts K records)

  -- the rows of the table are known
  word_at : (i : ℕ) → i < length records → word_of (get_or (starts K records) i (0, 0)) ≡ (hash_in K (record_at i)).word0
  word_at i within = ap word_of (row_is i within)

  known_rows : IsKnown word_of start_bytes 4 (0, 0) (starts K records) start count old
  known_rows = record {
    sizes = λ row. length-u32_bytes row.1;
    width_fits = omega arith;
    few = omega (arith, length-starts K records, is.few, is.section.fits.rows);
    keys_fit = λ i e below.
        let within : i < length records = omega (arith, below, length-starts K records) in
        omega (arith, ap word_of (get_or_default (starts K records) i e (0, 0) below), word_at i within, is.words i d within);
    ascend = λ i j less below.
        let j_in : j < length records = omega (arith, below, length-starts K records) in
        let i_in : i < length records = omega (arith, less, j_in) in
        omega (arith, word_at i i_in, word_at j j_in, is.ascend i j less j_in);
    count_is = is.count_is ∙ sym (length-starts K records);
    start_fits = is.start_fits;
    start_there = is.start_there;
    after = is.after;
    table_is = is.table_is;
  }

  pub table_sorted : IsSorted table
  table_sorted = rows_sorted word_of start_bytes 4 (0, 0) (starts K records) start count old known_rows

  pub table_hits : (word : ℕ) → hits table word ≡ length (with_first_word K word records)
  table_hits word = rows_hit word_of start_bytes 4 (0, 0) (starts K records) start count old known_rows word ∙ length-with_first_word K word [] records

  -- a hit of the table: a record that shares the word, and its start
  hit_is : (word : ℕ) (h : Hit ℕ) → IsHit table word IsRowNumber h
      → (h.row < length records) × ((hash_in K (record_at h.row)).word0 ≡ word) × (h.value ≡ start_at h.row)
  hit_is word h hit =
      let row = row_hit word_of start_bytes 4 (0, 0) (starts K records) start count old known_rows IsRowNumber word h hit in
      let within : h.row < length records = omega (arith, row.0, length-starts K records) in (
        within,
        sym (word_at h.row within) ∙ row.1,
        u32_bytes-injective h.value (start_at h.row) row.2.0 (omega (arith, end_bound K laws records offset old is.section (start_at h.row) (record_at h.row) (at_row h.row within))) (sym row.2.1 ∙ ap start_bytes (row_is h.row within)),
      )

  module _ (word : ℕ) (found : List (Hit ℕ)) (each : All (IsHit table word IsRowNumber) found) (distinct : AllPairs OtherRow found) where
    rows_below : All (λ h. h.row < length records) found
    rows_below = All-weaker (IsHit table word IsRowNumber) (λ h. h.row < length records) (λ h hit. (hit_is word h hit).0) found each

    hits_share : length found ≤ length (with_first_word K word records)
    hits_share =
        omega (arith, hits_few word_of start_bytes 4 (0, 0) (starts K records) start count old known_rows IsRowNumber word found each distinct, length-with_first_word K word [] records)

    -- where they are all hits, each record that shares the word is at one of them
    all_share : length found ≡ hits table word → (i : ℕ) → i < length records → (hash_in K (record_at i)).word0 ≡ word
        → (k : ℕ) × (k < length found) × ((h : Hit ℕ) → (get_or found k h).row ≡ i)
    all_share all i within same =
        hits_all word_of start_bytes 4 (0, 0) (starts K records) start count old known_rows IsRowNumber word found each distinct all i (in_table i within) (word_at i within ∙ same)

    -- a record that is at the start of a hit is the one of that row
    hit_reads : (h : Hit ℕ) (r : R) → IsHit table word IsRowNumber h → RecordAt K old.bytes (row_at offset h.value) r → r ≡ K.as_read (record_at h.row)
    hit_reads h r hit is_at =
        let known = hit_is word h hit in
        record_is K laws records offset old is.section (start_at h.row) (record_at h.row) (at_row h.row known.0) r (subst (λ v. RecordAt K old.bytes (row_at offset v) r) known.2 is_at)

    pub found_is : (hash : DataHash) (r : R) (row : ℕ) → hash_in K r ≡ hash → Contains (map (λ h. h.value) found) row → RecordAt K old.bytes (row_at offset row) r
        → IsAnswer K d records hash (Some r)
    found_is hash r row same contains is_at =
        All-contains (λ v. RecordAt K old.bytes (row_at offset v) r → IsAnswer K d records hash (Some r)) (map (λ h. h.value) found) row
        (All-map (λ v. RecordAt K old.bytes (row_at offset v) r → IsAnswer K d records hash (Some r)) (λ (h : Hit ℕ). h.value) found
        (All-weaker (IsHit table word IsRowNumber) (λ h. RecordAt K old.bytes (row_at offset h.value) r → IsAnswer K d records hash (Some r))
        (λ h hit at. (h.row, (hit_is word h hit).0, hit_reads h r hit at, same)) found each))
        contains is_at

    pub found_none : (hash : DataHash) → hash.word0 ≡ word → length found ≡ hits table word → LookupAnswer K old.bytes offset hash None (map (λ h. h.value) found) → IsAnswer K d records hash None
    found_none hash same_word all others i within same =
        let at = all_share all i within (ap (λ (h : DataHash). h.word0) same ∙ same_word) in
        let no_hit : Hit ℕ = record { row = 0; value = 0 } in
        let h = get_or found at.0 no_hit in
        let other = subst (λ v. (r : R) × RecordAt K old.bytes (row_at offset v) r × (hash_in K r ≢ hash)) (get_or-map (λ (g : Hit ℕ). g.value) found at.0 no_hit 0 at.1)
        (others at.0 0 (omega (arith, at.1, length-map found (λ (g : Hit ℕ). g.value)))) in
        other.2 (ap (hash_in K) (hit_reads h other.0 (each at.0 no_hit at.1) other.1) ∙ ap K.hash_of (laws.same_header (record_at h.row)) ∙ ap (λ j. hash_in K (record_at j)) (at.2 no_hit) ∙ same)

    -- their values are starts of records that share the word, and where they are all hits, all of these
    starts_of_hits : length found ≡ hits table word → AreStarts K records word (map (λ h. h.value) found)
    starts_of_hits all = (in_starts, of_starts)
      where
        in_starts : (row : ℕ) → Contains (map (λ (h : Hit ℕ). h.value) found) row → Contains (starts K records) (word, row)
        in_starts row contains =
            All-contains (λ v. Contains (starts K records) (word, v)) (map (λ (h : Hit ℕ). h.value) found) row
            (All-map (λ v. Contains (starts K records) (word, v)) (λ (h : Hit ℕ). h.value) found
            (All-weaker (IsHit table word IsRowNumber) (λ h. Contains (starts K records) (word, h.value))
            (λ h hit. let known = hit_is word h hit in
            subst (λ e. Contains (starts K records) e) (row_is h.row known.0 ∙ (λ k. (known.1 k, sym known.2 k)))
            (Contains-get_or (starts K records) h.row (0, 0) (in_table h.row known.0))) found each))
            contains

        of_starts : (row : ℕ) → Contains (starts K records) (word, row) → Contains (map (λ (h : Hit ℕ). h.value) found) row
        of_starts row (i, below, is_row) =
            let within : i < length records = omega (arith, below, length-starts K records) in
            let same : ((hash_in K (record_at i)).word0, start_at i) ≡ (word, row) = sym (row_is i within) ∙ get_or_default (starts K records) i (0, 0) (word, row) below ∙ is_row in
            let at = all_share all i within (ap (λ (e : ℕ × ℕ). e.0) same) in
            let no_hit : Hit ℕ = record { row = 0; value = 0 } in
            let values = map (λ (h : Hit ℕ). h.value) found in
            let value : get_or values at.0 0 ≡ row =
            get_or-map (λ (g : Hit ℕ). g.value) found at.0 no_hit 0 at.1 ∙ (hit_is word (get_or found at.0 no_hit) (each at.0 no_hit at.1)).2
            ∙ ap start_at (at.2 no_hit) ∙ ap (λ (e : ℕ × ℕ). e.1) same in
            subst (Contains values) value (Contains-get_or values at.0 0 (omega (arith, at.1, length-map found (λ (g : Hit ℕ). g.value))))

    -- the record at one of the rows is read, unless the device fails or an allocation does
    hits_are_read : (new : Source) (e : CoreError) (row : ℕ) → Contains (map (λ h. h.value) found) row → InfoRefusal K offset row old new e
        → DeviceFailure old new e ⊎ (e ≡ OutOfMemory)
    hits_are_read new e row contains refusal =
        All-contains (λ v. InfoRefusal K offset v old new e → DeviceFailure old new e ⊎ (e ≡ OutOfMemory)) (map (λ h. h.value) found) row
        (All-map (λ v. InfoRefusal K offset v old new e → DeviceFailure old new e ⊎ (e ≡ OutOfMemory)) (λ (h : Hit ℕ). h.value) found
        (All-weaker (IsHit table word IsRowNumber) (λ h. InfoRefusal K offset h.value old new e → DeviceFailure old new e ⊎ (e ≡ OutOfMemory))
        (λ h hit refused. let known = hit_is word h hit in record_is_read K laws records offset old is.section (start_at h.row) (record_at h.row) (at_row h.row known.0) new e (subst (λ v. InfoRefusal K offset v old new e) known.2 refused)) found each))
        contains refusal

    -- the bytes of the records that were read are those of records that share the word
    records_share : (n : ℕ) (taken : List ℕ) → AllZip (λ row k. MayRead K (drop (row_at offset row) old.bytes) k) (take n (map (λ h. h.value) found)) taken
        → sum taken ≤ length (flat_map K.record_bytes (with_first_word K word records))
    records_share n taken zip =
        let weight : R → ℕ = λ r. length (K.record_bytes r) in
        let f : ℕ → ℕ = λ i. if (hash_in K (record_at i)).word0 == word then weight (record_at i) else 0 in
        let most : All (λ h. (k : ℕ) → MayRead K (drop (row_at offset h.value) old.bytes) k → k ≤ f h.row) found =
        All-weaker (IsHit table word IsRowNumber) (λ h. (k : ℕ) → MayRead K (drop (row_at offset h.value) old.bytes) k → k ≤ f h.row)
        (λ h hit k takes. let known = hit_is word h hit in omega (
          arith,
          cond-true {A = ℕ} _ (weight (record_at h.row)) 0 (eq-eqb _ _ known.1),
          record_is_enough K laws records offset old is.section (start_at h.row) (record_at h.row) (at_row h.row known.0) k (subst (λ v. MayRead K (drop (row_at offset v) old.bytes) k) known.2 takes),
        )) found each in
        omega (
          arith,
          sum-taken (λ row k. MayRead K (drop (row_at offset row) old.bytes) k) (λ h. f h.row) found n taken most zip,
          sum_distinct f (length records) found distinct rows_below,
          sum_marked (λ r. (hash_in K r).word0 == word) weight records d (length records) (omega arith),
          ap (λ rs. sum_by weight (with_first_word K word rs)) (take_all (length records) records (omega arith)),
          sum-lengths K.record_bytes (with_first_word K word records),
        )

  -- the search is refused only if the device fails
  search_answers : (new : Source) (e : CoreError) → SearchRefused table old new e → DeviceFailure old new e
  search_answers = search_served word_of start_bytes 4 (0, 0) (starts K records) start count old known_rows

  -- what the search costs, and what the lookup does
  search_costs : (word : ℕ) (new : Source) → SearchIsBounded table word old new → SearchWithinBounds K records word old new
  search_costs word new bounded = search (rules, rows_is, table_hits)

  -- a lookup reads at most the records of the records that share the first word
  lookup_costs : (word : ℕ) (new : Source) (Answer : List ℕ → Type 0) → LooksUp K table offset word old new Answer → WithinBounds K records word old new
  lookup_costs word new Answer looks =
      let bounded = looks.bounded table_sorted in
      let visits = looks.visits.1 in
      let n = looks.visits.0 in
      let rows = map (λ (h : Hit ℕ). h.value) looks.found in
      let shared = hits_share word looks.found looks.are_hits.each looks.are_hits.distinct in
      record {
        made = bounded.made;
        more = new.seeks - looks.searched.seeks;
        few = omega (arith, bounded.few, rows_is, table_hits word);
        few_more = omega (arith, visits.seeks, shared, length-take n rows, length-map looks.found (λ (h : Hit ℕ). h.value));
        seeks = omega (arith, visits.no_fewer, bounded.seeks);
        read = omega (
          arith,
          visits.read,
          bounded.read,
          table_hits word,
          records_share word looks.found looks.are_hits.each looks.are_hits.distinct n visits.taken
              (subst (λ bytes. AllZip (λ row k. MayRead K (drop (row_at offset row) bytes) k) (take n rows) visits.taken) looks.no_failure.bytes visits.may_take),
        );
      }

  -- a lookup that answers
  pub lookup_answers : (hash : DataHash) (new : Source) (answer : Option R) → FindsRecord K table offset hash old new answer
      → (length (with_first_word K hash.word0 records) < 8) × IsAnswer K d records hash answer
  lookup_answers hash new answer looks =
      let all = looks.are_hits.all table_sorted in
      (omega (arith, looks.few, all, table_hits hash.word0), answer_is answer looks.answer)
    where
      answer_is : (o : Option R) → LookupAnswer K old.bytes offset hash o (map (λ h. h.value) looks.found) → IsAnswer K d records hash o
      answer_is None others = found_none hash.word0 looks.found looks.are_hits.each looks.are_hits.distinct hash refl (looks.are_hits.all table_sorted) others
      answer_is (Some r) (same, row, contains, is_at) = found_is hash.word0 looks.found looks.are_hits.each looks.are_hits.distinct hash r row same contains is_at

  -- a lookup that is refused
  pub not_answered : (hash : DataHash) (new : Source) (e : CoreError) → FindRecordFails K table offset hash old new e
      → LookupFailsAmong K records hash old new e
  not_answered hash new e (inl (inl (none, collision, collides), bounded)) =
      inr (inr (collision, omega (arith, collides.eight, hits_share hash.word0 collides.found collides.each collides.distinct)))
  not_answered hash new e (inl (inr refused, bounded)) = inl (search_answers new e refused)
  not_answered hash new e (inr looks) =
      elim (hits_are_read hash.word0 looks.found looks.are_hits.each looks.are_hits.distinct new e looks.answer.0 looks.answer.1 looks.answer.2) [
        | inl failed ↦ inl failed
        | inr no_memory ↦ inr (inl (no_memory, omega (arith, one, all), omega (arith, looks.few, all)))
      ]
    where
      all : length looks.found ≡ length (with_first_word K hash.word0 records)
      all = looks.are_hits.all table_sorted ∙ table_hits hash.word0

      one : 0 < length looks.found
      one = omega (arith, looks.answer.1.1, length-map looks.found (λ (h : Hit ℕ). h.value))

  costs_refused : (hash : DataHash) (new : Source) (e : CoreError) → FindRecordFails K table offset hash old new e → WithinBounds K records hash.word0 old new
  costs_refused hash new e (inl (refused, bounded)) =
      let costs = search_costs hash.word0 new (bounded table_sorted) in
      record { made = costs.made; more = 0; few = costs.few; few_more = omega arith; seeks = omega (arith, costs.seeks); read = omega (arith, costs.read) }
  costs_refused hash new e (inr looks) = lookup_costs hash.word0 new (LookupRefused K offset old new e) looks

  -- a collision is answered after the search alone
  costs_collision : (hash : DataHash) (new : Source) (e : CoreError) → FindRecordFails K table offset hash old new e → e ≡ TruncatedHashCollision hash.word0
      → SearchWithinBounds K records hash.word0 old new
  costs_collision hash new e (inl (refused, bounded)) collision = search_costs hash.word0 new (bounded table_sorted)
  costs_collision hash new e (inr looks) collision = search rules

  -- an index lookup
  index_answered : (word count : ℕ) (dest_old dest_new : List ℕ) → IndexFinds table word dest_old dest_new count → StartsAmong K records word dest_new count
  index_answered word count dest_old dest_new finds =
      let all = finds.are_hits.all table_sorted in (
        omega (arith, finds.few, finds.number, all, table_hits word),
        omega (arith, finds.number, all, table_hits word),
        subst (AreStarts K records word) (sym (rows_in_front table word count dest_old dest_new finds))
            (starts_of_hits word finds.found finds.are_hits.each finds.are_hits.distinct all),
      )

  index_not_answered : (word : ℕ) (new : Source) (e : CoreError) → IndexRefused table word old new e → IndexFailsAmong K records word old new e
  index_not_answered word new e (inl (none, collision, collides)) = search (rules, hits_share)
  index_not_answered word new e (inr refused) = inl (search_answers new e refused)

  pub index_written : (new : Source) (word : ℕ) (dest_old dest_new : List ℕ) (r : Result ℕ CoreError) → LooksUpIndex table word dest_old dest_new old new r
      → MatchResult r (StartsAmong K records word dest_new) (IndexFailsAmong K records word old new)
  index_written new word dest_old dest_new (Ok count) looks = index_answered word count dest_old dest_new looks.found
  index_written new word dest_old dest_new (Err e) looks = index_not_answered word new e looks.refused

  pub index_bounded : (new : Source) (word : ℕ) (dest_old dest_new : List ℕ) (r : Result ℕ CoreError) → LooksUpIndex table word dest_old dest_new old new r
      → SearchWithinBounds K records word old new
  index_bounded new word dest_old dest_new r looks = search_costs word new (looks.bounds table_sorted)

  -- a lookup of a record
  pub lookup_bounded : (new : Source) (hash : DataHash) (r : Result (Option R) CoreError)
      → LooksUpRecord K table offset hash old new r → WithinBounds K records hash.word0 old new
  lookup_bounded new hash (Ok answer) looks = lookup_costs hash.word0 new (LookupAnswer K old.bytes offset hash answer) looks.read
  lookup_bounded new hash (Err e) looks = costs_refused hash new e looks.read

  pub collision_bounded : (new : Source) (hash : DataHash) (r : Result (Option R) CoreError)
      → LooksUpRecord K table offset hash old new r
      → IfErr r (λ e. e ≡ TruncatedHashCollision hash.word0 → SearchWithinBounds K records hash.word0 old new)
  collision_bounded new hash (Ok answer) looks = tt
  collision_bounded new hash (Err e) looks = costs_collision hash new e looks.read
