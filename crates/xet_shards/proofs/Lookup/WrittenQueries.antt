-- Queries by the chunk table in written bytes.
use Rattle.std.proofs.Common.{◌≡◌, ◌⊎◌, inl, inr, ◌==◌, ◌&&◌, Ok, Err, Bool, true, false, not, cond, true≢false, ℕ, suc, ◌+◌, ◌<◌, ◌≤◌, List, [], ◌∷◌, length, take, drop, map, flat_map, get_or, min, Option, None, Some, refl, sym, ap, ◌∙◌, subst, drop-cons, arith}
use Rattle.std.specs.Prelude.{All, AllPairs, Contains, MatchResult, option_map, sum}
use Rattle.std.specs.List.{AllZip}
use Rattle.std.proofs.lemmas.Bool.{cases_lt, eq-eqb, ne_eqb, cond-true, cond-false}
use Rattle.std.proofs.lemmas.Option.{none-some, same_Some, slice_get-get_or}
use Rattle.std.proofs.lemmas.List.{get_or-map, get_or_default, length-append, length-map, length-take}
use Rattle.std.proofs.lemmas.List.Elements.{All-cons, All-contains, All-drop, All-map, All-nil, All-take, All-weaker, Contains-get_or}
use Rattle.std.proofs.lemmas.List.Sums.{sum_by-cons}
use Rattle.xet_base.specs.declared.error.CoreError.{CoreError}
use Rattle.xet_base.specs.Errors.{CoreResult, IsBareInvalidShard}
use Rattle.xet_base.specs.declared.merklehash.DataHash.{DataHash}
use Rattle.xet_base.specs.Hash.{hash_eq}
use Rattle.xet_base.specs.KeyedHash.{under_key}
use Rattle.xet_base.specs.Source.{Source, DeviceFailure}
use Rattle.xet_base.specs.Search.Table.{Table, Hit, IsHit, OtherRow, hits}
use Rattle.xet_base.proofs.HashOrder.{same_hash}
use Rattle.xet_records.specs.declared.file_structs.MDBFileInfo.{MDBFileInfo}
use Rattle.xet_records.specs.declared.xorb_structs.MDBXorbInfo.{MDBXorbInfo}
use Rattle.xet_records.specs.declared.xorb_structs.XorbChunkSequenceEntry.{XorbChunkSequenceEntry}
use Rattle.xet_records.specs.XorbRecord.{xorb_records, xorb_record_bytes, IsXorb}
use Rattle.xet_records.proofs.RecordKinds.{xorb_laws}
use Rattle.xet_shards.specs.declared.shard_format.ends.footer.MDBShardFileFooter.{MDBShardFileFooter}
use Rattle.xet_shards.specs.ShardInMemory.ChunkLookup.{ChunkLocation, chunk_hash_at}
use Rattle.xet_shards.specs.ShardInMemory.ChunkQuery.{Run, run_length, run_at, some_run_at}
use Rattle.xet_shards.specs.Write.Section.{total_rows, StartsAt}
use Rattle.xet_shards.specs.Read.SectionReading.{MayRead}
use Rattle.xet_shards.specs.Write.Tables.{ChunkTableRow, chunk_table_rows, chunk_table}
use Rattle.xet_shards.specs.Write.Layout.{LayoutOptions}
use Rattle.xet_shards.specs.Write.WithOptions.{IsBytesWithOptions}
use Rattle.xet_shards.specs.Lookup.Lookup.{row_at, chunk_lookup_table, IsRowAndIndex}
use Rattle.xet_shards.specs.Lookup.RunReading.{query_at, AnswerAt, RefusedAt, Queries, TriedAnswer, TriedRefused, QueryAnswer, QueryRefused, QueryOutcome}
use Rattle.xet_shards.specs.Lookup.WrittenChunks.{ChunkSearchCosts}
use Rattle.xet_shards.specs.Lookup.WrittenQueries.{HasChunkAt, all_chunks, is_other, others_with_first_word, RunAmong, TriesCost, QueryCosts}
use Rattle.xet_shards.proofs.Lookup.ChunkLocations.{IsLocated, is_located, has_row}
use Rattle.xet_shards.proofs.ShardInMemory.ChunkLookups.{chunk_within}
use Rattle.xet_shards.proofs.Write.ChunkTableRows.{chunk_table_row, no_chunk}
use Rattle.xet_shards.proofs.Lookup.ChunkTables.{no_table_row, word_of, numbers_of, rows_differ, rows_known, hit_row, table_sorted, chunk_search_costs}
use Rattle.xet_shards.proofs.Lookup.Distinct.{few_marked}
use Rattle.xet_shards.proofs.Write.WithOptions.{xorbs_stored}
use Rattle.xet_shards.proofs.Lookup.KnownRows.{search_served, hits_all}
use Rattle.xet_shards.proofs.Lookup.StoredRecords.{starts_at_index, in_records, record_is_enough}
use Rattle.xet_shards.proofs.Write.TableOrder.{in_table_rows, in_table}
use Rattle.xet_shards.proofs.Lookup.WrittenRuns.{run_there, no_run_there}
use Rattle.xet_shards.proofs.Write.XorbLayouts.{table_rows_after, total_chunks, length-chunk_table_rows}

-- the run at an index that is in a xorb has a chunk if and only if the first hash is that of the chunk there
module _ (key q : DataHash) (qs : List DataHash) (x : MDBXorbInfo) (index : ℕ) (within : index < length x.chunks) where
  abbrev here : XorbChunkSequenceEntry
  here = get_or x.chunks index no_chunk

  abbrev n : ℕ
  n = run_length key (q ∷ qs) (drop index x.chunks)

  abbrev is_same : Bool
  is_same = hash_eq (under_key key q) here.chunk_hash

  n_is : n ≡ cond is_same (1 + run_length key qs (drop (suc index) x.chunks)) 0
  n_is = ap (run_length key (q ∷ qs)) (drop-cons x.chunks index no_chunk within)

  if_same : is_same ≡ true → some_run_at key (x, index) (q ∷ qs) ≡ Some (run_at key (x, index) (q ∷ qs))
  if_same same =
      cond-false {A = Option Run} (n == 0) None (Some (run_at key (x, index) (q ∷ qs)))
      (ne_eqb n 0 (λ none. absurd (omega (arith, none, n_is ∙ ap (λ b. cond b (1 + run_length key qs (drop (suc index) x.chunks)) 0) same))))

  if_other : is_same ≡ false → some_run_at key (x, index) (q ∷ qs) ≡ None
  if_other other =
      cond-true {A = Option Run} (n == 0) None (Some (run_at key (x, index) (q ∷ qs)))
      (eq-eqb n 0 (n_is ∙ ap (λ b. cond b (1 + run_length key qs (drop (suc index) x.chunks)) 0) other))

  none_is_other : None ≡ some_run_at key (x, index) (q ∷ qs) → is_same ≡ false
  none_is_other none = go is_same refl
    where
      go : (b : Bool) → is_same ≡ b → b ≡ false
      go true same = absurd (none-some (run_at key (x, index) (q ∷ qs)) (none ∙ if_same same))
      go false other = refl

  some_is_same : (run : Run) → Some run ≡ some_run_at key (x, index) (q ∷ qs) → (is_same ≡ true) × (run ≡ run_at key (x, index) (q ∷ qs))
  some_is_same run some = go is_same refl
    where
      go : (b : Bool) → is_same ≡ b → (b ≡ true) × (run ≡ run_at key (x, index) (q ∷ qs))
      go true same = (refl, same_Some run (run_at key (x, index) (q ∷ qs)) (some ∙ if_same same))
      go false other = absurd (none-some run (sym (if_other other) ∙ sym some))

  chunk_here : chunk_hash_at (x, index) ≡ Some here.chunk_hash
  chunk_here = ap (option_map (λ (c : XorbChunkSequenceEntry). c.chunk_hash)) (slice_get-get_or x.chunks index no_chunk within)

length-all_chunks : (xorbs : List MDBXorbInfo) → length (all_chunks xorbs) ≡ total_chunks xorbs
length-all_chunks [] = refl
length-all_chunks (x ∷ xorbs) =
    length-append x.chunks (all_chunks xorbs) ∙ omega (arith, length-all_chunks xorbs, sum_by-cons (λ (r : MDBXorbInfo). length r.chunks) x xorbs)

module _ {files : List MDBFileInfo} {xorbs : List MDBXorbInfo} {options : LayoutOptions} (old : Source) {footer : MDBShardFileFooter} (is : IsBytesWithOptions files xorbs options old.bytes footer)
    (with_table : options.chunk_table ≡ true) where
  abbrev rows : List ChunkTableRow
  rows = chunk_table xorbs

  abbrev t : Table
  t = chunk_lookup_table footer old

  abbrev key : DataHash
  key = footer.chunk_hash_hmac_key

  abbrev row_of : ℕ → ChunkTableRow
  row_of i = get_or rows i no_table_row

  -- the chunk, among all, that a row of the chunk table is of
  abbrev chunk_if : (i : ℕ) → (i < length rows) ⊎ (length rows ≤ i) → ℕ
  chunk_if i (inl within) = (in_table_rows xorbs (row_of i) (Contains-get_or rows i no_table_row within)).0
  chunk_if i (inr past) = 0

  abbrev chunk_of : ℕ → ℕ
  chunk_of i = chunk_if i (cases_lt i (length rows))

  chunk_below : (i : ℕ) → i < length rows → chunk_of i < length (all_chunks xorbs)
  chunk_below i within = go (cases_lt i (length rows))
    where
      go : (c : (i < length rows) ⊎ (length rows ≤ i)) → chunk_if i c < length (all_chunks xorbs)
      go (inl less) = omega (arith, (in_table_rows xorbs (row_of i) (Contains-get_or rows i no_table_row less)).1, length-chunk_table_rows xorbs, length-all_chunks xorbs)
      go (inr past) = absurd (omega (arith, past, within))

  row_of_chunk : (i : ℕ) → i < length rows → get_or (chunk_table_rows xorbs) (chunk_of i) no_table_row ≡ row_of i
  row_of_chunk i within = go (cases_lt i (length rows))
    where
      go : (c : (i < length rows) ⊎ (length rows ≤ i)) → get_or (chunk_table_rows xorbs) (chunk_if i c) no_table_row ≡ row_of i
      go (inl less) =
          let found = in_table_rows xorbs (row_of i) (Contains-get_or rows i no_table_row less) in
          get_or_default (chunk_table_rows xorbs) found.0 no_table_row (row_of i) found.1 ∙ found.2
      go (inr past) = absurd (omega (arith, past, within))

  -- a hit is of a chunk of a xorb
  record IsOfChunk (word : ℕ) (h : Hit (ℕ × ℕ)) : Type 0 where
    spot : IsLocated [] xorbs (chunk_of h.row)
    in_rows : h.row < length rows
    starts : StartsAt xorb_records xorbs h.value.0 spot.xorb
    within : h.value.1 < length spot.xorb.chunks
    chunk_is : get_or (all_chunks xorbs) (chunk_of h.row) no_chunk ≡ get_or spot.xorb.chunks h.value.1 no_chunk
    word_is : (get_or (all_chunks xorbs) (chunk_of h.row) no_chunk).chunk_hash.word0 ≡ word

  of_chunk : (word : ℕ) (h : Hit (ℕ × ℕ)) → IsHit t word IsRowAndIndex h → IsOfChunk word h
  of_chunk word h hit =
      let known = hit_row files xorbs options old footer is with_table word h hit in
      let spot = is_located [] xorbs (chunk_of h.row) (chunk_below h.row known.0) in
      let row : chunk_table_row (total_rows xorb_records spot.before) spot.index (get_or spot.xorb.chunks spot.index no_chunk) ≡ row_of h.row = sym spot.row_is ∙ row_of_chunk h.row known.0 in
      let index : h.value.1 ≡ spot.index = ap (λ (v : ℕ × ℕ). v.1) known.2 ∙ sym (ap (λ (p : ChunkTableRow). p.index) row) in
      record {
        spot = spot;
        in_rows = known.0;
        starts = record { before = spot.before; after = spot.after; records_are = spot.xorbs_are; row_is = ap (λ (v : ℕ × ℕ). v.0) known.2 ∙ sym (ap (λ (p : ChunkTableRow). p.row) row) };
        within = omega (arith, spot.within, index);
        chunk_is = spot.chunk_is ∙ ap (λ j. get_or spot.xorb.chunks j no_chunk) (sym index);
        word_is = ap (λ (c : XorbChunkSequenceEntry). c.chunk_hash.word0) spot.chunk_is ∙ ap (λ (p : ChunkTableRow). p.word) row ∙ known.1;
      }

  module _ (q : DataHash) (qs : List DataHash) where
    abbrev hash : DataHash
    hash = under_key key q

    abbrev IsAnswerAt : ℕ × ℕ → Option Run → Type 0
    IsAnswerAt v answer = AnswerAt (query_at footer (q ∷ qs) v) old.bytes answer

    -- no run at a hit: its chunk has another hash
    no_run_at : (h : Hit (ℕ × ℕ)) → IsHit t hash.word0 IsRowAndIndex h → IsAnswerAt h.value None → is_other hash (get_or (all_chunks xorbs) (chunk_of h.row) no_chunk) ≡ true
    no_run_at h hit none =
        let of = of_chunk hash.word0 h hit in
        let run = run_there old is of.starts (q ∷ qs) h.value.1 None none in
        let other = none_is_other key q qs of.spot.xorb h.value.1 of.within run.0 in
        let not_same : hash_eq hash (get_or (all_chunks xorbs) (chunk_of h.row) no_chunk).chunk_hash ≡ false =
        ap (λ (c : XorbChunkSequenceEntry). hash_eq hash c.chunk_hash) of.chunk_is ∙ other in
        λ i. eq-eqb (get_or (all_chunks xorbs) (chunk_of h.row) no_chunk).chunk_hash.word0 hash.word0 of.word_is i && not (not_same i)

    -- a run at a hit
    run_at_hit : (h : Hit (ℕ × ℕ)) (run : Run) → IsHit t hash.word0 IsRowAndIndex h → IsAnswerAt h.value (Some run) → RunAmong key (q ∷ qs) xorbs (Some run)
    run_at_hit h run hit some =
        let of = of_chunk hash.word0 h hit in
        let x = of.spot.xorb in
        let answer = run_there old is of.starts (q ∷ qs) h.value.1 (Some run) some in
        let found = some_is_same key q qs x h.value.1 of.within run answer.0 in (
          (x, h.value.1),
          record {
            xorb = in_records xorb_records xorb_laws xorbs footer.xorb_info_offset old (xorbs_stored files xorbs options old footer is) h.value.0 x of.starts;
            chunk = chunk_here key q qs x h.value.1 of.within ∙ ap Some (sym ((same_hash hash (get_or x.chunks h.value.1 no_chunk).chunk_hash).0 found.0));
          },
          found.1,
        )

    -- each chunk with the hash has a row with its word
    row_of_location : (p : ChunkLocation) → HasChunkAt xorbs hash p
        → (row : ℕ) × StartsAt xorb_records xorbs row p.0 × (i : ℕ) × (i < length rows) × ((row_of i).word ≡ hash.word0) × (row_of i ≡ chunk_table_row row p.1 (get_or p.0.chunks p.1 no_chunk))
    row_of_location p at =
        let within = chunk_within p.0.chunks p.1 hash at.chunk in
        let chunk = get_or p.0.chunks p.1 no_chunk in
        let row = total_rows xorb_records (take at.xorb.0 xorbs) in
        let starts : StartsAt xorb_records xorbs row p.0 =
        subst (StartsAt xorb_records xorbs row) at.xorb.2 (starts_at_index xorb_records xorbs at.xorb.0 p.0 at.xorb.1) in
        let r = chunk_table_row (total_rows xorb_records starts.before) p.1 chunk in
        let has : Contains (chunk_table_rows xorbs) r =
        subst (λ xs. Contains (table_rows_after [] xs) r) (sym starts.records_are) (has_row [] starts.before p.0 starts.after p.1 within) in
        let found = in_table xorbs r has in
        let same : row_of found.0 ≡ r = get_or_default rows found.0 no_table_row r found.1 ∙ found.2 in
        let hash_is : chunk.chunk_hash ≡ hash = same_Some chunk.chunk_hash hash (sym (chunk_here key q qs p.0 p.1 within) ∙ at.chunk) in (
          row,
          starts,
          found.0,
          found.1,
          ap (λ (s : ChunkTableRow). s.word) same ∙ ap (λ (h : DataHash). h.word0) hash_is,
          same ∙ ap (λ n. chunk_table_row n p.1 chunk) (sym starts.row_is),
        )

    module _ (found : List (Hit (ℕ × ℕ))) (each : All (IsHit t hash.word0 IsRowAndIndex) found) (distinct : AllPairs OtherRow found) where
      abbrev values : List (ℕ × ℕ)
      values = map (λ h. h.value) found

      abbrev no_hit : Hit (ℕ × ℕ)
      no_hit = record { row = 0; value = (0, 0) }

      found_run : (run : Run) → TriedAnswer footer (q ∷ qs) old.bytes (Some run) values → RunAmong key (q ∷ qs) xorbs (Some run)
      found_run run (location, contains, some) =
          let P : ℕ × ℕ → Type 0 = λ v. IsAnswerAt v (Some run) → RunAmong key (q ∷ qs) xorbs (Some run) in
          All-contains P values location
          (All-map P (λ (h : Hit (ℕ × ℕ)). h.value) found (All-weaker (IsHit t hash.word0 IsRowAndIndex) (λ h. P h.value) (λ h hit. run_at_hit h run hit) found each))
          contains some

      module _ (none : TriedAnswer footer (q ∷ qs) old.bytes None values) where
        none_at : (i : ℕ) (d : Hit (ℕ × ℕ)) → i < length found → IsAnswerAt (get_or found i d).value None
        none_at i d below =
            subst (λ v. IsAnswerAt v None) (get_or-map (λ (h : Hit (ℕ × ℕ)). h.value) found i d (0, 0) below)
            (none i (0, 0) (omega (arith, below, length-map found (λ (h : Hit (ℕ × ℕ)). h.value))))

        -- the chunks of the hits are so many others with the word
        abbrev chunk_hit : Hit (ℕ × ℕ) → Hit (ℕ × ℕ)
        chunk_hit h = record { row = chunk_of h.row; value = h.value }

        chunks_distinct : AllPairs OtherRow (map chunk_hit found)
        chunks_distinct i j d less below same =
            let j_in : j < length found = omega (arith, below, length-map found chunk_hit) in
            let i_in : i < length found = omega (arith, less, j_in) in
            let g = get_or found i no_hit in
            let h = get_or found j no_hit in
            let row = λ (k : ℕ) (k_in : k < length found). (of_chunk hash.word0 (get_or found k no_hit) (each k no_hit k_in)).in_rows in
            let chunk_row = λ (k : ℕ) (k_in : k < length found). ap (λ (s : Hit (ℕ × ℕ)). s.row) (get_or-map chunk_hit found k no_hit d k_in) in
            let chunks : chunk_of g.row ≡ chunk_of h.row = sym (chunk_row i i_in) ∙ same ∙ chunk_row j j_in in
            rows_differ xorbs g.row h.row (row i i_in) (row j j_in) (distinct i j no_hit less j_in)
            (sym (row_of_chunk g.row (row i i_in)) ∙ ap (λ k. get_or (chunk_table_rows xorbs) k no_table_row) chunks ∙ row_of_chunk h.row (row j j_in))

        found_others : length found ≤ length (others_with_first_word hash xorbs)
        found_others =
            omega (
              arith,
              length-map found chunk_hit,
              few_marked (is_other hash) (all_chunks xorbs) no_chunk (map chunk_hit found) chunks_distinct
                  (All-map (λ (h : Hit (ℕ × ℕ)). h.row < length (all_chunks xorbs)) chunk_hit found
                  (λ i d below. chunk_below (get_or found i d).row (of_chunk hash.word0 (get_or found i d) (each i d below)).in_rows))
                  (All-map (λ (h : Hit (ℕ × ℕ)). is_other hash (get_or (all_chunks xorbs) h.row no_chunk) ≡ true) chunk_hit found
                  (λ i d below. no_run_at (get_or found i d) (each i d below) (none_at i d below))),
            )

        -- if they are all hits, no chunk has the hash
        nowhere : length found ≡ hits t hash.word0 → (p : ChunkLocation) → ¬ HasChunkAt xorbs hash p
        nowhere all p at =
            let within = chunk_within p.0.chunks p.1 hash at.chunk in
            let row = row_of_location p at in
            let m = hits_all word_of numbers_of 8 no_table_row rows footer.chunk_lookup_offset footer.chunk_lookup_num_entry old (rows_known files xorbs options old footer is with_table) IsRowAndIndex
            hash.word0 found each distinct all row.2 row.3 row.4 in
            let h = get_or found m.0 no_hit in
            let value : h.value ≡ (row.0, p.1) =
            (hit_row files xorbs options old footer is with_table hash.word0 h (each m.0 no_hit m.1)).2
            ∙ ap (λ k. ((row_of k).row, (row_of k).index)) (m.2 no_hit) ∙ ap (λ (s : ChunkTableRow). (s.row, s.index)) row.5 in
            let run = run_there old is row.1 (q ∷ qs) p.1 None (subst (λ v. IsAnswerAt v None) value (none_at m.0 no_hit m.1)) in
            let other = none_is_other key q qs p.0 p.1 within run.0 in
            let same = same_Some hash (get_or p.0.chunks p.1 no_chunk).chunk_hash (sym at.chunk ∙ chunk_here key q qs p.0 p.1 within) in
            true≢false (sym ((same_hash hash (get_or p.0.chunks p.1 no_chunk).chunk_hash).1 same) ∙ other)

        found_none : length found ≡ min (hits t hash.word0) 8 → RunAmong key (q ∷ qs) xorbs None
        found_none all = elim (cases_lt (length found) 8) [
          | inl less ↦ inl (nowhere (omega (arith, less, all)))
          | inr eight ↦ inr (omega (arith, eight, found_others))
        ]

      -- a hit is refused only if the device fails
      hit_refused : All IsXorb xorbs → (new : Source) (e : CoreError) → TriedRefused footer (q ∷ qs) old new e values → DeviceFailure old new e
      hit_refused good new e (location, contains, refused) =
          let P : ℕ × ℕ → Type 0 = λ v. RefusedAt IsBareInvalidShard (query_at footer (q ∷ qs) v) old new e → DeviceFailure old new e in
          All-contains P values location
          (All-map P (λ (h : Hit (ℕ × ℕ)). h.value) found (All-weaker (IsHit t hash.word0 IsRowAndIndex) (λ h. P h.value) at_hit found each))
          contains refused
        where
          at_hit : (h : Hit (ℕ × ℕ)) → IsHit t hash.word0 IsRowAndIndex h → RefusedAt IsBareInvalidShard (query_at footer (q ∷ qs) h.value) old new e → DeviceFailure old new e
          at_hit h hit refused =
              let of = of_chunk hash.word0 h hit in
              let section = xorbs_stored files xorbs options old footer is in
              let is_xorb = All-contains IsXorb xorbs of.spot.xorb good (in_records xorb_records xorb_laws xorbs footer.xorb_info_offset old section h.value.0 of.spot.xorb of.starts) in
              elim (no_run_there old is of.starts (q ∷ qs) h.value.1 IsBareInvalidShard new e is_xorb.bytes refused) [
                | inl device ↦ device
                | inr past ↦ absurd (omega (arith, past.1, of.within))
              ]

    -- the xorbs at some rows, and that visits there read no more than their bytes
    record AreTried (tries read : ℕ) : Type 0 where
      tried : List MDBXorbInfo
      number : length tried ≡ tries
      among : All (Contains xorbs) tried
      most : read ≤ length (flat_map xorb_record_bytes tried)

    are_tried : (starts : List ℕ) (taken : List ℕ) → All (λ row. (x : MDBXorbInfo) × StartsAt xorb_records xorbs row x) starts
        → AllZip (λ row n. MayRead xorb_records (drop (row_at footer.xorb_info_offset row) old.bytes) n) starts taken → AreTried (length starts) (sum taken)
    are_tried [] [] at zip = record { tried = []; number = refl; among = All-nil (Contains xorbs); most = omega arith }
    are_tried [] (n ∷ taken) at zip = absurd zip
    are_tried (row ∷ starts) [] at zip = absurd zip
    are_tried (row ∷ starts) (n ∷ taken) at zip =
        let rest = are_tried starts taken (All-drop (λ r. (x : MDBXorbInfo) × StartsAt xorb_records xorbs r x) 1 (row ∷ starts) at) zip.1 in
        let here = at 0 row (omega arith) in
        let section = xorbs_stored files xorbs options old footer is in
        record {
          tried = here.0 ∷ rest.tried;
          number = omega (arith, rest.number);
          among = All-cons (Contains xorbs) here.0 rest.tried (in_records xorb_records xorb_laws xorbs footer.xorb_info_offset old section row here.0 here.1) rest.among;
          most = omega (
            arith,
            sum_by-cons (λ (k : ℕ). k) n taken,
            rest.most,
            length-append (xorb_record_bytes here.0) (flat_map xorb_record_bytes rest.tried),
            record_is_enough xorb_records xorb_laws xorbs footer.xorb_info_offset old section row here.0 here.1 n zip.0,
          );
        }

    -- what the locations that were tried cost
    tries_cost : (new : Source) (Answer : List (ℕ × ℕ) → Type 0) → Queries footer q old new Answer → TriesCost xorbs hash.word0 old new
    tries_cost new Answer queries =
        let starts = map (λ (h : Hit (ℕ × ℕ)). h.value.0) queries.found in
        let n = queries.visits.0 in
        let visits = queries.visits.1 in
        let at : All (λ row. (x : MDBXorbInfo) × StartsAt xorb_records xorbs row x) starts =
        All-map (λ row. (x : MDBXorbInfo) × StartsAt xorb_records xorbs row x) (λ (h : Hit (ℕ × ℕ)). h.value.0) queries.found
        (All-weaker (IsHit t hash.word0 IsRowAndIndex) (λ h. (x : MDBXorbInfo) × StartsAt xorb_records xorbs h.value.0 x)
        (λ h hit. let of = of_chunk hash.word0 h hit in (of.spot.xorb, of.starts)) queries.found queries.each) in
        let tries = are_tried (take n starts) visits.taken (All-take (λ row. (x : MDBXorbInfo) × StartsAt xorb_records xorbs row x) n starts at)
        (subst (λ bytes. AllZip (λ row k. MayRead xorb_records (drop (row_at footer.xorb_info_offset row) bytes) k) (take n starts) visits.taken) queries.no_failure.bytes visits.may_take) in
        record {
          searched = queries.searched;
          search = chunk_search_costs files xorbs options old footer is with_table hash.word0 queries.searched queries.bounded;
          tried = tries.tried;
          few = omega (arith, tries.number, length-take n starts, length-map queries.found (λ (h : Hit (ℕ × ℕ)). h.value.0), queries.few);
          among = tries.among;
          seeks = omega (arith, visits.seeks, tries.number);
          read = omega (arith, visits.read, tries.most);
        }

    -- nothing is tried
    none_tried : (searched new : Source) → ChunkSearchCosts xorbs hash.word0 old searched → new ≡ searched → TriesCost xorbs hash.word0 old new
    none_tried searched new search same = record {
      searched = searched;
      search = search;
      tried = [];
      few = omega arith;
      among = All-nil (Contains xorbs);
      seeks = omega (arith, ap (λ (s : Source). s.seeks) same);
      read = omega (arith, ap (λ (s : Source). s.read) same);
    }

    no_rows : footer.chunk_lookup_num_entry ≡ 0 → RunAmong key (q ∷ qs) xorbs None
    no_rows none = inl (λ p at. absurd (omega (arith, none, (row_of_location p at).3, (rows_known files xorbs options old footer is with_table).count_is)))

    query_gives : (new : Source) (answer : Option Run) → QueryAnswer footer (q ∷ qs) old new answer → RunAmong key (q ∷ qs) xorbs answer
    query_gives new answer (inl (none, nothing, same)) = subst (RunAmong key (q ∷ qs) xorbs) (sym nothing) (no_rows none)
    query_gives new (Some run) (inr (some, queries)) = found_run queries.found queries.each queries.distinct run queries.answer
    query_gives new None (inr (some, queries)) = found_none queries.found queries.each queries.distinct queries.answer (queries.all (table_sorted files xorbs options old footer is with_table))

    query_refuses : All IsXorb xorbs → (new : Source) (e : CoreError) → QueryRefused footer (q ∷ qs) old new e → DeviceFailure old new e
    query_refuses good new e (some, inl (refused, bounded)) =
        search_served word_of numbers_of 8 no_table_row rows footer.chunk_lookup_offset footer.chunk_lookup_num_entry old (rows_known files xorbs options old footer is with_table) new e refused
    query_refuses good new e (some, inr queries) = hit_refused queries.found queries.each queries.distinct good new e queries.answer

    query_costs : (new : Source) (r : CoreResult (Option Run)) → QueryOutcome footer (q ∷ qs) old new r
        → TriesCost xorbs hash.word0 old new
    query_costs new (Ok answer) (inl (none, nothing, same)) =
        none_tried old new (record { made = 0; few = omega arith; seeks = omega arith; read = omega arith }) same
    query_costs new (Ok answer) (inr (some, queries)) = tries_cost new _ queries
    query_costs new (Err e) (some, inl (refused, bounded)) = none_tried new new (chunk_search_costs files xorbs options old footer is with_table hash.word0 new bounded) refl
    query_costs new (Err e) (some, inr queries) = tries_cost new _ queries

  pub query_with_options : All IsXorb xorbs → (qs : List DataHash) (new : Source) (r : CoreResult (Option Run))
      → QueryOutcome footer qs old new r → MatchResult r (RunAmong options.key qs xorbs) (DeviceFailure old new)
  query_with_options good [] new (Ok answer) read = read.0
  query_with_options good [] new (Err e) read = absurd read
  query_with_options good (q ∷ qs) new (Ok answer) read =
      subst (λ (f : MDBShardFileFooter). RunAmong f.chunk_hash_hmac_key (q ∷ qs) xorbs answer) is.footer_is (query_gives q qs new answer read)
  query_with_options good (q ∷ qs) new (Err e) read = query_refuses q qs good new e read

  pub query_costs_with_options : (qs : List DataHash) (new : Source) (r : CoreResult (Option Run))
      → QueryOutcome footer qs old new r → QueryCosts options.key qs xorbs old new
  query_costs_with_options [] new (Ok answer) read = read.1
  query_costs_with_options [] new (Err e) read = absurd read
  query_costs_with_options (q ∷ qs) new r read = subst (λ (f : MDBShardFileFooter). QueryCosts f.chunk_hash_hmac_key (q ∷ qs) xorbs old new) is.footer_is (query_costs q qs new r read)
