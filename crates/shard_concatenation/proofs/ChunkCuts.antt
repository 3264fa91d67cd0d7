-- What cuts through chunk tables say of their rows, and the turns of the loops that find and make them.
use Rattle.std.proofs.Common.{◌≡◌, ℕ, zero, suc, ◌+◌, ◌-◌, ◌*◌, ◌^◌, ◌<◌, ◌≤◌, ◌⊎◌, inl, inr, Bool, true, false, cond, List, [], ◌∷◌, ◌++◌, length, map, flat_map, take, drop, get_or, Option, Some, None, refl, sym, ap, ◌∙◌, subst, append_assoc, append-nil, arith, true≢false}
use Rattle.std.specs.Prelude.{◌/◌, ◌%◌, min, All, filter, not}
use Rattle.std.specs.List.{AllByRecursion}
use Rattle.std.specs.List.Sorted.{IsPermutation, IsStrictlySortedBy}
use Rattle.std.specs.Ordering.{is_lt}
use Rattle.std.specs.declared.cmp.Ordering.TheVariants.{Less}
use Rattle.std.proofs.lemmas.Bool.{cond-true, cond-false, lt-ltb, le-ltb, ltb-true, cases_lt}
use Rattle.std.proofs.Math.Nat.{pow-suc}
use Rattle.std.proofs.lemmas.Nat.{pow_pos}
use Rattle.std.proofs.lemmas.List.{length-append, length-map, length-drop, length-take-le, get_or-map, get_or-take, get_or-drop, take_more, take_rest, take_at, drop_at, take-append-drop, map_push, drop_more}
use Rattle.std.proofs.lemmas.List.Elements.{All-head, All-tail, All-push, All-filter, All-weaker, filter-append}
use Rattle.std.proofs.lemmas.List.Filters.{length-filter_both}
use Rattle.std.proofs.lemmas.List.Kept.{IsStrictlySortedBy-filter}
use Rattle.std.proofs.lemmas.Grind.{flat_map-append}
use Rattle.xet_base.specs.Bytes.{u32_bytes, u64_bytes}
use Rattle.xet_base.proofs.Bytes.{u64_bytes-front}
use Rattle.xet_shards.specs.Read.TableReading.{FitsTableRow}
use Rattle.xet_shards.specs.Write.RaisedRows.{chunk_row_later}
use Rattle.xet_shards.specs.declared.shard_format.write.xorb_writer.ChunkTableRow.{ChunkTableRow}
use Rattle.xet_shards.specs.Write.Tables.{chunk_table_row_cmp, chunk_table_row_bytes}
use Rattle.xet_shards.proofs.ShardInMemory.Walks.{flat_map-push}
use Rattle.shard_concatenation.specs.declared.chunk_merging.Cursor.{Cursor}
use Rattle.shard_concatenation.specs.Steps.ChunkMerging.{HoldsRows, rows_held}
use Rattle.shard_concatenation.specs.Steps.ChunkCuts.{is_before, is_behind, is_until, rows_before, rows_behind, rows_between, end_of, IsCut, HoldInTables}
use Rattle.shard_concatenation.proofs.ChunkChecking.{length-table, rows_in_table}
use Rattle.shard_concatenation.proofs.Permutations.{flat_permutation}
use Rattle.shard_concatenation.proofs.TableMerge.{word_above}

-- filters
module _ {X : Type 0} (p : X → Bool) where
  filter_all : (xs : List X) → All (λ x. p x ≡ true) xs → filter p xs ≡ xs
  filter_all [] all = refl
  filter_all (x ∷ xs) all =
      cond-true (p x) (x ∷ filter p xs) (filter p xs) (All-head (λ x. p x ≡ true) x xs all) ∙ ap (λ l. x ∷ l) (filter_all xs (All-tail (λ x. p x ≡ true) x xs all))

  pub filter_none : (xs : List X) → All (λ x. p x ≡ false) xs → filter p xs ≡ []
  filter_none [] all = refl
  filter_none (x ∷ xs) all =
      cond-false (p x) (x ∷ filter p xs) (filter p xs) (All-head (λ x. p x ≡ false) x xs all) ∙ filter_none xs (All-tail (λ x. p x ≡ false) x xs all)

  filter-flat : (xs : List X) → filter p xs ≡ flat_map (λ x. cond (p x) (x ∷ []) []) xs
  filter-flat [] = refl
  filter-flat (x ∷ xs) = go (p x) (filter-flat xs) where
    go : (b : Bool) → filter p xs ≡ flat_map (λ x. cond (p x) (x ∷ []) []) xs → cond b (x ∷ filter p xs) (filter p xs) ≡ cond b (x ∷ []) [] ++ flat_map (λ x. cond (p x) (x ∷ []) []) xs
    go true e = ap (λ l. x ∷ l) e
    go false e = e

  -- of a permutation a filter keeps a permutation
  pub filter_permutation : (xs ys : List X) → IsPermutation xs ys → IsPermutation (filter p xs) (filter p ys)
  filter_permutation xs ys moved =
      subst (λ l. IsPermutation l (filter p ys)) (sym (filter-flat xs))
      (subst (IsPermutation (flat_map (λ x. cond (p x) (x ∷ []) []) xs)) (sym (filter-flat ys)) (flat_permutation (λ x. cond (p x) (x ∷ []) []) xs ys moved))

  pub length-filter-le : (xs : List X) → length (filter p xs) ≤ length xs
  length-filter-le xs = omega (arith, length-filter_both p (λ x. not (p x)) (λ x. refl) xs)

-- where a test passes at the front and fails behind it, a filter cuts
cut_by_filter : {X : Type 0} (p : X → Bool) (xs : List X) (n : ℕ) → All (λ x. p x ≡ true) (take n xs) → All (λ x. p x ≡ false) (drop n xs) → (take n xs ≡ filter p xs) × (drop n xs ≡ filter (λ x. not (p x)) xs)
cut_by_filter {X} p xs n front back =
    let parts : xs ≡ take n xs ++ drop n xs = sym (take-append-drop n xs) in
    let q : X → Bool = λ x. not (p x) in
    let q_front : All (λ x. q x ≡ false) (take n xs) = All-weaker (λ x. p x ≡ true) (λ x. q x ≡ false) (λ x e. ap not e) (take n xs) front in
    let q_back : All (λ x. q x ≡ true) (drop n xs) = All-weaker (λ x. p x ≡ false) (λ x. q x ≡ true) (λ x e. ap not e) (drop n xs) back in (
      sym (ap (filter p) parts ∙ filter-append p (take n xs) (drop n xs) ∙ (λ i. filter_all p (take n xs) front i ++ filter_none p (drop n xs) back i) ∙ append-nil (take n xs)),
      sym (ap (filter q) parts ∙ filter-append q (take n xs) (drop n xs) ∙ (λ i. filter_none q (take n xs) q_front i ++ filter_all q (drop n xs) q_back i)),
    )

-- the words of rows in order
word_rises : (a b : ChunkTableRow) → chunk_table_row_cmp a b ≡ Less → a.word ≤ b.word
word_rises a b less = go (cases_lt b.word a.word) where
  go : (b.word < a.word) ⊎ (a.word ≤ b.word) → a.word ≤ b.word
  go (inl above) = absurd (true≢false (sym (ap is_lt less) ∙ word_above a b above))
  go (inr le) = le

least_word : (r : ChunkTableRow) (rows : List ChunkTableRow) → AllByRecursion (λ y. chunk_table_row_cmp r y ≡ Less) rows → (j : ℕ) (d : ChunkTableRow) → j < length rows → r.word ≤ (get_or rows j d).word
least_word r [] all j d below = absurd (omega (arith, below))
least_word r (s ∷ rows) all zero d below = word_rises r s all.0
least_word r (s ∷ rows) all (suc j) d below = least_word r rows all.1 j d (omega (arith, below))

words_rise : (rows : List ChunkTableRow) → IsStrictlySortedBy chunk_table_row_cmp rows → (i j : ℕ) (d : ChunkTableRow) → i ≤ j → j < length rows → (get_or rows i d).word ≤ (get_or rows j d).word
unfolding IsStrictlySortedBy
words_rise [] up i j d le below = absurd (omega (arith, below))
words_rise (r ∷ rows) up zero zero d le below = omega arith
words_rise (r ∷ rows) up zero (suc j) d le below = least_word r rows up.0 j d (omega (arith, below))
words_rise (r ∷ rows) up (suc i) zero d le below = absurd (omega (arith, le))
words_rise (r ∷ rows) up (suc i) (suc j) d le below = words_rise rows up.1 i j d (omega (arith, le)) (omega (arith, below))

-- parts of a table by the number of rows
bytes_taken : (n : ℕ) (rows : List ChunkTableRow) → n ≤ length rows → take (16 * n) (flat_map chunk_table_row_bytes rows) ≡ flat_map chunk_table_row_bytes (take n rows)
bytes_taken n rows within =
    ap (take (16 * n)) (ap (flat_map chunk_table_row_bytes) (sym (take-append-drop n rows)) ∙ flat_map-append chunk_table_row_bytes (take n rows) (drop n rows))
    ∙ take_at (flat_map chunk_table_row_bytes (take n rows)) (flat_map chunk_table_row_bytes (drop n rows)) (16 * n) (length-table (take n rows) ∙ omega (arith, length-take-le n rows within))

bytes_dropped : (n : ℕ) (rows : List ChunkTableRow) → n ≤ length rows → drop (16 * n) (flat_map chunk_table_row_bytes rows) ≡ flat_map chunk_table_row_bytes (drop n rows)
bytes_dropped n rows within =
    ap (drop (16 * n)) (ap (flat_map chunk_table_row_bytes) (sym (take-append-drop n rows)) ∙ flat_map-append chunk_table_row_bytes (take n rows) (drop n rows))
    ∙ drop_at (flat_map chunk_table_row_bytes (take n rows)) (flat_map chunk_table_row_bytes (drop n rows)) (16 * n) (length-table (take n rows) ∙ omega (arith, length-take-le n rows within))

-- the word that was read is that of a row
pub word_read : (cursor : Cursor) (rows : List ChunkTableRow) (n word : ℕ) (part more : List ℕ) (d : ChunkTableRow) → HoldsRows (cursor, rows) → n < length rows → word < 2 ^ 64
    → part ≡ take (length cursor.rest.now - 16 * n) (drop (16 * n) cursor.rest.now) → part ≡ u64_bytes word ++ more → (get_or rows n d).word ≡ word
word_read cursor rows n word part more d holds below fits part_is read =
    let r = get_or rows n d in
    let rest = flat_map chunk_table_row_bytes (drop (n + 1) rows) in
    let there : part ≡ chunk_table_row_bytes r ++ rest =
    part_is ∙ take_rest cursor.rest.now (16 * n) ∙ ap (drop (16 * n)) holds.bytes ∙ bytes_dropped n rows (omega (arith, below)) ∙ ap (flat_map chunk_table_row_bytes) (drop_more rows n d below) in
    let row_fits : FitsTableRow r = holds.fits n d below in
    let most : List ℕ = u32_bytes r.row ++ (u32_bytes r.index ++ rest) in
    let split : u64_bytes r.word ++ most ≡ chunk_table_row_bytes r ++ rest =
    sym (append_assoc (u64_bytes r.word) (u32_bytes r.row) (u32_bytes r.index ++ rest)) ∙ sym (append_assoc (u64_bytes r.word ++ u32_bytes r.row) (u32_bytes r.index) rest) in
    (u64_bytes-front r.word word most more row_fits.word fits (split ∙ sym there ∙ read)).0

-- a table has whole rows
pub whole_rows : (cursor : Cursor) (rows : List ChunkTableRow) → HoldsRows (cursor, rows) → length cursor.rest.now % 16 ≡ 0
whole_rows cursor rows holds = omega (arith, ap length holds.bytes, length-table rows)

-- all rows before one place are before the cut, and all from another on behind it
pub record IsSearched (word : ℕ) (rows : List ChunkTableRow) (low high : ℕ) : Type 0 where
  pub within : high ≤ length rows
  pub below : (k : ℕ) (d : ChunkTableRow) → k < low → (get_or rows k d).word < word
  pub above : (k : ℕ) (d : ChunkTableRow) → high ≤ k → k < length rows → word ≤ (get_or rows k d).word

pub not_searched : (word : ℕ) (rows : List ChunkTableRow) (high : ℕ) → high ≡ length rows → IsSearched word rows 0 high
not_searched word rows high high_is = record {
  within = omega (arith, high_is);
  below = λ k d below. absurd (omega (arith, below));
  above = λ k d le below. absurd (omega (arith, le, below, high_is));
}

module _ (cursor : Cursor) (rows : List ChunkTableRow) (holds : HoldsRows (cursor, rows)) (word low middle high read : ℕ) (before : IsSearched word rows low high) (within : middle < length rows)
    (read_is : (d : ChunkTableRow) → (get_or rows middle d).word ≡ read) where
  pub low_raised : read < word → IsSearched word rows (middle + 1) high
  low_raised below = record {
    within = before.within;
    below = λ k d early. omega (arith, words_rise rows holds.ascend k middle d (omega (arith, early)) within, read_is d, below);
    above = before.above;
  }

  pub high_lowered : word ≤ read → IsSearched word rows low middle
  high_lowered above = record {
    within = omega (arith, within);
    below = before.below;
    above = λ k d late in_rows. omega (arith, words_rise rows holds.ascend middle k d late in_rows, read_is d, above);
  }

-- where both places are one, the cut is there
pub cut_found : (word : ℕ) (rows : List ChunkTableRow) (low high : ℕ) → IsSearched word rows low high → high ≤ low → low ≤ high → IsCut word rows low
cut_found word rows low high searched past within =
    let in_rows : low ≤ length rows = omega (arith, searched.within, within) in
    let front : All (λ r. is_before word r ≡ true) (take low rows) = λ k d below.
    let early : k < low = omega (arith, below, length-take-le low rows in_rows) in
    ap (is_before word) (get_or-take low rows k d early) ∙ lt-ltb (get_or rows k d).word word (searched.below k d early) in
    let back : All (λ r. is_before word r ≡ false) (drop low rows) = λ k d below.
    ap (is_before word) (get_or-drop low rows k d)
    ∙ le-ltb (get_or rows (low + k) d).word word (searched.above (low + k) d (omega (arith, past)) (omega (arith, below, length-drop low rows))) in
    let cut = cut_by_filter (is_before word) rows low front back in
    record { front = cut.0; back = cut.1 }

-- the cut of a table, and the rows on one side of it
module _ (cursor after : Cursor) (word count : ℕ) (rows : List ChunkTableRow) (holds : HoldsRows (cursor, rows)) (cut : IsCut word rows count) (within : 16 * count ≤ length cursor.rest.now) (first_is : after.first ≡ cursor.first) where
  in_rows : count ≤ length rows
  in_rows = omega (arith, within, ap length holds.bytes, length-table rows)

  pub rows_are_behind : after.rest.now ≡ take (length cursor.rest.now - 16 * count) (drop (16 * count) cursor.rest.now) → HoldsRows (after, rows_behind word rows)
  rows_are_behind rest_is = record {
    bytes = rest_is ∙ take_rest cursor.rest.now (16 * count) ∙ ap (drop (16 * count)) holds.bytes ∙ bytes_dropped count rows in_rows ∙ ap (flat_map chunk_table_row_bytes) cut.back;
    fits = All-filter (is_behind word) FitsTableRow rows holds.fits;
    ascend = IsStrictlySortedBy-filter chunk_table_row_cmp (is_behind word) rows holds.ascend;
    later_fits = subst (λ n. All (λ row. n + row.row < 2 ^ 32) (rows_behind word rows)) (sym first_is) (All-filter (is_behind word) (λ row. cursor.first + row.row < 2 ^ 32) rows holds.later_fits);
  }

  rows_are_before : after.rest.now ≡ take (16 * count) cursor.rest.now → HoldsRows (after, rows_before word rows)
  rows_are_before rest_is = record {
    bytes = rest_is ∙ ap (take (16 * count)) holds.bytes ∙ bytes_taken count rows in_rows ∙ ap (flat_map chunk_table_row_bytes) cut.front;
    fits = All-filter (is_before word) FitsTableRow rows holds.fits;
    ascend = IsStrictlySortedBy-filter chunk_table_row_cmp (is_before word) rows holds.ascend;
    later_fits = subst (λ n. All (λ row. n + row.row < 2 ^ 32) (rows_before word rows)) (sym first_is) (All-filter (is_before word) (λ row. cursor.first + row.row < 2 ^ 32) rows holds.later_fits);
  }

  pub rows_are_until : (high : Option ℕ) → high ≡ Some word → after.rest.now ≡ take (16 * count) cursor.rest.now → HoldsRows (after, filter (is_until high) rows)
  rows_are_until high high_is rest_is = subst (λ h. HoldsRows (after, filter (is_until h) rows)) (sym high_is) (rows_are_before rest_is)

-- all rows are before the end
pub until_end : (rows : List ChunkTableRow) → filter (is_until None) rows ≡ rows
until_end rows = filter_all (is_until None) rows (λ k d below. refl)

-- a test of words passes rows alike whatever is added to their row numbers
filter_later : (p : ChunkTableRow → Bool) → ((n : ℕ) (r : ChunkTableRow) → p (chunk_row_later n r) ≡ p r) → (n : ℕ) (rows : List ChunkTableRow) → filter p (map (chunk_row_later n) rows) ≡ map (chunk_row_later n) (filter p rows)
filter_later p same n [] = refl
filter_later p same n (r ∷ rows) =
    ap (λ b. cond b (chunk_row_later n r ∷ filter p (map (chunk_row_later n) rows)) (filter p (map (chunk_row_later n) rows))) (same n r) ∙ go (p r) (filter_later p same n rows)
  where
    go : (b : Bool) → filter p (map (chunk_row_later n) rows) ≡ map (chunk_row_later n) (filter p rows)
        → cond b (chunk_row_later n r ∷ filter p (map (chunk_row_later n) rows)) (filter p (map (chunk_row_later n) rows)) ≡ map (chunk_row_later n) (cond b (r ∷ filter p rows) (filter p rows))
    go true e = ap (λ l. chunk_row_later n r ∷ l) e
    go false e = e

until_later : (high : Option ℕ) (n : ℕ) (r : ChunkTableRow) → is_until high (chunk_row_later n r) ≡ is_until high r
until_later None n r = refl
until_later (Some word) n r = refl

-- the turns of the loops over cursors
module _ (held : List (Cursor × List ChunkTableRow)) (cursors : List Cursor) (are : map (λ h. h.0) held ≡ cursors) (hold : All HoldsRows held) where
  module _ (i : ℕ) (d : Cursor) (below : i < length cursors) where
    within_held : i < length held
    within_held = omega (arith, below, ap length are, length-map held (λ (h : Cursor × List ChunkTableRow). h.0))

    abbrev here : Cursor × List ChunkTableRow
    here = get_or held i (d, [])

    cursor_is : get_or cursors i d ≡ here.0
    cursor_is = ap (λ cs. get_or cs i d) (sym are) ∙ get_or-map (λ (h : Cursor × List ChunkTableRow). h.0) held i (d, []) d within_held

    holds_here : HoldsRows (get_or cursors i d, here.1)
    holds_here = subst (λ c. HoldsRows (c, here.1)) (sym cursor_is) (hold i (d, []) within_held)

    rows_more : flat_map rows_held (take (i + 1) held) ≡ flat_map rows_held (take i held) ++ rows_held here
    rows_more = ap (flat_map rows_held) (take_more held i (d, []) within_held) ∙ flat_map-push rows_held (take i held) here

    rows_here_fit : length (flat_map rows_held (take i held)) + length here.1 ≤ length (flat_map rows_held held)
    rows_here_fit =
        let all : flat_map rows_held held ≡ flat_map rows_held (take (i + 1) held) ++ flat_map rows_held (drop (i + 1) held) =
        ap (flat_map rows_held) (sym (take-append-drop (i + 1) held)) ∙ flat_map-append rows_held (take (i + 1) held) (drop (i + 1) held) in
        omega (arith, ap length all, ap length rows_more, length-append (flat_map rows_held (take (i + 1) held)) (flat_map rows_held (drop (i + 1) held)), length-append (flat_map rows_held (take i held)) (rows_held here), length-map here.1 (chunk_row_later here.0.first))

    -- the rows before the cut of one table more
    pub counted_more : (word now count later : ℕ) → length (flat_map rows_held held) < 2 ^ 64 → now ≡ length (rows_before word (flat_map rows_held (take i held)))
        → 16 * count ≤ length (get_or cursors i d).rest.now → ((rows : List ChunkTableRow) → HoldsRows (get_or cursors i d, rows) → IsCut word rows count) → (now + count < 2 ^ 64 → later ≡ now + count)
        → later ≡ length (rows_before word (flat_map rows_held (take (i + 1) held)))
    counted_more word now count later small now_is within cut later_is =
        let in_rows : count ≤ length here.1 = omega (arith, within, ap length holds_here.bytes, length-table here.1) in
        let there : length (rows_before word here.1) ≡ count = ap length (sym (cut here.1 holds_here).front) ∙ length-take-le count here.1 in_rows in
        let more : rows_before word (flat_map rows_held (take (i + 1) held)) ≡ rows_before word (flat_map rows_held (take i held)) ++ map (chunk_row_later here.0.first) (rows_before word here.1) =
        ap (rows_before word) rows_more ∙ filter-append (is_before word) (flat_map rows_held (take i held)) (rows_held here)
        ∙ ap (λ l. rows_before word (flat_map rows_held (take i held)) ++ l) (filter_later (is_before word) (λ n r. refl) here.0.first here.1) in
        let length_more : length (rows_before word (flat_map rows_held (take (i + 1) held))) ≡ now + count =
        ap length more ∙ length-append (rows_before word (flat_map rows_held (take i held))) (map (chunk_row_later here.0.first) (rows_before word here.1))
        ∙ omega (arith, length-map (rows_before word here.1) (chunk_row_later here.0.first), there, now_is) in
        let fits : now + count < 2 ^ 64 = omega (arith, rows_here_fit, length-filter-le (is_before word) (flat_map rows_held (take i held)), in_rows, now_is, small) in
        later_is fits ∙ sym length_more

    -- the rows of one table more
    pub rows_counted_more : (now later : ℕ) → length (flat_map rows_held held) < 2 ^ 64 → now ≡ length (flat_map rows_held (take i held)) → later ≡ min (now + length (get_or cursors i d).rest.now / 16) (2 ^ 64 - 1)
        → later ≡ length (flat_map rows_held (take (i + 1) held))
    rows_counted_more now later small now_is later_is =
        let there = rows_in_table (get_or cursors i d) here.1 holds_here in
        let length_more : length (flat_map rows_held (take (i + 1) held)) ≡ now + length here.1 =
        ap length rows_more ∙ length-append (flat_map rows_held (take i held)) (rows_held here) ∙ omega (arith, length-map here.1 (chunk_row_later here.0.first), now_is) in
        omega (arith, later_is, rows_here_fit, there, now_is, small, length_more)

    -- the rows from one cut to another of one table more
    pub tables_more : (low : ℕ) (high : Option ℕ) (tables : List Cursor) (table : Cursor) → HoldInTables (rows_between low high (flat_map rows_held (take i held))) tables → table.first ≡ (get_or cursors i d).first
        → ((rows : List ChunkTableRow) → HoldsRows (get_or cursors i d, rows) → HoldsRows (table, rows_between low high rows)) → HoldInTables (rows_between low high (flat_map rows_held (take (i + 1) held))) (tables ++ table ∷ [])
    tables_more low high tables table before first_is cut =
        let rows = rows_between low high here.1 in
        let one : Cursor × List ChunkTableRow = (table, rows) in
        let done = flat_map rows_held (take i held) in
        let first_here : table.first ≡ here.0.first = first_is ∙ ap (λ (c : Cursor). c.first) cursor_is in
        let later : rows_between low high (rows_held here) ≡ rows_held one =
        ap (filter (is_until high)) (filter_later (is_behind low) (λ n r. refl) here.0.first here.1) ∙ filter_later (is_until high) (until_later high) here.0.first (rows_behind low here.1) ∙ ap (λ n. map (chunk_row_later n) rows) (sym first_here) in
        let more : rows_between low high (flat_map rows_held (take (i + 1) held)) ≡ rows_between low high done ++ rows_held one =
        ap (rows_between low high) rows_more ∙ ap (filter (is_until high)) (filter-append (is_behind low) done (rows_held here)) ∙ filter-append (is_until high) (rows_behind low done) (rows_behind low (rows_held here))
        ∙ ap (λ l. rows_between low high done ++ l) later in
        record {
          held = before.held ++ one ∷ [];
          cursors_are = map_push (λ (h : Cursor × List ChunkTableRow). h.0) before.held one ∙ ap (λ cs. cs ++ table ∷ []) before.cursors_are;
          hold = All-push HoldsRows before.held one before.hold (cut here.1 holds_here);
          rows_are = flat_map-push rows_held before.held one ∙ ap (λ l. l ++ rows_held one) before.rows_are ∙ sym more;
        }

-- no row is before the cut at 0
pub none_before : (rows : List ChunkTableRow) → length (rows_before 0 rows) ≡ 0
none_before rows = ap length (filter_none (is_before 0) rows (λ k d below. le-ltb (get_or rows k d).word 0 (omega arith)))

-- the word halfway between two cuts
pub word_between : (bit low end : ℕ) → bit < 64 → end ≡ low + 2 ^ (64 - bit) → end ≤ 2 ^ 64
    → (low + 1 * 2 ^ (63 - bit) % 2 ^ 64 < 2 ^ 64) × (end ≡ low + 1 * 2 ^ (63 - bit) % 2 ^ 64 + 2 ^ (64 - (bit + 1))) × (low + 1 * 2 ^ (63 - bit) % 2 ^ 64 ≡ low + 2 ^ (64 - (bit + 1)))
word_between bit low end below end_is fits =
    let next : 64 - bit ≡ suc (63 - bit) = omega (arith, below) in
    let same : 64 - (bit + 1) ≡ 63 - bit = omega (arith, below) in
    let half : 2 ^ (64 - (bit + 1)) ≡ 2 ^ (63 - bit) = ap (λ n. 2 ^ n) same in
    let whole : 2 ^ (64 - bit) ≡ 2 ^ (63 - bit) * 2 = ap (λ n. 2 ^ n) next ∙ pow-suc 2 (63 - bit) in
    let some : 0 < 2 ^ (63 - bit) = pow_pos (63 - bit) in
    (omega (arith, whole, some, end_is, fits), omega (arith, whole, half, some, end_is, fits), omega (arith, whole, half, some, end_is, fits))

-- between two cuts in order there are the rows before the second less those before the first
module _ (low : ℕ) (high : Option ℕ) (in_order : low ≤ end_of high) where
  one_between : (r : ChunkTableRow) (rows : List ChunkTableRow) (b c : Bool) → (b ≡ true → c ≡ true) → length (rows_between low high rows) + length (rows_before low rows) ≤ length (filter (is_until high) rows)
      → length (cond (not b) (cond c (r ∷ rows_between low high rows) (rows_between low high rows)) (rows_between low high rows)) + length (cond b (r ∷ rows_before low rows) (rows_before low rows)) ≤ length (cond c (r ∷ filter (is_until high) rows) (filter (is_until high) rows))
  one_between r rows true true then less = omega (arith, less)
  one_between r rows true false then less = absurd (true≢false (sym (then refl)))
  one_between r rows false true then less = omega (arith, less)
  one_between r rows false false then less = less

  is_until_too : (r : ChunkTableRow) (h : Option ℕ) → low ≤ end_of h → is_before low r ≡ true → is_until h r ≡ true
  is_until_too r None le is = refl
  is_until_too r (Some word) le is = lt-ltb r.word word (omega (arith, ltb-true r.word low is, le))

  filter_cond : (r : ChunkTableRow) (rows : List ChunkTableRow) (b : Bool) → filter (is_until high) (cond b (r ∷ rows) rows) ≡ cond b (cond (is_until high r) (r ∷ filter (is_until high) rows) (filter (is_until high) rows)) (filter (is_until high) rows)
  filter_cond r rows true = refl
  filter_cond r rows false = refl

  between_and_before : (rows : List ChunkTableRow) → length (rows_between low high rows) + length (rows_before low rows) ≤ length (filter (is_until high) rows)
  between_and_before [] = omega arith
  between_and_before (r ∷ rows) =
      let one = one_between r rows (is_before low r) (is_until high r) (is_until_too r high in_order) (between_and_before rows) in
      subst (λ l. length l + length (rows_before low (r ∷ rows)) ≤ length (filter (is_until high) (r ∷ rows))) (sym (filter_cond r (rows_behind low rows) (is_behind low r))) one

  pub few_between : (tables before after : ℕ) (rows : List ChunkTableRow) → before ≡ length (rows_before low rows) → after ≡ length (filter (is_until high) rows) → after - before ≤ tables → length (rows_between low high rows) ≤ tables
  few_between tables before after rows before_is after_is few = omega (arith, between_and_before rows, before_is, after_is, few)
