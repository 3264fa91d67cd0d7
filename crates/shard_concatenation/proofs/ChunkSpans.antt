-- The rows of the chunk table before two cuts, between them and behind them: those between, merged, are a span of it.
use Rattle.std.proofs.Common.{◌≡◌, ℕ, zero, suc, ◌+◌, ◌*◌, ◌<◌, ◌≤◌, ◌⊎◌, inl, inr, Bool, true, false, cond, List, [], ◌∷◌, ◌++◌, length, flat_map, take, get_or, Option, Some, None, refl, sym, ap, ◌∙◌, subst, append_assoc, add-one, arith}
use Rattle.std.specs.Prelude.{All, IfSome, filter, not}
use Rattle.std.specs.List.{AllByRecursion}
use Rattle.std.specs.List.Sorted.{IsPermutation, IsStrictlySortedBy}
use Rattle.std.specs.Ordering.{is_lt}
use Rattle.std.specs.declared.cmp.Ordering.TheVariants.{Less}
use Rattle.std.proofs.lemmas.Bool.{ltb-true, ltb-false}
use Rattle.std.proofs.lemmas.List.{length-append, nil_from_length}
use Rattle.std.proofs.lemmas.List.Elements.{All-tail, All-append, All-filter, All-weaker, filter_passes}
use Rattle.std.proofs.lemmas.List.Filters.{length-filter_both}
use Rattle.std.proofs.lemmas.List.Kept.{IsStrictlySortedBy-filter}
use Rattle.std.proofs.lemmas.List.Sorted.{IsPermutation-trans, IsPermutation-sym, IsPermutation-append_left, IsPermutation-append_right, IsPermutation-filter_both, All-permutation, length_permutation}
use Rattle.std.proofs.lemmas.Grind.{flat_map-append}
use Rattle.xet_records.specs.declared.xorb_structs.MDBXorbInfo.{MDBXorbInfo}
use Rattle.xet_shards.specs.declared.shard_format.write.xorb_writer.ChunkTableRow.{ChunkTableRow}
use Rattle.xet_shards.specs.Write.Tables.{chunk_table_row_cmp, chunk_table_row_bytes, chunk_table_rows, chunk_table, chunk_table_bytes}
use Rattle.xet_shards.proofs.Write.ChunkSorting.{sorted_is_table, table_moved}
use Rattle.xet_shards.proofs.Write.TableOrder.{chunk_table-sorted}
use Rattle.shard_concatenation.specs.declared.spans.ChunkSpan.{ChunkSpan}
use Rattle.shard_concatenation.specs.Steps.ChunkMerging.{InOrder, Merges}
use Rattle.shard_concatenation.specs.Steps.ChunkCuts.{is_before, is_behind, is_until, rows_before, rows_behind, rows_between}
use Rattle.shard_concatenation.specs.Steps.SpansSteps.{IsChunkSpan}
use Rattle.shard_concatenation.proofs.ChunkMerging.{row_cmp-reverse}
use Rattle.shard_concatenation.proofs.PartFilling.{whole_put}
use Rattle.shard_concatenation.proofs.ChunkChecking.{length-table}
use Rattle.shard_concatenation.proofs.TableMerge.{word_above}
use Rattle.shard_concatenation.proofs.ChunkCuts.{filter_none, filter_permutation, length-filter-le}

-- the rows of a list in order, one after another
in_order_cons : (x : ChunkTableRow) (xs : List ChunkTableRow) → ((d : ChunkTableRow) → 0 < length xs → is_lt (chunk_table_row_cmp (get_or xs 0 d) x) ≡ false) → InOrder xs → InOrder (x ∷ xs)
in_order_cons x xs first up zero d low below = first d (omega (arith, below))
in_order_cons x xs first up (suc k) d low below = rw add-one (rw add-one at (up k d (omega arith) (omega (arith, below))))

in_order_tail : (x : ChunkTableRow) (xs : List ChunkTableRow) → InOrder (x ∷ xs) → InOrder xs
in_order_tail x xs up k d low below = rw add-one (rw add-one at (up (suc k) d (omega arith) (omega (arith, below))))

in_order_append : (xs ys : List ChunkTableRow) → InOrder xs → InOrder ys → All (λ x. All (λ y. is_lt (chunk_table_row_cmp y x) ≡ false) ys) xs → InOrder (xs ++ ys)
in_order_append [] ys up up_ys apart = up_ys
in_order_append (x ∷ []) ys up up_ys apart = in_order_cons x ys (λ d some. apart 0 x (omega arith) 0 d some) up_ys
in_order_append (x ∷ z ∷ xs) ys up up_ys apart =
    in_order_cons x (z ∷ xs ++ ys) (λ d some. up 0 d (omega arith) (omega arith))
    (in_order_append (z ∷ xs) ys (in_order_tail x (z ∷ xs) up) up_ys (All-tail (λ x. All (λ y. is_lt (chunk_table_row_cmp y x) ≡ false) ys) x (z ∷ xs) apart))

not_less : (x : ChunkTableRow) (xs : List ChunkTableRow) → AllByRecursion (λ y. chunk_table_row_cmp x y ≡ Less) xs → (d : ChunkTableRow) → 0 < length xs → is_lt (chunk_table_row_cmp (get_or xs 0 d) x) ≡ false
not_less x [] all d some = absurd (omega (arith, some))
not_less x (y ∷ xs) all d some = ap is_lt (row_cmp-reverse x y Less all.0)

in_order_strict : (rows : List ChunkTableRow) → IsStrictlySortedBy chunk_table_row_cmp rows → InOrder rows
unfolding IsStrictlySortedBy
in_order_strict [] up = λ k d low below. absurd (omega (arith, below))
in_order_strict (r ∷ rows) up = in_order_cons r rows (not_less r rows up.0) (in_order_strict rows up.1)

words_apart : (word : ℕ) (xs ys : List ChunkTableRow) → All (λ r. r.word < word) xs → All (λ r. word ≤ r.word) ys → All (λ x. All (λ y. is_lt (chunk_table_row_cmp y x) ≡ false) ys) xs
words_apart word xs ys low high i d i_in j e j_in = word_above (get_or ys j e) (get_or xs i d) (omega (arith, low i d i_in, high j e j_in))

all_before : (word : ℕ) (rows : List ChunkTableRow) → All (λ r. r.word < word) (rows_before word rows)
all_before word rows = All-weaker (λ r. is_before word r ≡ true) (λ r. r.word < word) (λ r e. ltb-true r.word word e) (rows_before word rows) (filter_passes (is_before word) rows)

not_not : (b : Bool) → not b ≡ true → b ≡ false
not_not true e = sym e
not_not false e = refl

all_behind : (word : ℕ) (rows : List ChunkTableRow) → All (λ r. word ≤ r.word) (rows_behind word rows)
all_behind word rows =
    All-weaker (λ r. is_behind word r ≡ true) (λ r. word ≤ r.word) (λ r e. ltb-false r.word word (not_not (is_before word r) e)) (rows_behind word rows) (filter_passes (is_behind word) rows)

-- the rows before the second of two cuts are before the first or between them
module _ (low word : ℕ) (r : ChunkTableRow) (rows : List ChunkTableRow) (less : length (rows_before word rows) ≤ length (rows_before low rows) + length (rows_before word (rows_behind low rows))) where
  at_most : (a : Bool) → length (cond a (r ∷ rows_before word rows) (rows_before word rows)) ≤ suc (length (rows_before word rows))
  at_most true = omega arith
  at_most false = omega arith

  alike : (a : Bool) → length (cond a (r ∷ rows_before word rows) (rows_before word rows))
      ≤ length (rows_before low rows) + length (cond a (r ∷ rows_before word (rows_behind low rows)) (rows_before word (rows_behind low rows)))
  alike true = omega (arith, less)
  alike false = less

  one_over : (b : Bool) → length (rows_before word (r ∷ rows))
      ≤ length (cond b (r ∷ rows_before low rows) (rows_before low rows)) + length (rows_before word (cond (not b) (r ∷ rows_behind low rows) (rows_behind low rows)))
  one_over true = omega (arith, at_most (is_before word r), less)
  one_over false = alike (is_before word r)

count_over : (low word : ℕ) (rows : List ChunkTableRow) → length (rows_before word rows) ≤ length (rows_before low rows) + length (rows_between low (Some word) rows)
count_over low word [] = omega arith
count_over low word (r ∷ rows) = one_over low word r rows (count_over low word rows) (is_before low r)

-- the rows between two cuts are among those that are not before the first
pub between_others : (low : ℕ) (high : Option ℕ) (rows : List ChunkTableRow) → length (rows_between low high rows) + length (rows_before low rows) ≤ length rows
between_others low high rows = omega (arith, length-filter-le (is_until high) (rows_behind low rows), length-filter_both (is_before low) (is_behind low) (λ r. refl) rows)

-- rows that were merged into a slice of their size
pub merged_whole : (rows all : List ChunkTableRow) (out items : List ℕ) (end : ℕ) → all ≡ rows → Merges all (Some []) (Some (take end out)) → length out ≡ 16 * length all → end ≤ length out → items ≡ out → Merges rows (Some []) (Some items)
merged_whole rows all out items end all_is merges size within items_are = record {
  sorted = merges.sorted;
  moved = subst (λ rs. IsPermutation rs merges.sorted) all_is merges.moved;
  in_order = merges.in_order;
  written = items_are ∙ whole_put out (flat_map chunk_table_row_bytes merges.sorted) end merges.written (omega (arith, size, length-table merges.sorted, length_permutation all merges.sorted merges.moved)) within;
}

-- the rows of a sorted chunk table before two cuts, between them and behind them
module _ (xorbs : List MDBXorbInfo) (all : List ChunkTableRow) (low : ℕ) (high : Option ℕ) (moved : IsPermutation (chunk_table_rows xorbs) all) where
  abbrev table : List ChunkTableRow
  table = chunk_table xorbs

  abbrev is_past : ChunkTableRow → Bool
  is_past r = not (is_until high r)

  abbrev front : List ChunkTableRow
  front = rows_before low table

  abbrev rest : List ChunkTableRow
  rest = rows_behind low table

  abbrev middle : List ChunkTableRow
  middle = filter (is_until high) rest

  abbrev back : List ChunkTableRow
  back = filter is_past rest

  table_is_all : IsPermutation table all
  table_is_all = IsPermutation-trans table (chunk_table_rows xorbs) all (IsPermutation-sym (chunk_table_rows xorbs) table (table_moved xorbs)) moved

  front_length : length front ≡ length (rows_before low all)
  front_length = sym (length_permutation front (rows_before low all) (filter_permutation (is_before low) table all table_is_all))

  middle_is : IsPermutation middle (rows_between low high all)
  middle_is = filter_permutation (is_until high) rest (rows_behind low all) (filter_permutation (is_behind low) table all table_is_all)

  nothing_past : high ≡ None → back ≡ []
  nothing_past is = ap (λ h. filter (λ r. not (is_until h r)) rest) is ∙ filter_none (λ r. not (is_until None r)) rest (λ k d below. refl)

  module _ (sorted : List ChunkTableRow) (sorts : IsPermutation (rows_between low high all) sorted) (up : InOrder sorted) where
    middle_sorted : IsPermutation middle sorted
    middle_sorted = IsPermutation-trans middle (rows_between low high all) sorted middle_is sorts

    all_there : IsPermutation (chunk_table_rows xorbs) (front ++ (sorted ++ back))
    all_there =
        IsPermutation-trans (chunk_table_rows xorbs) table (front ++ (sorted ++ back)) (table_moved xorbs)
        (IsPermutation-trans table (front ++ rest) (front ++ (sorted ++ back)) (IsPermutation-filter_both (is_before low) (is_behind low) (λ r. refl) table)
        (IsPermutation-append_right front rest (sorted ++ back)
        (IsPermutation-trans rest (middle ++ back) (sorted ++ back) (IsPermutation-filter_both (is_until high) is_past (λ r. refl) rest) (IsPermutation-append_left back middle sorted middle_sorted))))

    rest_sorted : IsStrictlySortedBy chunk_table_row_cmp rest
    rest_sorted = IsStrictlySortedBy-filter chunk_table_row_cmp (is_behind low) table (chunk_table-sorted xorbs)

    sorted_behind : All (λ r. low ≤ r.word) sorted
    sorted_behind = All-permutation (λ r. low ≤ r.word) middle sorted middle_sorted (All-filter (is_until high) (λ r. low ≤ r.word) rest (all_behind low table))

    back_apart : All (λ x. All (λ y. is_lt (chunk_table_row_cmp y x) ≡ false) back) sorted
    back_apart = go high refl
      where
        go : (h : Option ℕ) → high ≡ h → All (λ x. All (λ y. is_lt (chunk_table_row_cmp y x) ≡ false) back) sorted
        go None is = λ i d i_in. subst (All (λ y. is_lt (chunk_table_row_cmp y (get_or sorted i d)) ≡ false)) (sym (nothing_past is)) (λ j e j_in. absurd (omega (arith, j_in)))
        go (Some word) is =
            words_apart word sorted back
            (All-permutation (λ r. r.word < word) middle sorted middle_sorted (subst (λ h. All (λ r. r.word < word) (filter (is_until h) rest)) (sym is) (all_before word rest)))
            (subst (λ h. All (λ r. word ≤ r.word) (filter (λ r. not (is_until h r)) rest)) (sym is) (all_behind word rest))

    table_cut : table ≡ front ++ (sorted ++ back)
    table_cut =
        sorted_is_table xorbs (chunk_table_rows xorbs) (front ++ (sorted ++ back)) refl all_there
        (in_order_append front (sorted ++ back) (in_order_strict front (IsStrictlySortedBy-filter chunk_table_row_cmp (is_before low) table (chunk_table-sorted xorbs)))
        (in_order_append sorted back up (in_order_strict back (IsStrictlySortedBy-filter chunk_table_row_cmp is_past rest rest_sorted)) back_apart)
        (words_apart low front (sorted ++ back) (all_before low table)
        (All-append (λ r. low ≤ r.word) sorted back sorted_behind (All-filter is_past (λ r. low ≤ r.word) rest (all_behind low table)))))

-- the rows that were merged between two cuts are all that a span has of the chunk table
module _ (xorbs : List MDBXorbInfo) (all : List ChunkTableRow) (low : ℕ) (high : Option ℕ) (start from until last : ℕ) (chunks : ChunkSpan) (moved : IsPermutation (chunk_table_rows xorbs) all)
    (merges : Merges (rows_between low high all) (Some []) (Some chunks.rows.items)) (before_is : chunks.before ≡ 16 * length (rows_before low all))
    (before_out : 0 < length (rows_before low all) → start + 16 * length (rows_before low all) ≤ from) (behind_out : IfSome high (λ word. last < length (rows_before word all))) (last_is : until ≤ start + 16 * last + 16) where
  abbrev front_rows : List ChunkTableRow
  front_rows = front xorbs all low high moved

  abbrev back_rows : List ChunkTableRow
  back_rows = back xorbs all low high moved

  abbrev bytes : List ChunkTableRow → List ℕ
  bytes = flat_map chunk_table_row_bytes

  length-front : length (bytes front_rows) ≡ 16 * length (rows_before low all)
  length-front = length-table front_rows ∙ ap (λ n. 16 * n) (front_length xorbs all low high moved)

  span_table : chunk_table_bytes xorbs ≡ (bytes front_rows ++ chunks.rows.items) ++ bytes back_rows
  unfolding chunk_table_bytes
  span_table =
      ap bytes (table_cut xorbs all low high moved merges.sorted merges.moved merges.in_order) ∙ flat_map-append chunk_table_row_bytes front_rows (merges.sorted ++ back_rows)
      ∙ ap (λ l. bytes front_rows ++ l) (flat_map-append chunk_table_row_bytes merges.sorted back_rows ∙ ap (λ l. l ++ bytes back_rows) (sym merges.written))
      ∙ sym (append_assoc (bytes front_rows) chunks.rows.items (bytes back_rows))

  front_out : (n : ℕ) → length (rows_before low all) ≡ n → (bytes front_rows ≡ []) ⊎ (start + length (bytes front_rows) ≤ from)
  front_out zero is = inl (nil_from_length (bytes front_rows) (omega (arith, length-front, is)))
  front_out (suc n) is = inr (omega (arith, length-front, is, before_out (omega (arith, is))))

  back_out : (h : Option ℕ) → high ≡ h → (bytes back_rows ≡ []) ⊎ (until ≤ start + length (bytes front_rows ++ chunks.rows.items))
  back_out None is = inl (ap bytes (nothing_past xorbs all low high moved is))
  back_out (Some word) is =
      let over = count_over low word all in
      let past : last < length (rows_before word all) = subst (λ h. IfSome h (λ word. last < length (rows_before word all))) is behind_out in
      let merged : length chunks.rows.items ≡ 16 * length (rows_between low (Some word) all) =
      ap length merges.written ∙ length-table merges.sorted ∙ ap (λ n. 16 * n) (length_permutation (rows_between low high all) merges.sorted merges.moved ∙ ap (λ h. length (rows_between low h all)) is) in
      inr (omega (arith, over, past, merged, last_is, length-front, length-append (bytes front_rows) chunks.rows.items))

  pub span_between : IsChunkSpan (chunk_table_bytes xorbs) start from until chunks
  span_between = record {
    front = bytes front_rows;
    back = bytes back_rows;
    table_is = span_table;
    before_is = before_is ∙ sym length-front;
    front_out = front_out (length (rows_before low all)) refl;
    back_out = back_out high refl;
  }
