-- Chunk tables whose rows stand in another order, and layouts with such a table.
use Rattle.std.proofs.Common.{◌≡◌, ◌≢◌, ◌⊎◌, inl, inr, Bool, true, false, ℕ, ◌+◌, ◌-◌, ◌*◌, ◌<◌, ◌≤◌, List, [], ◌∷◌, ◌++◌, length, flat_map, take, drop, get_or, refl, sym, ap, ◌∙◌, subst, append_assoc, append-nil, arith}
use Rattle.std.specs.Prelude.{All}
use Rattle.std.specs.Cmp.{ranks}
use Rattle.std.specs.List.{slice_range}
use Rattle.std.specs.List.Sorted.{IsPermutation}
use Rattle.std.specs.Ordering.{MatchOrdering, nat_cmp, ordering_then}
use Rattle.std.specs.declared.cmp.Ordering.{Ordering}
use Rattle.std.specs.declared.cmp.Ordering.TheVariants.{Less, Equal, Greater}
use Rattle.std.proofs.Math.Seq.{take-add}
use Rattle.std.proofs.Math.Nat.{eq-or-lt_of_le}
use Rattle.std.proofs.lemmas.List.{length-append, length-map, get_or-map, get_or_default, take-append-drop, take-take, drop-take}
use Rattle.std.proofs.lemmas.List.Folds.{drop_split}
use Rattle.std.proofs.lemmas.List.Sorted.{IsPermutation-refl, IsPermutation-sym, IsPermutation-trans, All-permutation, length_permutation}
use Rattle.std.proofs.lemmas.Map.Keys.{Less-from_sorted}
use Rattle.xet_base.specs.Bytes.{u32_bytes, u64_bytes}
use Rattle.xet_base.proofs.Bytes.{length-u32_bytes, length-u64_bytes}
use Rattle.xet_base.proofs.Lists.{front_is, rest_is, parts_front}
use Rattle.xet_core_structures.specs.declared.file_structs.MDBFileInfo.{MDBFileInfo}
use Rattle.xet_core_structures.specs.declared.xorb_structs.MDBXorbInfo.{MDBXorbInfo}
use Rattle.xet_core_structures.specs.declared.shard_format.MDBShardFileFooter.{MDBShardFileFooter}
use Rattle.xet_core_structures.specs.declared.shard_format.MDBShardInfo.{MDBShardInfo}
use Rattle.xet_core_structures.specs.Ends.{HasHeaderAndFooter}
use Rattle.xet_core_structures.specs.FileRecord.{file_records}
use Rattle.xet_core_structures.specs.Layout.{if_included, footer_value, header_value, layout_of, shard_footer_bytes, shard_header_bytes}
use Rattle.xet_core_structures.specs.WithOptions.{FitsSection}
use Rattle.xet_core_structures.specs.XorbRecord.{xorb_records}
use Rattle.xet_shards.specs.declared.shard_writer.LayoutOptions.{LayoutOptions}
use Rattle.xet_shards.specs.Read.TableReading.{FitsTriple, triple_of}
use Rattle.xet_shards.specs.Write.Section.{section_bytes}
use Rattle.xet_shards.specs.declared.shard_writer.ChunkTableRow.{ChunkTableRow}
use Rattle.xet_shards.specs.Write.Tables.{chunk_table, chunk_table_rows, chunk_table_bytes, chunk_table_row_bytes, chunk_table_row_cmp, table_bytes}
use Rattle.xet_shards.proofs.Export.KeyedExport.{footer_last}
use Rattle.xet_shards.proofs.Write.ChunkSorting.{sorted_is_table, table_moved}
use Rattle.xet_shards.proofs.Write.Layouts.{length-shard_header_bytes}
use Rattle.xet_shards.proofs.Write.TableOrder.{chunk_table-sorted}
use Rattle.xet_shards.proofs.Write.WrittenTables.{triple_injective, chunk_table_fits}
use Rattle.shard_bytes.specs.Checking.{IsReordering, IsReorderedTable, WordsAscend, layout_with}
use Rattle.shard_bytes.specs.Steps.CheckingSteps.{IsSortedOf, IsWritten, IsWrittenTable, ReadsRows}

-- the bytes of a row are 16, and determine it
length-row : (row : ChunkTableRow) → length (chunk_table_row_bytes row) ≡ 16
length-row row =
    omega (
      arith,
      length-append (u64_bytes row.word ++ u32_bytes row.row) (u32_bytes row.index),
      length-append (u64_bytes row.word) (u32_bytes row.row),
      length-u64_bytes row.word,
      length-u32_bytes row.row,
      length-u32_bytes row.index,
    )

pub length-rows : (rows : List ChunkTableRow) → length (flat_map chunk_table_row_bytes rows) ≡ 16 * length rows
length-rows [] = refl
length-rows (row ∷ rows) = omega (arith, length-append (chunk_table_row_bytes row) (flat_map chunk_table_row_bytes rows), length-row row, length-rows rows)

abbrev pub FitsRow : ChunkTableRow → Type 0
FitsRow row = FitsTriple (triple_of row)

row_injective : (a b : ChunkTableRow) → FitsRow a → FitsRow b → chunk_table_row_bytes a ≡ chunk_table_row_bytes b → a ≡ b
row_injective a b a_fits b_fits same =
    let e = triple_injective (triple_of a) (triple_of b) a_fits b_fits same in
    λ i. record { word = (e i).0; row = (e i).1.0; index = (e i).1.1 }

pub same_rows : (rs ts : List ChunkTableRow) → All FitsRow rs → All FitsRow ts → flat_map chunk_table_row_bytes rs ≡ flat_map chunk_table_row_bytes ts → rs ≡ ts
same_rows rs ts r_fit t_fit same =
    let count : length rs ≡ length ts = omega (arith, length-rows rs, length-rows ts, ap length same) in
    (parts_front 16 chunk_table_row_bytes FitsRow (λ row fits. length-row row) row_injective rs ts [] [] count r_fit t_fit
    (append-nil (flat_map chunk_table_row_bytes rs) ∙ same ∙ sym (append-nil (flat_map chunk_table_row_bytes ts)))).0

-- the first words of the library's rows ascend
word_below : (a b : ChunkTableRow) → chunk_table_row_cmp a b ≡ Less → a.word ≤ b.word
word_below a b less = by_words (nat_cmp a.word b.word) (ranks a.word b.word) less
  where
    rest : Ordering
    rest = ordering_then (nat_cmp a.row b.row) (nat_cmp a.index b.index)

    not_less : Greater ≢ Less
    not_less same = cc

    by_words : (o : Ordering) → MatchOrdering o (a.word < b.word) (a.word ≡ b.word) (b.word < a.word) → ordering_then o rest ≡ Less → a.word ≤ b.word
    by_words Less below is = omega (arith, below)
    by_words Equal same is = omega (arith, same)
    by_words Greater above is = absurd (not_less is)

-- words that ascend up to one, and it is not below the one before; or it is
module _ (rows : List ChunkTableRow) (next : ℕ) (e : ChunkTableRow) (some : 1 ≤ next) (within : next < length rows) where
  at_next : (d : ChunkTableRow) → (get_or rows next d).word ≡ (get_or rows next e).word
  at_next d = ap (λ (row : ChunkTableRow). row.word) (get_or_default rows next d e within)

  before_next : (d : ChunkTableRow) → (get_or rows (next - 1) d).word ≡ (get_or rows (next - 1) e).word
  before_next d = ap (λ (row : ChunkTableRow). row.word) (get_or_default rows (next - 1) d e (omega arith))

  pub one_more_word : ((k : ℕ) (d : ChunkTableRow) → k + 1 < next → (get_or rows k d).word ≤ (get_or rows (k + 1) d).word) → (get_or rows (next - 1) e).word ≤ (get_or rows next e).word
      → (k : ℕ) (d : ChunkTableRow) → k + 1 < next + 1 → (get_or rows k d).word ≤ (get_or rows (k + 1) d).word
  one_more_word before here k d below = by_place (eq-or-lt_of_le (omega (arith, below)))
    where
      by_place : (k + 1 ≡ next) ⊎ (k + 1 < next) → (get_or rows k d).word ≤ (get_or rows (k + 1) d).word
      by_place (inr earlier) = before k d earlier
      by_place (inl last) =
          let first : next - 1 ≡ k = omega (arith, last) in
          let lower : (get_or rows k d).word ≡ (get_or rows (next - 1) e).word = ap (λ n. (get_or rows n d).word) (sym first) ∙ before_next d in
          let upper : (get_or rows (k + 1) d).word ≡ (get_or rows next e).word = ap (λ n. (get_or rows n d).word) last ∙ at_next d in
          omega (arith, lower, upper, here)

  pub word_descends : (get_or rows next e).word < (get_or rows (next - 1) e).word → ¬ WordsAscend rows
  word_descends less ascends =
      let last : next - 1 + 1 ≡ next = omega (arith, some) in
      let here : (get_or rows (next - 1) e).word ≤ (get_or rows (next - 1 + 1) e).word = ascends (next - 1) e (omega (arith, within, some)) in
      omega (arith, less, here, ap (λ n. (get_or rows n e).word) last)

pub words_of_table : (xorbs : List MDBXorbInfo) → WordsAscend (chunk_table xorbs)
words_of_table xorbs k d below =
    word_below (get_or (chunk_table xorbs) k d) (get_or (chunk_table xorbs) (k + 1) d)
    (Less-from_sorted chunk_table_row_cmp (chunk_table xorbs) k (k + 1) d (chunk_table-sorted xorbs) (omega arith) below)

pub reordering_of_itself : (xorbs : List MDBXorbInfo) → IsReordering (chunk_table xorbs) (chunk_table xorbs)
reordering_of_itself xorbs = record { moved = IsPermutation-refl (chunk_table xorbs); ascends = words_of_table xorbs }

pub reordering_of_none : IsReordering [] []
reordering_of_none = record { moved = IsPermutation-refl []; ascends = λ k d below. absurd (omega (arith, below)) }

pub table_fits : (xorbs : List MDBXorbInfo) → FitsSection xorb_records xorbs → All FitsRow (chunk_table xorbs)
table_fits xorbs fit k d below =
    subst FitsTriple (get_or-map triple_of (chunk_table xorbs) k d (triple_of d) below)
    (chunk_table_fits xorbs (λ i r within. (fit.stored i r within).widths) fit.rows k (triple_of d) (omega (arith, below, length-map (chunk_table xorbs) triple_of)))

pub table_is : (xorbs : List MDBXorbInfo) → chunk_table_bytes xorbs ≡ flat_map chunk_table_row_bytes (chunk_table xorbs)
unfolding chunk_table_bytes
table_is xorbs = refl

-- the table that was written is a reordering of itself
pub alike_itself : (table : List ℕ) → IsWrittenTable table → IsReorderedTable table table
alike_itself table (xorbs, fit, are) =
    let rows = are ∙ table_is xorbs in
    record {
      rows = chunk_table xorbs;
      others = chunk_table xorbs;
      written_are = rows;
      found_are = rows;
      widths = table_fits xorbs fit;
      reordering = reordering_of_itself xorbs;
    }

no_elements : {X : Type 0} (xs : List X) → length xs ≡ 0 → xs ≡ []
no_elements [] is = refl
no_elements (x ∷ xs) is = absurd (omega (arith, is))

-- the rows of bytes that are as many as those of rows are all of them
all_rows : (bytes : List ℕ) (rows : List ChunkTableRow) (n : ℕ) → ReadsRows bytes rows → length bytes ≡ 16 * n → bytes ≡ flat_map chunk_table_row_bytes rows
all_rows bytes rows n reads count = reads.bytes_are ∙ ap (λ zs. flat_map chunk_table_row_bytes rows ++ zs) (no_elements reads.rest none) ∙ append-nil (flat_map chunk_table_row_bytes rows)
  where
    none : length reads.rest ≡ 0
    none = omega (arith, reads.few, count, ap length reads.bytes_are, length-append (flat_map chunk_table_row_bytes rows) reads.rest, length-rows rows)

-- the rows of a table that is as long as the one that was written
module _ (written found : List ℕ) (is_written : IsWrittenTable written) (found_rows : List ChunkTableRow) (size : length found ≡ length written) (reads_found : ReadsRows found found_rows) where
  abbrev xorbs : List MDBXorbInfo
  xorbs = is_written.0

  written_size : length written ≡ 16 * length (chunk_table xorbs)
  written_size = ap length (is_written.2 ∙ table_is xorbs) ∙ length-rows (chunk_table xorbs)

  found_is : found ≡ flat_map chunk_table_row_bytes found_rows
  found_is = all_rows found found_rows (length (chunk_table xorbs)) reads_found (size ∙ written_size)

  others_are : (is : IsReorderedTable written found) → is.others ≡ found_rows
  others_are is = same_rows is.others found_rows (All-permutation FitsRow is.rows is.others is.reordering.moved is.widths) reads_found.widths (sym is.found_are ∙ found_is)

  pub found_ascends : IsReorderedTable written found → WordsAscend found_rows
  found_ascends is = subst WordsAscend (others_are is) is.reordering.ascends

  -- the rows of both, and the first ones sorted
  module _ (written_rows sorted : List ChunkTableRow) (reads_written : ReadsRows written written_rows) (sorts : IsSortedOf found_rows sorted) where
    written_is : written ≡ flat_map chunk_table_row_bytes written_rows
    written_is = all_rows written written_rows (length (chunk_table xorbs)) reads_written written_size

    is_table : written_rows ≡ chunk_table xorbs
    is_table = same_rows written_rows (chunk_table xorbs) reads_written.widths (table_fits xorbs is_written.1) (sym written_is ∙ is_written.2 ∙ table_is xorbs)

    pub table_is_reordered : WordsAscend found_rows → sorted ≡ written_rows → IsReorderedTable written found
    table_is_reordered ascends same = record {
      rows = written_rows;
      others = found_rows;
      written_are = written_is;
      found_are = found_is;
      widths = reads_written.widths;
      reordering = record { moved = IsPermutation-sym found_rows written_rows (subst (IsPermutation found_rows) same sorts.moved); ascends = ascends };
    }

    pub sorted_same : IsReorderedTable written found → sorted ≡ written_rows
    sorted_same is =
        let rows_are : is.rows ≡ chunk_table xorbs = same_rows is.rows (chunk_table xorbs) is.widths (table_fits xorbs is_written.1) (sym is.written_are ∙ is_written.2 ∙ table_is xorbs) in
        let moved : IsPermutation (chunk_table xorbs) found_rows = subst (IsPermutation (chunk_table xorbs)) (others_are is) (subst (λ rs. IsPermutation rs is.others) rows_are is.reordering.moved) in
        let all = IsPermutation-trans (chunk_table_rows xorbs) (chunk_table xorbs) sorted (table_moved xorbs) (IsPermutation-trans (chunk_table xorbs) found_rows sorted moved sorts.moved) in
        sym (sorted_is_table xorbs (chunk_table_rows xorbs) sorted refl all sorts.ascends) ∙ sym is_table

-- tables of different sizes are no reorderings
pub same_size : (written found : List ℕ) → IsReorderedTable written found → length found ≡ length written
same_size written found is =
    ap length is.found_are ∙ length-rows is.others ∙ ap (λ n. 16 * n) (length_permutation is.rows is.others is.reordering.moved) ∙ sym (length-rows is.rows) ∙ sym (ap length is.written_are)

-- fronts of two lists, and the parts after them
pub front_more : (xs ys : List ℕ) (a b : ℕ) → a ≤ b → take a xs ≡ take a ys → slice_range xs a b ≡ slice_range ys a b → take b xs ≡ take b ys
front_more xs ys a b below front part =
    let at : a + (b - a) ≡ b = omega (arith, below) in
    ap (λ n. take n xs) (sym at) ∙ take-add a (b - a) xs ∙ (λ i. front i ++ part i) ∙ sym (take-add a (b - a) ys) ∙ ap (λ n. take n ys) at

-- a part within a front
within_front : (xs : List ℕ) (a b c : ℕ) → a ≤ b → b ≤ c → slice_range xs a b ≡ drop a (take b (take c xs))
within_front xs a b c ascend below =
    let at : a + (b - a) ≡ b = omega (arith, ascend) in
    sym (drop-take a (b - a) xs) ∙ ap (λ n. drop a (take n xs)) at ∙ ap (drop a) (sym (take-take b c xs below))

-- what is said of a layout with its chunk table in any order
module _ (files : List MDBFileInfo) (xorbs : List MDBXorbInfo) (options : LayoutOptions) (rows : List ChunkTableRow) where
  abbrev footer : MDBShardFileFooter
  footer = footer_value files xorbs options

  abbrev front : List ℕ
  front =
      (((shard_header_bytes (header_value options.version) ++ section_bytes file_records files) ++ section_bytes xorb_records xorbs) ++ if_included options.file_table (table_bytes file_records files))
      ++ if_included options.xorb_table (table_bytes xorb_records xorbs)

  abbrev pub own_table : List ℕ
  own_table = if_included options.chunk_table (chunk_table_bytes xorbs)

  abbrev pub other_table : List ℕ
  other_table = if_included options.chunk_table (flat_map chunk_table_row_bytes rows)

  abbrev end : List ℕ
  end = shard_footer_bytes footer

  split_own : layout_of files xorbs options ≡ front ++ (own_table ++ end)
  unfolding layout_of
  split_own = append_assoc front own_table end

  split_other : layout_with files xorbs options rows ≡ front ++ (other_table ++ end)
  unfolding layout_with
  split_other = append_assoc front other_table end

  length-front : length front ≡ footer.chunk_lookup_offset
  length-front = simp (length-append, length-shard_header_bytes)

  end_at : footer.footer_offset - footer.chunk_lookup_offset ≡ length own_table
  end_at = omega arith

  pub own_front : take footer.chunk_lookup_offset (layout_of files xorbs options) ≡ front
  own_front = front_is footer.chunk_lookup_offset (layout_of files xorbs options) front (own_table ++ end) length-front split_own

  pub own_slice : slice_range (layout_of files xorbs options) footer.chunk_lookup_offset footer.footer_offset ≡ own_table
  own_slice =
      front_is (footer.footer_offset - footer.chunk_lookup_offset) (drop footer.chunk_lookup_offset (layout_of files xorbs options)) own_table end (sym end_at)
      (rest_is footer.chunk_lookup_offset (layout_of files xorbs options) front (own_table ++ end) length-front split_own)

  pub own_end : drop footer.footer_offset (layout_of files xorbs options) ≡ end
  own_end =
      rest_is footer.footer_offset (layout_of files xorbs options) (front ++ own_table) end (length-append front own_table ∙ omega (arith, length-front, end_at)) (split_own ∙ sym (append_assoc front own_table end))

  -- bytes that are those of the layout before the table and after it, and have these rows between
  pub put_together : (bytes : List ℕ) → take footer.chunk_lookup_offset bytes ≡ take footer.chunk_lookup_offset (layout_of files xorbs options)
      → slice_range bytes footer.chunk_lookup_offset footer.footer_offset ≡ other_table → drop footer.footer_offset bytes ≡ drop footer.footer_offset (layout_of files xorbs options)
      → bytes ≡ layout_with files xorbs options rows
  put_together bytes before table after =
      let c = footer.chunk_lookup_offset in
      sym (take-append-drop c bytes) ∙ ap (λ zs. take c bytes ++ zs) (drop_split bytes c footer.footer_offset (omega arith))
      ∙ (λ i. (before ∙ own_front) i ++ (table i ++ (after ∙ own_end) i)) ∙ sym split_other

  module _ (reordering : IsReordering (chunk_table xorbs) rows) where
    table_size : (b : Bool) → length (if_included b (flat_map chunk_table_row_bytes rows)) ≡ length (if_included b (chunk_table_bytes xorbs))
    table_size false = refl
    table_size true =
        length-rows rows ∙ ap (λ n. 16 * n) (length_permutation (chunk_table xorbs) rows reordering.moved) ∙ sym (length-rows (chunk_table xorbs)) ∙ ap length (sym (table_is xorbs))

    pub other_size : length (layout_with files xorbs options rows) ≡ length (layout_of files xorbs options)
    other_size =
        ap length split_other ∙ length-append front (other_table ++ end) ∙ omega (arith, length-append other_table end, length-append own_table end, length-append front (own_table ++ end), ap length split_own, table_size options.chunk_table)

    other_front : take footer.chunk_lookup_offset (layout_with files xorbs options rows) ≡ front
    other_front = front_is footer.chunk_lookup_offset (layout_with files xorbs options rows) front (other_table ++ end) length-front split_other

    pub same_front : take footer.chunk_lookup_offset (layout_with files xorbs options rows) ≡ take footer.chunk_lookup_offset (layout_of files xorbs options)
    same_front = other_front ∙ sym own_front

    pub other_slice : slice_range (layout_with files xorbs options rows) footer.chunk_lookup_offset footer.footer_offset ≡ other_table
    other_slice =
        front_is (footer.footer_offset - footer.chunk_lookup_offset) (drop footer.chunk_lookup_offset (layout_with files xorbs options rows)) other_table end (table_size options.chunk_table ∙ sym end_at)
        (rest_is footer.chunk_lookup_offset (layout_with files xorbs options rows) front (other_table ++ end) length-front split_other)

    pub same_end : drop footer.footer_offset (layout_with files xorbs options rows) ≡ drop footer.footer_offset (layout_of files xorbs options)
    same_end =
        rest_is footer.footer_offset (layout_with files xorbs options rows) (front ++ other_table) end (length-append front other_table ∙ omega (arith, length-front, end_at, table_size options.chunk_table))
        (split_other ∙ sym (append_assoc front other_table end))
        ∙ sym own_end

    -- both have the same bytes before the table
    pub part_before : (a b : ℕ) → a ≤ b → b ≤ footer.chunk_lookup_offset → slice_range (layout_with files xorbs options rows) a b ≡ slice_range (layout_of files xorbs options) a b
    part_before a b ascend below =
        within_front (layout_with files xorbs options rows) a b footer.chunk_lookup_offset ascend below ∙ ap (λ zs. drop a (take b zs)) same_front
        ∙ sym (within_front (layout_of files xorbs options) a b footer.chunk_lookup_offset ascend below)

-- rows of a table that is alike to that of a layout
pub rows_found : (files : List MDBFileInfo) (xorbs : List MDBXorbInfo) (options : LayoutOptions) → FitsSection xorb_records xorbs → (bytes : List ℕ)
    → IsReorderedTable (slice_range (layout_of files xorbs options) (footer_value files xorbs options).chunk_lookup_offset (footer_value files xorbs options).footer_offset)
    (slice_range bytes (footer_value files xorbs options).chunk_lookup_offset (footer_value files xorbs options).footer_offset)
    → (rows : List ChunkTableRow) × IsReordering (chunk_table xorbs) rows
    × (slice_range bytes (footer_value files xorbs options).chunk_lookup_offset (footer_value files xorbs options).footer_offset ≡ if_included options.chunk_table (flat_map chunk_table_row_bytes rows))
rows_found files xorbs options fit bytes is =
    rows_if_table options.chunk_table (sym is.written_are ∙ own_slice files xorbs options [])
  where
    rows_if_table : (b : Bool) → flat_map chunk_table_row_bytes is.rows ≡ if_included b (chunk_table_bytes xorbs)
        → (rows : List ChunkTableRow) × IsReordering (chunk_table xorbs) rows
        × (slice_range bytes (footer_value files xorbs options).chunk_lookup_offset (footer_value files xorbs options).footer_offset ≡ if_included b (flat_map chunk_table_row_bytes rows))
    rows_if_table true rows_are =
        let same : is.rows ≡ chunk_table xorbs = same_rows is.rows (chunk_table xorbs) is.widths (table_fits xorbs fit) (rows_are ∙ table_is xorbs) in
        (is.others, subst (λ rows. IsReordering rows is.others) same is.reordering, is.found_are)
    rows_if_table false rows_are =
        let none : length is.others ≡ 0 = length_permutation is.rows is.others is.reordering.moved ∙ omega (arith, length-rows is.rows, ap length rows_are) in
        (chunk_table xorbs, reordering_of_itself xorbs, is.found_are ∙ ap (flat_map chunk_table_row_bytes) (no_elements is.others none))

-- bytes with the footer and the size of a layout end as it does
pub ends_alike : (bytes : List ℕ) (info : MDBShardInfo) (files : List MDBFileInfo) (xorbs : List MDBXorbInfo) (options : LayoutOptions) → HasHeaderAndFooter bytes info → info.metadata ≡ footer_value files xorbs options
    → length bytes ≡ length (layout_of files xorbs options) → drop (footer_value files xorbs options).footer_offset bytes ≡ drop (footer_value files xorbs options).footer_offset (layout_of files xorbs options)
ends_alike bytes info files xorbs options ends same size =
    let at : (footer_value files xorbs options).footer_offset ≡ length bytes - 200 = omega (arith, size, footer_last files xorbs options) in
    ap (λ n. drop n bytes) at ∙ ends.footer ∙ ap shard_footer_bytes same ∙ sym (own_end files xorbs options [])

no_rows : [] ≡ chunk_table_bytes []
no_rows =
    let few : length (chunk_table []) ≡ 0 = length_permutation (chunk_table_rows []) (chunk_table []) (table_moved []) in
    sym (no_elements (chunk_table_bytes []) (ap length (table_is []) ∙ length-rows (chunk_table []) ∙ ap (λ n. 16 * n) few))

-- the table of a layout is one that was written, if it is in, or that of no xorbs
pub written_table : (bytes : List ℕ) (f : MDBShardFileFooter) → IsWritten bytes f → IsWrittenTable (slice_range bytes f.chunk_lookup_offset f.footer_offset)
written_table bytes f is =
    table_in is.options.chunk_table
    ((λ i. slice_range (is.bytes_are i) (is.footer_is i).chunk_lookup_offset (is.footer_is i).footer_offset) ∙ own_slice is.files is.xorbs is.options [])
  where
    table_in : (b : Bool) → slice_range bytes f.chunk_lookup_offset f.footer_offset ≡ if_included b (chunk_table_bytes is.xorbs) → IsWrittenTable (slice_range bytes f.chunk_lookup_offset f.footer_offset)
    table_in true are = (is.xorbs, is.xorbs_fit, are)
    table_in false are = ([], record { stored = λ k r below. absurd (omega (arith, below)); rows = omega arith }, are ∙ no_rows)

-- a layout with its own table is the layout
pub with_own : (files : List MDBFileInfo) (xorbs : List MDBXorbInfo) (options : LayoutOptions) → layout_with files xorbs options (chunk_table xorbs) ≡ layout_of files xorbs options
unfolding layout_with layout_of chunk_table_bytes
with_own files some options = refl
