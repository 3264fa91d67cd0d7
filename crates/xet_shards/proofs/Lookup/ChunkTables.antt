-- The chunk table in written bytes, and what a search in it finds.
use Rattle.std.proofs.Common.{◌≡◌, ◌≢◌, true, ℕ, ◌<◌, ◌≤◌, List, [], ◌∷◌, ◌++◌, Ok, Err, length, drop, map, flat_map, get_or, min, refl, sym, ap, ◌∙◌, subst, append_assoc, arith}
use Rattle.std.specs.Prelude.{All, Contains, MatchResult, IfOk, IfErr}
use Rattle.std.specs.declared.result.Result.{Result}
use Rattle.std.specs.declared.cmp.Ordering.TheVariants.{Less}
use Rattle.std.proofs.lemmas.Cmp.{tied_itself}
use Rattle.std.proofs.lemmas.List.{get_or-map, length-map, length-append}
use Rattle.std.proofs.lemmas.List.Elements.{All-weaker, All-drop, All-map, Contains-get_or}
use Rattle.std.proofs.lemmas.List.Folds.{flat_map-map}
use Rattle.std.proofs.lemmas.Map.Keys.{Less-from_sorted}
use Rattle.xet_base.specs.declared.error.CoreError.{CoreError}
use Rattle.xet_base.specs.Bytes.{u32_bytes, u64_bytes}
use Rattle.xet_base.specs.Source.{Source, DeviceFailure}
use Rattle.xet_base.specs.Search.Table.{Table, table_at, Hit, IsHit, Finds, hits, IsSorted, SearchIsBounded, SearchRefused}
use Rattle.xet_base.proofs.Bytes.{length-u32_bytes, u32_bytes-front, u32_bytes-injective}
use Rattle.xet_records.specs.declared.file_structs.MDBFileInfo.{MDBFileInfo}
use Rattle.xet_records.specs.declared.xorb_structs.MDBXorbInfo.{MDBXorbInfo}
use Rattle.xet_shards.specs.declared.shard_format.ends.footer.MDBShardFileFooter.{MDBShardFileFooter}
use Rattle.xet_shards.specs.Write.Tables.{ChunkTableRow, chunk_table_row_cmp, chunk_table}
use Rattle.xet_shards.specs.Write.Layout.{LayoutOptions, if_included, footer_value}
use Rattle.xet_shards.specs.Write.WithOptions.{IsBytesWithOptions}
use Rattle.xet_shards.specs.Lookup.Lookup.{IsRowAndIndex}
use Rattle.xet_shards.specs.Read.TableReading.{triple_of, triple_row, FitsTriple}
use Rattle.xet_shards.specs.Lookup.WrittenChunks.{rows_with_word, RowsAmong, ChunkSearchCosts}
use Rattle.xet_shards.proofs.Content.Found.{first_ascends}
use Rattle.xet_shards.proofs.Write.WithOptions.{chunk_table_starts}
use Rattle.xet_shards.proofs.Lookup.KnownRows.{IsKnown, rows_sorted, rows_hit, search_served, row_hit}
use Rattle.xet_shards.proofs.Write.TableOrder.{chunk_table-sorted}
use Rattle.xet_shards.proofs.Write.Tables.{chunk_table_row_total}
use Rattle.xet_shards.proofs.Write.WrittenTables.{after_tables, chunk_table_there, chunk_table_is_at, chunk_table_fits}
use Rattle.xet_shards.proofs.Write.XorbLayouts.{xorb_rows-chunks, length-chunk_table}

-- a row for where a list has none
abbrev pub no_table_row : ChunkTableRow
no_table_row = record { word = 0; row = 0; index = 0 }

abbrev pub word_of : ChunkTableRow → ℕ
word_of p = p.word

abbrev pub numbers_of : ChunkTableRow → List ℕ
numbers_of p = u32_bytes p.row ++ u32_bytes p.index

-- of two rows of the chunk table, the later is greater
module _ (xorbs : List MDBXorbInfo) where
  before : (i j : ℕ) → i < j → j < length (chunk_table xorbs) → chunk_table_row_cmp (get_or (chunk_table xorbs) i no_table_row) (get_or (chunk_table xorbs) j no_table_row) ≡ Less
  before i j less below = Less-from_sorted chunk_table_row_cmp (chunk_table xorbs) i j no_table_row (chunk_table-sorted xorbs) less below

  rows_ascend : (i j : ℕ) → i < j → j < length (chunk_table xorbs) → (get_or (chunk_table xorbs) i no_table_row).word ≤ (get_or (chunk_table xorbs) j no_table_row).word
  rows_ascend i j less below = first_ascends _ _ _ (before i j less below)

  -- rows at different indices differ
  pub rows_differ : (i j : ℕ) → i < length (chunk_table xorbs) → j < length (chunk_table xorbs) → i ≢ j
      → get_or (chunk_table xorbs) i no_table_row ≢ get_or (chunk_table xorbs) j no_table_row
  rows_differ i j i_in j_in other same =
      grind (arith, before i j, before j i, tied_itself chunk_table_row_total (get_or (chunk_table xorbs) i no_table_row))

module _ (files : List MDBFileInfo) (xorbs : List MDBXorbInfo) (options : LayoutOptions) (old : Source) (footer : MDBShardFileFooter) (is : IsBytesWithOptions files xorbs options old.bytes footer)
    (with_table : options.chunk_table ≡ true) where
  abbrev rows : List ChunkTableRow
  rows = chunk_table xorbs

  -- the numbers of a row are within their widths
  pub row_fits : (i : ℕ) (d : ChunkTableRow) → i < length rows → FitsTriple (triple_of (get_or rows i d))
  row_fits i d below =
      subst FitsTriple (get_or-map triple_of rows i d (triple_of d) below)
      (chunk_table_fits xorbs (λ k r within. (is.xorbs_fit.stored k r within).widths) is.xorbs_fit.rows i (triple_of d) (omega (arith, below, length-map rows triple_of)))

  same_rows : (ps : List ChunkTableRow) → flat_map triple_row (map triple_of ps) ≡ flat_map (λ p. u64_bytes (word_of p) ++ numbers_of p) ps
  same_rows ps = flat_map-map triple_row triple_of ps ∙ (λ i. flat_map (λ (p : ChunkTableRow). append_assoc (u64_bytes p.word) (u32_bytes p.row) (u32_bytes p.index) i) ps)

  pub rows_known : IsKnown word_of numbers_of 8 no_table_row rows footer.chunk_lookup_offset footer.chunk_lookup_num_entry old
  rows_known =
      subst (λ (f : MDBShardFileFooter). IsKnown word_of numbers_of 8 no_table_row rows f.chunk_lookup_offset f.chunk_lookup_num_entry old) (sym is.footer_is) (record {
        sizes = λ p. length-append (u32_bytes p.row) (u32_bytes p.index) ∙ omega (arith, length-u32_bytes p.row, length-u32_bytes p.index);
        width_fits = omega arith;
        few = omega (arith, length-chunk_table xorbs, xorb_rows-chunks xorbs, is.xorbs_fit.rows);
        keys_fit = λ i d below. (row_fits i d below).word;
        ascend = rows_ascend xorbs;
        count_is = ap (λ b. length (if_included b rows)) with_table;
        start_fits = omega (arith, chunk_table_starts files xorbs options old footer is);
        start_there = omega (arith, chunk_table_there files xorbs options, ap length is.bytes_are);
        after = after_tables files xorbs options;
        table_is = ap (drop (footer_value files xorbs options).chunk_lookup_offset) is.bytes_are ∙ chunk_table_is_at files xorbs options
            ∙ ap (λ b. flat_map triple_row (map triple_of (if_included b rows)) ++ after_tables files xorbs options) with_table
            ∙ ap (λ bs. bs ++ after_tables files xorbs options) (same_rows rows);
      })

  abbrev table : Table
  table = table_at old footer.chunk_lookup_offset footer.chunk_lookup_num_entry 8

  pub table_sorted : IsSorted table
  table_sorted = rows_sorted word_of numbers_of 8 no_table_row rows footer.chunk_lookup_offset footer.chunk_lookup_num_entry old rows_known

  pub table_hits : (word : ℕ) → hits table word ≡ length (rows_with_word word xorbs)
  table_hits word = rows_hit word_of numbers_of 8 no_table_row rows footer.chunk_lookup_offset footer.chunk_lookup_num_entry old rows_known word

  abbrev row_of_hit : Hit (ℕ × ℕ) → ChunkTableRow
  row_of_hit h = get_or rows h.row no_table_row

  -- a hit is a row with the word, and has its numbers
  pub hit_row : (word : ℕ) (h : Hit (ℕ × ℕ)) → IsHit table word IsRowAndIndex h → (h.row < length rows) × ((row_of_hit h).word ≡ word) × (h.value ≡ ((row_of_hit h).row, (row_of_hit h).index))
  hit_row word h hit =
      let row = row_hit word_of numbers_of 8 no_table_row rows footer.chunk_lookup_offset footer.chunk_lookup_num_entry old rows_known IsRowAndIndex word h hit in
      let fits = row_fits h.row no_table_row row.0 in
      let start = u32_bytes-front h.value.0 (row_of_hit h).row (u32_bytes h.value.1) (u32_bytes (row_of_hit h).index) row.2.0 fits.row_number (sym row.2.2) in
      let location = u32_bytes-injective h.value.1 (row_of_hit h).index row.2.1 fits.index start.1 in
      (row.0, row.1, λ k. (start.0 k, location k))

  pub chunk_search_costs : (word : ℕ) (new : Source) → (IsSorted table → SearchIsBounded table word old new) → ChunkSearchCosts xorbs word old new
  chunk_search_costs word new sorted =
      let bounded = sorted table_sorted in
      let known : table.rows ≡ length rows = rows_known.count_is in
      record { made = bounded.made; few = omega (arith, bounded.few, known, table_hits word); seeks = bounded.seeks; read = omega (arith, bounded.read, table_hits word) }

  values_are : (word : ℕ) (found : List (Hit (ℕ × ℕ))) → All (IsHit table word IsRowAndIndex) found
      → map (λ (h : Hit (ℕ × ℕ)). h.value) found ≡ map (λ (p : ChunkTableRow). (p.row, p.index)) (map row_of_hit found)
  values_are word [] each = refl
  values_are word (h ∷ found) each =
      λ i. (hit_row word h (each 0 h (omega arith))).2 i ∷ values_are word found (All-drop (IsHit table word IsRowAndIndex) 1 (h ∷ found) each) i

  rows_found : (word count : ℕ) (dest_old dest_new : List (ℕ × ℕ)) → Finds table word IsRowAndIndex dest_old dest_new count → count ≡ min (hits table word) 8
      → RowsAmong xorbs word dest_old dest_new count
  rows_found word count dest_old dest_new finds all = record {
    found = map row_of_hit finds.found;
    number = length-map finds.found row_of_hit ∙ finds.number;
    all = all ∙ ap (λ n. min n 8) (table_hits word);
    each = All-map (λ p. Contains rows p × (p.word ≡ word)) row_of_hit finds.found
        (All-weaker (IsHit table word IsRowAndIndex) (λ h. Contains rows (row_of_hit h) × ((row_of_hit h).word ≡ word))
        (λ h hit. let known = hit_row word h hit in (Contains-get_or rows h.row no_table_row known.0, known.1)) finds.found finds.each);
    distinct = λ i j d less below.
        let j_in : j < length finds.found = omega (arith, below, length-map finds.found row_of_hit) in
        let i_in : i < length finds.found = omega (arith, less, j_in) in
        let none : Hit (ℕ × ℕ) = record { row = 0; value = (0, 0) } in
        let here = λ (k : ℕ) (k_in : k < length finds.found). get_or-map row_of_hit finds.found k none d k_in in
        let row = λ (k : ℕ) (k_in : k < length finds.found). (hit_row word (get_or finds.found k none) (finds.each k none k_in)).0 in
        λ same. rows_differ xorbs (get_or finds.found i none).row (get_or finds.found j none).row (row i i_in) (row j j_in) (finds.distinct i j none less j_in)
        (sym (here i i_in) ∙ same ∙ here j j_in);
    written = finds.written ∙ ap (λ vs. vs ++ drop count dest_old) (values_are word finds.found finds.each);
  }

  pub chunk_index_written : (word : ℕ) (new : Source) (dest_old dest_new : List (ℕ × ℕ)) (r : Result ℕ CoreError) → IfOk r (Finds table word IsRowAndIndex dest_old dest_new)
      → (IsSorted table → IfOk r (λ n. n ≡ min (hits table word) 8)) → IfErr r (SearchRefused table old new)
      → MatchResult r (RowsAmong xorbs word dest_old dest_new) (DeviceFailure old new)
  chunk_index_written word new dest_old dest_new (Ok count) finds all refused = rows_found word count dest_old dest_new finds (all table_sorted)
  chunk_index_written word new dest_old dest_new (Err e) finds all refused =
      search_served word_of numbers_of 8 no_table_row rows footer.chunk_lookup_offset footer.chunk_lookup_num_entry old rows_known new e refused
