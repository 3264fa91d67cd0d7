-- The tables in the bytes of a shard: where they are, their widths, and that they are
-- read as they were written.
use Rattle.std.proofs.Common.{◌≡◌, Bool, true, false, ℕ, ◌+◌, ◌^◌, ◌<◌, ◌≤◌, List, [], ◌∷◌, ◌++◌, map, flat_map, length, drop, Option, refl, sym, ap, ◌∙◌, subst, append_assoc, arith, rules}
use Rattle.std.specs.Prelude.{All}
use Rattle.std.specs.List.{enumerate_from}
use Rattle.std.specs.FinMap.{values}
use Rattle.std.specs.declared.result.Result.{Result}
use Rattle.std.specs.declared.vec.Vec.{Vec}
use Rattle.std.proofs.lemmas.List.{length-append, length-map}
use Rattle.std.proofs.lemmas.List.Elements.{All-append, All-cons, All-drop, All-map, All-nil}
use Rattle.std.proofs.lemmas.List.Folds.{flat_map-map}
use Rattle.std.proofs.lemmas.List.Sums.{sum_by-cons, sum_by_push}
use Rattle.xet_base.specs.declared.error.CoreError.{CoreError}
use Rattle.xet_base.specs.Bytes.{u32_bytes, u64_bytes}
use Rattle.xet_base.specs.Source.{Source}
use Rattle.xet_base.proofs.Bytes.{length-u32_bytes, length-u64_bytes, u32_bytes-injective, u32_bytes-front, u64_bytes-front}
use Rattle.xet_base.proofs.Lists.{rest_is}
use Rattle.xet_records.specs.declared.record_reader.FormatVersion.{FormatVersion}
use Rattle.xet_records.specs.declared.file_structs.MDBFileInfo.{MDBFileInfo}
use Rattle.xet_records.specs.declared.xorb_structs.MDBXorbInfo.{MDBXorbInfo}
use Rattle.xet_records.specs.declared.xorb_structs.XorbChunkSequenceEntry.{XorbChunkSequenceEntry}
use Rattle.xet_records.specs.XorbRow.{FitsChunk}
use Rattle.xet_records.specs.XorbRecord.{xorb_records, xorb_row_count, FitsXorb}
use Rattle.xet_records.specs.FileRecord.{file_records}
use Rattle.xet_records.specs.RecordKind.{RecordKind}
use Rattle.xet_shards.specs.declared.shard_format.ends.footer.MDBShardFileFooter.{MDBShardFileFooter}
use Rattle.xet_shards.specs.declared.shard_format.ends.info.MDBShardInfo.{MDBShardInfo}
use Rattle.xet_shards.specs.Content.Shard.{Shard, IsShard}
use Rattle.xet_shards.specs.Write.Section.{total_rows, with_fronts, section_bytes}
use Rattle.xet_shards.specs.Write.Tables.{hash_in, chunk_table_rows_from, chunk_table_rows, chunk_table, start_of, starts, start_row, chunk_table_row_bytes, table_bytes, chunk_table_bytes}
use Rattle.xet_shards.specs.Write.Layout.{LayoutOptions, if_included, shard_header_bytes, header_value, shard_footer_bytes, footer_value, layout_of, layout_in, info_value_in, plain_options_in}
use Rattle.xet_shards.specs.Read.TableReading.{FitsStart, triple_of, triple_row, FitsTriple}
use Rattle.xet_shards.specs.Read.TableReading.{FitsTableRow}
use Rattle.xet_shards.proofs.Write.ChunkTableRows.{key_alone, keys-key_alone, chunk_table_row}
use Rattle.xet_shards.proofs.Write.Layouts.{length-shard_header_bytes}
use Rattle.xet_shards.proofs.Content.Maps.{All-keys-from_entries}
use Rattle.xet_shards.proofs.Write.Sections.{FitsSection, xorbs_fit}
use Rattle.xet_shards.proofs.Read.TableReading.{ReadsOrFails, IsReadAs, whole_table}
use Rattle.xet_shards.proofs.Write.Tables.{length-starts, chunk_table_row_total}
use Rattle.xet_shards.proofs.Write.XorbLayouts.{length-chunk_table, xorb_rows-chunks}

-- the bytes of a row determine it
pub length-start : (row : ℕ × ℕ) → FitsStart row → length (start_row row) ≡ 12
length-start row fits = length-append (u64_bytes row.0) (u32_bytes row.1) ∙ omega (arith, length-u64_bytes row.0, length-u32_bytes row.1)

pub start_injective : (a b : ℕ × ℕ) → FitsStart a → FitsStart b → start_row a ≡ start_row b → a ≡ b
start_injective a b a_fits b_fits same = search (rules, u64_bytes-front, u32_bytes-injective)

length-triple : (row : ℕ × (ℕ × ℕ)) → FitsTriple row → length (triple_row row) ≡ 16
length-triple row fits = search (rules, length-append, length-u64_bytes, length-u32_bytes)

pub triple_injective : (a b : ℕ × (ℕ × ℕ)) → FitsTriple a → FitsTriple b → triple_row a ≡ triple_row b → a ≡ b
triple_injective a b a_fits b_fits same =
    search (rules, u64_bytes-front, append_assoc, u32_bytes-front, u32_bytes-injective)

-- the rows of a table, if it is in
rows_in : {X : Type 0} (b : Bool) (row : X → List ℕ) (rows : List X) → if_included b (flat_map row rows) ≡ flat_map row (if_included b rows)
rows_in true row rows = refl
rows_in false row rows = refl

-- where the tables are
module _ (files : List MDBFileInfo) (xorbs : List MDBXorbInfo) (options : LayoutOptions) where
  abbrev before_file_table : List ℕ
  before_file_table = (shard_header_bytes (header_value options.version) ++ section_bytes file_records files) ++ section_bytes xorb_records xorbs

  abbrev before_tables : List ℕ
  before_tables = before_file_table ++ if_included options.file_table (table_bytes file_records files)

  abbrev pub after_tables : List ℕ
  after_tables = shard_footer_bytes (footer_value files xorbs options)

  abbrev pub after_file_table : List ℕ
  after_file_table = if_included options.xorb_table (table_bytes xorb_records xorbs) ++ (if_included options.chunk_table (chunk_table_bytes xorbs) ++ after_tables)

  length-before_file_table : length before_file_table ≡ (footer_value files xorbs options).file_lookup_offset
  length-before_file_table = search (rules, length-append, length-shard_header_bytes)

  length-before : length before_tables ≡ (footer_value files xorbs options).xorb_lookup_offset
  length-before = search (rules, length-append, length-before_file_table)

  split_at_file_table : layout_of files xorbs options ≡ before_file_table ++ (if_included options.file_table (table_bytes file_records files) ++ after_file_table)
  unfolding layout_of
  split_at_file_table = simp (append_assoc)

  pub file_table_there : (footer_value files xorbs options).file_lookup_offset ≤ length (layout_of files xorbs options)
  file_table_there = search (rules, split_at_file_table, length-append, length-before_file_table)

  pub file_table_is_at : drop (footer_value files xorbs options).file_lookup_offset (layout_of files xorbs options)
      ≡ flat_map start_row (if_included options.file_table (starts file_records files)) ++ after_file_table
  unfolding table_bytes
  file_table_is_at = search (rules, rest_is, length-before_file_table, split_at_file_table, rows_in)

  abbrev pub after_xorb_table : List ℕ
  after_xorb_table = if_included options.chunk_table (chunk_table_bytes xorbs) ++ after_tables

  split_at_xorb_table : layout_of files xorbs options ≡ before_tables ++ (if_included options.xorb_table (table_bytes xorb_records xorbs) ++ after_xorb_table)
  unfolding layout_of
  split_at_xorb_table = simp (append_assoc)

  pub xorb_table_there : (footer_value files xorbs options).xorb_lookup_offset ≤ length (layout_of files xorbs options)
  xorb_table_there = search (rules, split_at_xorb_table, length-append, length-before)

  split_at_chunk_table : layout_of files xorbs options
      ≡ (before_tables ++ if_included options.xorb_table (table_bytes xorb_records xorbs)) ++ (if_included options.chunk_table (chunk_table_bytes xorbs) ++ after_tables)
  unfolding layout_of
  split_at_chunk_table = simp (append_assoc)

  pub chunk_table_there : (footer_value files xorbs options).chunk_lookup_offset ≤ length (layout_of files xorbs options)
  chunk_table_there = search (rules, split_at_chunk_table, length-append, length-before)

  pub xorb_table_is_at : drop (footer_value files xorbs options).xorb_lookup_offset (layout_of files xorbs options)
      ≡ flat_map start_row (if_included options.xorb_table (starts xorb_records xorbs)) ++ after_xorb_table
  unfolding layout_of table_bytes
  xorb_table_is_at = search (rules, rest_is, length-before, append_assoc, rows_in)

  pub chunk_table_is_at : drop (footer_value files xorbs options).chunk_lookup_offset (layout_of files xorbs options)
      ≡ flat_map triple_row (map triple_of (if_included options.chunk_table (chunk_table xorbs))) ++ after_tables
  unfolding layout_of chunk_table_bytes
  chunk_table_is_at =
      rest_is _ (layout_of files xorbs options) (before_tables ++ if_included options.xorb_table (table_bytes xorb_records xorbs)) _
      (length-append before_tables (if_included options.xorb_table (table_bytes xorb_records xorbs)) ∙ ap (λ n. n + length (if_included options.xorb_table (table_bytes xorb_records xorbs))) length-before)
      (append_assoc (before_tables ++ if_included options.xorb_table (table_bytes xorb_records xorbs)) (if_included options.chunk_table (chunk_table_bytes xorbs)) after_tables)
      ∙ ap (λ bs. bs ++ after_tables) (rows_in options.chunk_table chunk_table_row_bytes (chunk_table xorbs) ∙ sym (flat_map-map triple_row triple_of (if_included options.chunk_table (chunk_table xorbs))))

-- the numbers of the rows of tables are within their widths
pub starts_fit : {H R : Type 0} (K : RecordKind H R) (front records : List R) → All (λ r. (hash_in K r).word0 < 2 ^ 64) records → ((r : R) → 0 < K.row_count r)
    → total_rows K front + total_rows K records ≤ 4294967295 → All FitsStart (map (start_of K) (with_fronts front records))
starts_fit K front [] fit some few = All-nil FitsStart
starts_fit K front (x ∷ records) fit some few =
    let rest : total_rows K (front ++ x ∷ []) + total_rows K records ≤ 4294967295 = omega (arith, few, sum_by_push K.row_count front x, sum_by-cons K.row_count x records) in
    All-cons FitsStart (start_of K (front, x)) (map (start_of K) (with_fronts (front ++ x ∷ []) records))
    (record { word = fit 0 x (omega arith); row_number = omega (arith, few) })
    (starts_fit K (front ++ x ∷ []) records (All-drop (λ r. (hash_in K r).word0 < 2 ^ 64) 1 (x ∷ records) fit) some rest)

chunks_fit : (row n : ℕ) (cs : List XorbChunkSequenceEntry) → All FitsChunk cs → row < 2 ^ 32 → n + length cs ≤ 2 ^ 32
    → All FitsTableRow (map (λ c. chunk_table_row row c.0 c.1) (enumerate_from n cs))
chunks_fit row n [] fit row_fits few = All-nil FitsTableRow
chunks_fit row n (c ∷ cs) fit row_fits few =
    let here : FitsChunk c = fit 0 c (omega arith) in
    All-cons FitsTableRow (chunk_table_row row n c) (map (λ d. chunk_table_row row d.0 d.1) (enumerate_from (n + 1) cs))
    (record { word = here.chunk_hash.word0; row_number = row_fits; index = omega (arith, few) })
    (chunks_fit row (n + 1) cs (All-drop FitsChunk 1 (c ∷ cs) fit) row_fits (omega (arith, few)))

table_rows_fit : (front xorbs : List MDBXorbInfo) → All FitsXorb xorbs → total_rows xorb_records front + total_rows xorb_records xorbs ≤ 4294967295
    → All FitsTableRow (flat_map (λ e. chunk_table_rows_from (total_rows xorb_records e.0) e.1.chunks) (with_fronts front xorbs))
table_rows_fit front [] fit few = All-nil FitsTableRow
table_rows_fit front (x ∷ xorbs) fit few =
    let here : FitsXorb x = fit 0 x (omega arith) in
    let rest : total_rows xorb_records (front ++ x ∷ []) + total_rows xorb_records xorbs ≤ 4294967295 = omega (arith, few, sum_by_push xorb_row_count front x, sum_by-cons xorb_row_count x xorbs) in
    All-append FitsTableRow (chunk_table_rows_from (total_rows xorb_records front) x.chunks) (flat_map (λ e. chunk_table_rows_from (total_rows xorb_records e.0) e.1.chunks) (with_fronts (front ++ x ∷ []) xorbs))
    (chunks_fit (total_rows xorb_records front) 0 x.chunks here.chunks (omega (arith, few)) (omega (arith, few, sum_by-cons xorb_row_count x xorbs)))
    (table_rows_fit (front ++ x ∷ []) xorbs (All-drop FitsXorb 1 (x ∷ xorbs) fit) rest)

-- the tables of a list of xorbs that may be in a section
module _ (xorbs : List MDBXorbInfo) (fit : All FitsXorb xorbs) (few : total_rows xorb_records xorbs ≤ 4294967295) where
  pub xorb_starts_fit : All FitsStart (starts xorb_records xorbs)
  xorb_starts_fit = starts_fit xorb_records [] xorbs (λ k r below. (fit k r below).metadata.xorb_hash.word0) (λ r. omega arith) (omega (arith, few))

  pub chunk_table_fits : All FitsTriple (map triple_of (chunk_table xorbs))
  chunk_table_fits =
      All-map FitsTriple triple_of (chunk_table xorbs)
      (All-keys-from_entries chunk_table_row_total FitsTableRow (map key_alone (chunk_table_rows xorbs)) (subst (All FitsTableRow) (sym (keys-key_alone (chunk_table_rows xorbs))) (table_rows_fit [] xorbs fit (omega (arith, few)))))

  few_starts : length (starts xorb_records xorbs) ≤ 4294967295
  few_starts = omega (arith, few, length-starts xorb_records xorbs, xorb_rows-chunks xorbs)

  few_table_rows : length (map triple_of (chunk_table xorbs)) ≤ 4294967295
  few_table_rows = omega (arith, few, length-map (chunk_table xorbs) triple_of, length-chunk_table xorbs, xorb_rows-chunks xorbs)

-- rows of a table that is in, or none
in_fits : {X : Type 0} (Fits : X → Type 0) (b : Bool) (rows : List X) → All Fits rows → All Fits (if_included b rows)
in_fits Fits true rows fit = fit
in_fits Fits false rows fit = All-nil Fits

in_few : {X : Type 0} (b : Bool) (rows : List X) → length rows ≤ 4294967295 → length (if_included b rows) ≤ 4294967295
in_few true rows few = few
in_few false rows few = omega arith

map-if_included : {X Y : Type 0} (f : X → Y) (b : Bool) (rows : List X) → map f (if_included b rows) ≡ if_included b (map f rows)
map-if_included f true rows = refl
map-if_included f false rows = refl

-- the tables of such records with any layout options
module _ (files : List MDBFileInfo) (xorbs : List MDBXorbInfo) (options : LayoutOptions) (fits : FitsSection xorb_records xorbs)
    (old new : Source) (are : old.bytes ≡ layout_of files xorbs options) where
  abbrev written_footer : MDBShardFileFooter
  written_footer = footer_value files xorbs options

  widths : All FitsXorb xorbs
  widths k r below = (fits.stored k r below).widths

  xorb_table_in : {Z : Type 0} (r : Result (Vec (ℕ × ℕ) Z) CoreError)
      → ReadsOrFails start_row FitsStart 12 old new written_footer.xorb_lookup_offset written_footer.xorb_lookup_num_entry r → IsReadAs old new (if_included options.xorb_table (starts xorb_records xorbs)) r
  xorb_table_in r read =
      search (
        rules,
        whole_table,
        length-start,
        start_injective,
        in_few,
        few_starts,
        widths,
        in_fits,
        xorb_starts_fit,
        xorb_table_is_at,
      )

  chunk_table_in : {Z : Type 0} (r : Result (Vec (ℕ × (ℕ × ℕ)) Z) CoreError)
      → ReadsOrFails triple_row FitsTriple 16 old new written_footer.chunk_lookup_offset written_footer.chunk_lookup_num_entry r → IsReadAs old new (map triple_of (if_included options.chunk_table (chunk_table xorbs))) r
  chunk_table_in r read =
      search (
        rules,
        map-if_included,
        whole_table,
        length-triple,
        triple_injective,
        in_few,
        few_table_rows,
        widths,
        in_fits,
        chunk_table_fits,
        chunk_table_is_at,
        ReadsOrFails,
        length-map,
      )

-- the tables of a shard
module _ (s : Shard) (shard : IsShard s) (version : FormatVersion) (expiry : Option ℕ) (old new : Source) (are : old.bytes ≡ layout_in version s expiry) (info : MDBShardInfo)
    (is : info ≡ info_value_in version s expiry) where
  pub xorb_table_read : {Z : Type 0} (r : Result (Vec (ℕ × ℕ) Z) CoreError)
      → ReadsOrFails start_row FitsStart 12 old new info.metadata.xorb_lookup_offset info.metadata.xorb_lookup_num_entry r
      → IsReadAs old new (starts xorb_records (values s.xorbs)) r
  xorb_table_read r read =
      xorb_table_in (values s.files) (values s.xorbs) (plain_options_in version expiry) (xorbs_fit s shard) old new are r
      (subst (λ (i : MDBShardInfo). ReadsOrFails start_row FitsStart 12 old new i.metadata.xorb_lookup_offset i.metadata.xorb_lookup_num_entry r) is read)

  pub chunk_table_read : {Z : Type 0} (r : Result (Vec (ℕ × (ℕ × ℕ)) Z) CoreError)
      → ReadsOrFails triple_row FitsTriple 16 old new info.metadata.chunk_lookup_offset info.metadata.chunk_lookup_num_entry r
      → IsReadAs old new (map triple_of (chunk_table (values s.xorbs))) r
  chunk_table_read r read =
      chunk_table_in (values s.files) (values s.xorbs) (plain_options_in version expiry) (xorbs_fit s shard) old new are r
      (subst (λ (i : MDBShardInfo). ReadsOrFails triple_row FitsTriple 16 old new i.metadata.chunk_lookup_offset i.metadata.chunk_lookup_num_entry r) is read)
