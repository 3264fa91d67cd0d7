-- The lengths of the parts of a shard with xorbs, and of its layout.
use Rattle.std.proofs.Common.{◌≡◌, Bool, ℕ, ◌+◌, ◌*◌, List, [], ◌∷◌, ◌++◌, map, flat_map, length, Option, refl, sym, ap, ◌∙◌, subst, arith}
use Rattle.std.specs.Prelude.{All, sum_by}
use Rattle.std.specs.List.{enumerate_from}
use Rattle.std.specs.FinMap.{FinMap, from_entries, entries}
use Rattle.std.proofs.lemmas.List.{length-append, length-map}
use Rattle.std.proofs.lemmas.List.FromFn.{length-enumerate_from}
use Rattle.std.proofs.lemmas.List.Sums.{sum_by-cons, sum_by_push}
use Rattle.xet_records.specs.declared.file_structs.MDBFileInfo.{MDBFileInfo}
use Rattle.xet_records.specs.declared.xorb_structs.MDBXorbInfo.{MDBXorbInfo}
use Rattle.xet_records.specs.declared.xorb_structs.XorbChunkSequenceEntry.{XorbChunkSequenceEntry}
use Rattle.xet_records.specs.FileRecord.{file_records, FitsRecord}
use Rattle.xet_records.specs.XorbRecord.{xorb_records, xorb_row_count}
use Rattle.xet_shards.specs.Write.Section.{section_bytes, total_rows, with_fronts}
use Rattle.xet_shards.specs.Write.Tables.{ChunkTableRow, chunk_table_row_cmp, chunk_table_rows_from, chunk_table_rows, chunk_table, table_bytes, chunk_table_bytes}
use Rattle.xet_shards.specs.Write.Layout.{LayoutOptions, if_included, header_value, footer_value, shard_header_bytes, shard_footer_bytes, layout_of, plain_options}
use Rattle.xet_shards.proofs.Write.ChunkTableRows.{key_alone, keys-key_alone, chunk_table_row}
use Rattle.xet_shards.proofs.Content.Maps.{IsRising, rising_lower, length-from_entries}
use Rattle.xet_shards.proofs.Write.Tables.{length-table_bytes, length-chunk_table_row_bytes, chunk_table_row_total, chunk_table_row_exact}
use Rattle.xet_shards.proofs.Write.Layouts.{length-shard_header_bytes, length-file_section, length-xorb_section, length-shard_footer_bytes}

abbrev pub total_chunks : List MDBXorbInfo → ℕ
total_chunks xorbs = sum_by (λ (r : MDBXorbInfo). length r.chunks) xorbs

-- each xorb has a row, and a row for each of its chunks
pub xorb_rows-chunks : (xorbs : List MDBXorbInfo) → total_rows xorb_records xorbs ≡ length xorbs + total_chunks xorbs
xorb_rows-chunks [] = refl
xorb_rows-chunks (x ∷ xorbs) =
    omega (arith, sum_by-cons xorb_row_count x xorbs, sum_by-cons (λ (r : MDBXorbInfo). length r.chunks) x xorbs, xorb_rows-chunks xorbs)

-- the rows of the chunk table for the chunks of xorbs that come after others
abbrev row_after : List MDBXorbInfo → ℕ × XorbChunkSequenceEntry → ChunkTableRow
row_after front c = chunk_table_row (total_rows xorb_records front) c.0 c.1

abbrev pub rows_of : List MDBXorbInfo × MDBXorbInfo → List ChunkTableRow
rows_of e = chunk_table_rows_from (total_rows xorb_records e.0) e.1.chunks

abbrev pub table_rows_after : List MDBXorbInfo → List MDBXorbInfo → List ChunkTableRow
table_rows_after front xorbs = flat_map rows_of (with_fronts front xorbs)

length-table_rows_after : (front xorbs : List MDBXorbInfo) → length (table_rows_after front xorbs) ≡ total_chunks xorbs
length-table_rows_after front [] = refl
length-table_rows_after front (x ∷ xorbs) =
    length-append (rows_of (front, x)) (table_rows_after (front ++ x ∷ []) xorbs)
    ∙ omega (
      arith,
      length-map (enumerate_from 0 x.chunks) (row_after front),
      length-enumerate_from 0 x.chunks,
      length-table_rows_after (front ++ x ∷ []) xorbs,
      sum_by-cons (λ (r : MDBXorbInfo). length r.chunks) x xorbs,
    )

-- from chunk to chunk the row of the xorb and the index in it add up to more, so no two rows are the same
abbrev sum_of : ChunkTableRow → ℕ
sum_of p = p.row + p.index

rising_chunks : (front : List MDBXorbInfo) (n : ℕ) (cs : List XorbChunkSequenceEntry) (rest : List ChunkTableRow) → IsRising sum_of (total_rows xorb_records front + n + length cs) rest
    → IsRising sum_of (total_rows xorb_records front + n) (map (row_after front) (enumerate_from n cs) ++ rest)
rising_chunks front n [] rest rising = rising_lower sum_of _ _ rest (omega arith) rising
rising_chunks front n (c ∷ cs) rest rising =
    (omega arith, rising_lower sum_of _ _ _ (omega arith) (rising_chunks front (n + 1) cs rest (rising_lower sum_of _ _ rest (omega arith) rising)))

rising_rows : (front xorbs : List MDBXorbInfo) → IsRising sum_of (total_rows xorb_records front) (table_rows_after front xorbs)
rising_rows front [] = tt
rising_rows front (x ∷ xorbs) =
    let later = table_rows_after (front ++ x ∷ []) xorbs in
    rising_lower sum_of _ _ (rows_of (front, x) ++ later) (omega arith)
    (rising_chunks front 0 x.chunks later (rising_lower sum_of _ _ later (omega (arith, sum_by_push xorb_row_count front x)) (rising_rows (front ++ x ∷ []) xorbs)))

-- each chunk has one row
pub length-chunk_table_rows : (xorbs : List MDBXorbInfo) → length (chunk_table_rows xorbs) ≡ total_chunks xorbs
length-chunk_table_rows xorbs = length-table_rows_after [] xorbs

-- the chunk table has a row for each chunk
pub length-chunk_table : (xorbs : List MDBXorbInfo) → length (chunk_table xorbs) ≡ total_chunks xorbs
length-chunk_table xorbs =
    let rows : List (ChunkTableRow × Unit {0}) = map key_alone (chunk_table_rows xorbs) in
    let table : FinMap chunk_table_row_cmp (Unit {0}) = from_entries rows in
    length-map (entries table) (λ (e : ChunkTableRow × Unit {0}). e.0)
    ∙ length-from_entries chunk_table_row_total sum_of (λ p q same. ap sum_of (chunk_table_row_exact p q same)) 0 rows
    (subst (IsRising sum_of 0) (sym (keys-key_alone (chunk_table_rows xorbs))) (rising_rows [] xorbs))
    ∙ length-map (chunk_table_rows xorbs) key_alone
    ∙ length-chunk_table_rows xorbs

length-chunk_rows : (xorbs : List MDBXorbInfo) → length (chunk_table_bytes xorbs) ≡ 16 * length (chunk_table xorbs)
unfolding chunk_table_bytes
length-chunk_rows xorbs = length-chunk_table_row_bytes (chunk_table xorbs)

pub length-chunk_table_bytes : (xorbs : List MDBXorbInfo) → length (chunk_table_bytes xorbs) ≡ 16 * total_chunks xorbs
length-chunk_table_bytes xorbs = length-chunk_rows xorbs ∙ ap (λ n. 16 * n) (length-chunk_table xorbs)

-- the bytes of a table that is in, or none
length-in : {X : Type 0} (b : Bool) (bytes : List ℕ) (rows : List X) (size : ℕ) → length bytes ≡ size * length rows → length (if_included b bytes) ≡ size * length (if_included b rows)
length-in b bytes rows size len = grind arith

-- the bytes of the chunk table, if it is in
pub length-chunks_in : (b : Bool) (xorbs : List MDBXorbInfo) → length (if_included b (chunk_table_bytes xorbs)) ≡ 16 * length (if_included b (chunk_table xorbs))
length-chunks_in b xorbs = length-in b (chunk_table_bytes xorbs) (chunk_table xorbs) 16 (length-chunk_rows xorbs)

-- the bytes of a layout are those of its parts
pub length-parts : (files : List MDBFileInfo) (xorbs : List MDBXorbInfo) (options : LayoutOptions) → length (layout_of files xorbs options)
    ≡ length (shard_header_bytes (header_value options.version)) + length (section_bytes file_records files) + length (section_bytes xorb_records xorbs)
    + length (if_included options.file_table (table_bytes file_records files)) + length (if_included options.xorb_table (table_bytes xorb_records xorbs))
    + length (if_included options.chunk_table (chunk_table_bytes xorbs)) + length (shard_footer_bytes (footer_value files xorbs options))
unfolding layout_of
length-parts files xorbs options = simp length-append (omega arith)

-- header, footer and two bookends have 344 bytes; there are 48 for each row of the records, and in the tables that are
-- in, 12 for each record and 16 for each chunk
pub length-with_options : (files : List MDBFileInfo) (xorbs : List MDBXorbInfo) (options : LayoutOptions) → All FitsRecord files
    → length (layout_of files xorbs options)
    ≡ 344 + 48 * (total_rows file_records files + total_rows xorb_records xorbs) + 12 * (length (if_included options.file_table files) + length (if_included options.xorb_table xorbs))
    + 16 * length (if_included options.chunk_table (chunk_table xorbs))
length-with_options files xorbs options fit =
    omega (
      arith,
      length-parts files xorbs options,
      length-shard_header_bytes (header_value options.version),
      length-file_section files fit,
      length-xorb_section xorbs,
      length-in options.file_table (table_bytes file_records files) files 12 (length-table_bytes file_records files),
      length-in options.xorb_table (table_bytes xorb_records xorbs) xorbs 12 (length-table_bytes xorb_records xorbs),
      length-chunks_in options.chunk_table xorbs,
      length-shard_footer_bytes (footer_value files xorbs options) refl,
    )

-- with the plain options all tables are in
pub length-layout_of : (files : List MDBFileInfo) (xorbs : List MDBXorbInfo) (expiry : Option ℕ) → All FitsRecord files
    → length (layout_of files xorbs (plain_options expiry))
    ≡ 344 + 48 * (total_rows file_records files + total_rows xorb_records xorbs) + 12 * (length files + length xorbs) + 16 * (sum_by (λ (r : MDBXorbInfo). length r.chunks) xorbs)
length-layout_of files xorbs expiry fit = length-with_options files xorbs (plain_options expiry) fit ∙ omega (arith, length-chunk_table xorbs)
