-- Gathering the parts of shards.
use Rattle.std.proofs.Common.{◌≡◌, ℕ, ◌+◌, ◌^◌, ◌/◌, ◌-◌, List, [], ◌∷◌, ◌++◌, length, map, flat_map, take, drop, get_or, Bor, length-drop, ◌<◌, ◌≤◌, refl, sym, ap, ◌∙◌, subst, arith}
use Rattle.std.specs.Prelude.{All, slice_range, sum_by}
use Rattle.std.specs.List.Sorted.{IsPermutation}
use Rattle.std.proofs.Math.Nat.{mul-div_cancel_left}
use Rattle.std.proofs.lemmas.List.{length-take-le, length-append, length-map, get_or-map, take_more, take_all}
use Rattle.std.proofs.lemmas.List.Elements.{All-nil, All-cons, All-push, All-append, All-weaker}
use Rattle.std.proofs.lemmas.List.Sorted.{IsPermutation-append, IsPermutation-map, All-permutation}
use Rattle.std.proofs.lemmas.List.Sums.{sum_by-append, sum_by-cons, sum_by_push}
use Rattle.xet_base.specs.KeyedHash.{no_key}
use Rattle.xet_records.specs.declared.record_reader.FormatVersion.TheVariants.{V3}
use Rattle.xet_base.specs.declared.merklehash.DataHash.{DataHash}
use Rattle.xet_records.specs.declared.file_structs.MDBFileInfo.{MDBFileInfo}
use Rattle.xet_records.specs.declared.xorb_structs.MDBXorbInfo.{MDBXorbInfo}
use Rattle.xet_records.specs.RecordKind.{RecordKind}
use Rattle.xet_records.specs.FileRecord.{file_records, FitsRecord, size_of_file}
use Rattle.xet_records.specs.XorbRecord.{xorb_records, xorb_row_count, FitsXorb}
use Rattle.xet_records.proofs.Lengths.{length-file_record_bytes, length-xorb_record_bytes, length-all_record_bytes}
use Rattle.xet_shards.specs.declared.shard_format.ends.footer.MDBShardFileFooter.{MDBShardFileFooter}
use Rattle.shard_concatenation.specs.declared.chunk_merging.Cursor.{Cursor}
use Rattle.shard_concatenation.specs.declared.gathering.Totals.{Totals}
use Rattle.shard_concatenation.specs.declared.part_split.SplitShard.{SplitShard}
use Rattle.shard_concatenation.specs.declared.section_parts.SectionPart.{SectionPart}
use Rattle.shard_concatenation.specs.Concatenation.{ShardPart, bytes_of_part, IsPartUnder, files_in, xorbs_in, FitTogether, later, version_in}
use Rattle.xet_records.specs.declared.record_reader.FormatVersion.{FormatVersion}
use Rattle.shard_concatenation.proofs.Versions.{version_in-push}
use Rattle.shard_concatenation.specs.Steps.SectionsSteps.{HoldSections, HasRanges, IsSplit, IsSplitOf}
use Rattle.shard_concatenation.specs.Steps.ChunkMerging.{HoldsRows, rows_held}
use Rattle.xet_shards.specs.Read.TableReading.{FitsTableRow}
use Rattle.shard_concatenation.specs.Steps.Gathering.{AddsPart, FitWith, HasSizes, HoldTables, HasGathered}
use Rattle.xet_shards.specs.Read.TableReading.{FitsStart, FitsTriple, triple_of}
use Rattle.xet_shards.specs.Write.RaisedRows.{chunk_row_later}
use Rattle.xet_shards.specs.Write.Section.{total_rows, with_fronts}
use Rattle.std.specs.List.{enumerate_from}
use Rattle.xet_records.specs.declared.xorb_structs.XorbChunkSequenceEntry.{XorbChunkSequenceEntry}
use Rattle.xet_shards.specs.declared.shard_format.write.xorb_writer.ChunkTableRow.{ChunkTableRow}
use Rattle.xet_shards.specs.Write.Tables.{starts, table_bytes, chunk_table, chunk_table_rows_from, chunk_table_rows, chunk_table_bytes}
use Rattle.xet_shards.proofs.ShardInMemory.Walks.{flat_map-push}
use Rattle.shard_concatenation.proofs.Permutations.{sum_through}
use Rattle.shard_concatenation.proofs.SectionParts.{map-push}
use Rattle.xet_shards.proofs.Write.ChunkSorting.{table_moved}
use Rattle.xet_shards.proofs.Write.Ranges.{chunk_table_rows-append}
use Rattle.xet_shards.proofs.Write.TableOrder.{chunk_table-sorted}
use Rattle.xet_shards.proofs.Write.Sections.{fits_ever}
use Rattle.xet_shards.proofs.Write.Tables.{length-starts}
use Rattle.xet_shards.proofs.Write.WrittenTables.{starts_fit, xorb_starts_fit, chunk_table_fits}

-- sections with one section more
hold_more : {H R : Type 0} (K : RecordKind H R) (sections : List SectionPart) (records : List (List R)) (section : SectionPart) (rs : List R) → HoldSections K sections records
    → section.rows.now ≡ flat_map K.record_bytes rs → section.count ≡ total_rows K rs → section.table.now ≡ table_bytes K rs → All FitsStart (starts K rs)
    → HoldSections K (sections ++ section ∷ []) (records ++ rs ∷ [])
hold_more K sections records section rs hold rows count table fit = record {
  rows = map-push (λ (s : SectionPart). s.rows.now) sections section ∙ (λ i. hold.rows i ++ rows i ∷ []) ∙ sym (map-push (flat_map K.record_bytes) records rs);
  counts = map-push (λ (s : SectionPart). s.count) sections section ∙ (λ i. hold.counts i ++ count i ∷ []) ∙ sym (map-push (total_rows K) records rs);
  tables = map-push (λ (s : SectionPart). s.table.now) sections section ∙ (λ i. hold.tables i ++ table i ∷ []) ∙ sym (map-push (table_bytes K) records rs);
  fits = All-push (λ rs. All FitsStart (starts K rs)) records rs hold.fits fit;
}

all_fit : (rows : List ChunkTableRow) → All FitsTriple (map triple_of rows) → All FitsTableRow rows
all_fit rows fit = All-unmap rows fit
  where
    All-unmap : (rows : List ChunkTableRow) → All FitsTriple (map triple_of rows) → All FitsTableRow rows
    All-unmap rows fit k d below = subst FitsTriple (get_or-map triple_of rows k d (triple_of d) below) (fit k (triple_of d) (omega (arith, below, length-map rows triple_of)))

-- each row of the chunk table names a row of the section
rows_of_chunks : (row n : ℕ) (cs : List XorbChunkSequenceEntry) (bound : ℕ) → row < bound → All (λ (r : ChunkTableRow). r.row < bound) (map (λ (c : ℕ × XorbChunkSequenceEntry). record { word = c.1.chunk_hash.word0; row = row; index = c.0 }) (enumerate_from n cs))
rows_of_chunks row n [] bound below = All-nil (λ (r : ChunkTableRow). r.row < bound)
rows_of_chunks row n (c ∷ cs) bound below =
    All-cons (λ (r : ChunkTableRow). r.row < bound) (record { word = c.chunk_hash.word0; row = row; index = n }) _ below (rows_of_chunks row (n + 1) cs bound below)

rows_within : (front xorbs : List MDBXorbInfo) (bound : ℕ) → total_rows xorb_records front + total_rows xorb_records xorbs ≤ bound
    → All (λ (r : ChunkTableRow). r.row < bound) (flat_map (λ e. chunk_table_rows_from (total_rows xorb_records e.0) e.1.chunks) (with_fronts front xorbs))
rows_within front [] bound few = All-nil (λ (r : ChunkTableRow). r.row < bound)
rows_within front (x ∷ xorbs) bound few =
    let rest : total_rows xorb_records (front ++ x ∷ []) + total_rows xorb_records xorbs ≤ bound = omega (arith, few, sum_by_push xorb_row_count front x, sum_by-cons xorb_row_count x xorbs) in
    All-append (λ (r : ChunkTableRow). r.row < bound) (chunk_table_rows_from (total_rows xorb_records front) x.chunks) _
    (rows_of_chunks (total_rows xorb_records front) 0 x.chunks bound (omega (arith, few, sum_by-cons xorb_row_count x xorbs))) (rows_within (front ++ x ∷ []) xorbs bound rest)

-- a cursor at the start of a chunk table has the rows of this table before it
holds_table : (xorbs : List MDBXorbInfo) (cursor : Cursor) → cursor.rest.now ≡ chunk_table_bytes xorbs → All FitsXorb xorbs → total_rows xorb_records xorbs ≤ 4294967295 → cursor.first + total_rows xorb_records xorbs < 2 ^ 32
    → HoldsRows (cursor, chunk_table xorbs)
unfolding chunk_table_bytes
holds_table xorbs cursor bytes fit few fits = record {
  bytes = bytes;
  fits = all_fit (chunk_table xorbs) (chunk_table_fits xorbs fit few);
  ascend = chunk_table-sorted xorbs;
  later_fits = All-weaker (λ (r : ChunkTableRow). r.row < total_rows xorb_records xorbs) (λ (r : ChunkTableRow). cursor.first + r.row < 2 ^ 32) (λ r below. omega (arith, below, fits)) (chunk_table xorbs)
      (All-permutation (λ (r : ChunkTableRow). r.row < total_rows xorb_records xorbs) (chunk_table_rows xorbs) (chunk_table xorbs) (table_moved xorbs) (rows_within [] xorbs (total_rows xorb_records xorbs) (omega arith)));
}

-- cursors with the cursor of one table more
table_more : (cursors : List Cursor) (before xorbs : List MDBXorbInfo) (cursor : Cursor) → HoldTables cursors before → cursor.first ≡ total_rows xorb_records before
    → HoldsRows (cursor, chunk_table xorbs) → HoldTables (cursors ++ cursor ∷ []) (before ++ xorbs)
table_more cursors before xorbs cursor hold first holds = record {
  held = hold.held ++ (cursor, chunk_table xorbs) ∷ [];
  cursors_are = map-push (λ (h : Cursor × List ChunkTableRow). h.0) hold.held (cursor, chunk_table xorbs) ∙ ap (λ cs. cs ++ cursor ∷ []) hold.cursors_are;
  hold = All-push HoldsRows hold.held (cursor, chunk_table xorbs) hold.hold holds;
  moved =
      subst (IsPermutation (chunk_table_rows (before ++ xorbs))) (sym (flat_map-push rows_held hold.held (cursor, chunk_table xorbs)))
      (subst (λ rows. IsPermutation rows (flat_map rows_held hold.held ++ rows_held (cursor, chunk_table xorbs)))
      (ap (λ n. chunk_table_rows before ++ map (chunk_row_later n) (chunk_table_rows xorbs)) first ∙ sym (chunk_table_rows-append before xorbs))
      (IsPermutation-append (chunk_table_rows before) (flat_map rows_held hold.held) (map (chunk_row_later cursor.first) (chunk_table_rows xorbs)) (rows_held (cursor, chunk_table xorbs)) hold.moved
      (IsPermutation-map (chunk_row_later cursor.first) (chunk_table_rows xorbs) (chunk_table xorbs) (table_moved xorbs))));
}

length-file_rows : (files : List MDBFileInfo) → All FitsRecord files → length (flat_map file_records.record_bytes files) / 48 ≡ total_rows file_records files
length-file_rows files fit =
    ap (λ n. n / 48) (length-all_record_bytes file_records.record_bytes file_records.row_count FitsRecord length-file_record_bytes files fit) ∙ mul-div_cancel_left (total_rows file_records files) (omega arith)

length-xorb_rows : (xorbs : List MDBXorbInfo) → length (flat_map xorb_records.record_bytes xorbs) / 48 ≡ total_rows xorb_records xorbs
length-xorb_rows xorbs =
    ap (λ n. n / 48) (length-all_record_bytes xorb_records.record_bytes xorb_records.row_count (λ r. Unit {0}) (λ r any. length-xorb_record_bytes r) xorbs (λ i r below. tt)) ∙ mul-div_cancel_left (total_rows xorb_records xorbs) (omega arith)

pub one_gathered : (key : DataHash) (files xorbs : List SectionPart) (cursors : List Cursor) (totals more : Totals) (parts : List ShardPart) (part : ShardPart) (split : SplitShard) (file_part xorb_part : SectionPart) (cursor : Cursor)
    → HasGathered files xorbs cursors totals parts → IsPartUnder key part → IsSplitOf part split → AddsPart totals split more
    → file_part.rows.now ≡ split.files.now → file_part.count ≡ more.file_rows - totals.file_rows → file_part.table.now ≡ split.file_table.now
    → xorb_part.rows.now ≡ split.xorbs.now → xorb_part.count ≡ more.xorb_rows - totals.xorb_rows → xorb_part.table.now ≡ split.xorb_table.now
    → cursor.rest.now ≡ split.chunk_table.now → cursor.first ≡ totals.xorb_rows → more.xorb_rows < 2 ^ 32
    → HasGathered (files ++ file_part ∷ []) (xorbs ++ xorb_part ∷ []) (cursors ++ cursor ∷ []) more (parts ++ part ∷ [])
one_gathered key files xorbs cursors totals more parts part split file_part xorb_part cursor before fits is adds file_rows file_count file_table xorb_rows xorb_count xorb_table rest first rows_fit =
    let file_fits = fits_ever file_records part.version part.files fits.files_fit in
    let file_widths : All FitsRecord part.files = λ k r below. (file_fits.stored k r below).widths in
    let xorb_widths : All FitsXorb part.xorbs = λ k r below. (fits.xorbs_fit.stored k r below).widths in
    let more_file_rows : more.file_rows ≡ totals.file_rows + total_rows file_records part.files = adds.file_rows ∙ ap (λ n. totals.file_rows + n) (ap (λ (bs : List ℕ). length bs / 48) is.files ∙ length-file_rows part.files file_widths) in
    let more_xorb_rows : more.xorb_rows ≡ totals.xorb_rows + total_rows xorb_records part.xorbs = adds.xorb_rows ∙ ap (λ n. totals.xorb_rows + n) (ap (λ (bs : List ℕ). length bs / 48) is.xorbs ∙ length-xorb_rows part.xorbs) in
    let all_files : files_in (parts ++ part ∷ []) ≡ files_in parts ++ part.files = flat_map-push (λ (p : ShardPart). p.files) parts part in
    let all_xorbs : xorbs_in (parts ++ part ∷ []) ≡ xorbs_in parts ++ part.xorbs = flat_map-push (λ (p : ShardPart). p.xorbs) parts part in
    let footer = is.footer_is in
    let ts = before.totals_are in
    record {
      files_held = subst (HoldSections file_records (files ++ file_part ∷ [])) (sym (map-push (λ (p : ShardPart). p.files) parts part))
          (hold_more file_records files (map (λ p. p.files) parts) file_part part.files before.files_held (file_rows ∙ is.files) (file_count ∙ omega (arith, more_file_rows)) (file_table ∙ is.file_table)
          (starts_fit file_records [] part.files (λ k r below. (file_widths k r below).metadata.file_hash.word0) (λ r. omega arith) (omega (arith, file_fits.rows))));
      xorbs_held = subst (HoldSections xorb_records (xorbs ++ xorb_part ∷ [])) (sym (map-push (λ (p : ShardPart). p.xorbs) parts part))
          (hold_more xorb_records xorbs (map (λ p. p.xorbs) parts) xorb_part part.xorbs before.xorbs_held (xorb_rows ∙ is.xorbs) (xorb_count ∙ omega (arith, more_xorb_rows)) (xorb_table ∙ is.xorb_table)
          (xorb_starts_fit part.xorbs xorb_widths fits.xorbs_fit.rows));
      tables_held = subst (HoldTables (cursors ++ cursor ∷ [])) (sym all_xorbs)
          (table_more cursors (xorbs_in parts) part.xorbs cursor before.tables_held (first ∙ ts.xorb_rows)
          (holds_table part.xorbs cursor (rest ∙ is.chunk_table) xorb_widths fits.xorbs_fit.rows (omega (arith, first, more_xorb_rows, rows_fit))));
      totals_are = record {
        files_are = adds.files ∙ omega (arith, ts.files_are, ap (λ (f : MDBShardFileFooter). f.file_lookup_num_entry) footer, length-starts file_records part.files, length-append (files_in parts) part.files) ∙ ap length (sym all_files);
        file_rows = more_file_rows ∙ omega (arith, ts.file_rows, sum_by-append file_records.row_count (files_in parts) part.files) ∙ ap (total_rows file_records) (sym all_files);
        xorbs_are = adds.xorbs ∙ omega (arith, ts.xorbs_are, ap (λ (f : MDBShardFileFooter). f.xorb_lookup_num_entry) footer, length-starts xorb_records part.xorbs, length-append (xorbs_in parts) part.xorbs) ∙ ap length (sym all_xorbs);
        xorb_rows = more_xorb_rows ∙ omega (arith, ts.xorb_rows, sum_by-append xorb_records.row_count (xorbs_in parts) part.xorbs) ∙ ap (total_rows xorb_records) (sym all_xorbs);
        materialized_bytes = adds.materialized_bytes ∙ omega (arith, ts.materialized_bytes, ap (λ (f : MDBShardFileFooter). f.materialized_bytes) footer, sum_by-append size_of_file (files_in parts) part.files) ∙ ap (sum_by size_of_file) (sym all_files);
        stored_bytes = adds.stored_bytes ∙ omega (arith, ts.stored_bytes, ap (λ (f : MDBShardFileFooter). f.stored_bytes) footer, sum_by-append (λ (x : MDBXorbInfo). x.metadata.num_bytes_in_xorb) (xorbs_in parts) part.xorbs)
            ∙ ap (sum_by (λ (x : MDBXorbInfo). x.metadata.num_bytes_in_xorb)) (sym all_xorbs);
        stored_bytes_on_disk = adds.stored_bytes_on_disk ∙ omega (arith, ts.stored_bytes_on_disk, ap (λ (f : MDBShardFileFooter). f.stored_bytes_on_disk) footer, sum_by-append (λ (x : MDBXorbInfo). x.metadata.num_bytes_on_disk) (xorbs_in parts) part.xorbs)
            ∙ ap (sum_by (λ (x : MDBXorbInfo). x.metadata.num_bytes_on_disk)) (sym all_xorbs);
      };
    }

length_rows : {H R : Type 0} (K : RecordKind H R) → ((r : R) → 0 < K.row_count r) → (rs : List R) → length rs ≤ total_rows K rs
length_rows K some [] = omega arith
length_rows K some (r ∷ rs) = omega (arith, some r, length_rows K some rs, sum_by-cons K.row_count r rs)

abbrev stored_of : MDBXorbInfo → ℕ
stored_of x = x.metadata.num_bytes_in_xorb

abbrev on_disk_of : MDBXorbInfo → ℕ
on_disk_of x = x.metadata.num_bytes_on_disk

-- where the sums over all parts fit, so do those with one part more
fit_with : (key : DataHash) (parts : List ShardPart) (i : ℕ) (d part : ShardPart) (files xorbs : List SectionPart) (cursors : List Cursor) (totals : Totals) (split : SplitShard) → i < length parts → get_or parts i d ≡ part
    → FitTogether (files_in parts) (xorbs_in parts) → IsPartUnder key part → HasGathered files xorbs cursors totals (take i parts) → IsSplitOf part split → FitWith totals split
fit_with key parts i d part files xorbs cursors totals split below part_is fit fits before is =
    let file_fits = fits_ever file_records part.version part.files fits.files_fit in
    let file_widths : All FitsRecord part.files = λ k r below. (file_fits.stored k r below).widths in
    let ts = before.totals_are in
    let file_rows : length split.files.now / 48 ≡ total_rows file_records part.files = ap (λ (bs : List ℕ). length bs / 48) is.files ∙ length-file_rows part.files file_widths in
    let xorb_rows : length split.xorbs.now / 48 ≡ total_rows xorb_records part.xorbs = ap (λ (bs : List ℕ). length bs / 48) is.xorbs ∙ length-xorb_rows part.xorbs in
    let footer = is.footer_is in
    let all_file_rows : total_rows file_records (files_in (take i parts)) + total_rows file_records part.files ≤ total_rows file_records (files_in parts) =
    subst (λ (p : ShardPart). total_rows file_records (files_in (take i parts)) + total_rows file_records p.files ≤ total_rows file_records (files_in parts)) part_is (sum_through (λ (p : ShardPart). p.files) file_records.row_count parts i d below) in
    let all_xorb_rows : total_rows xorb_records (xorbs_in (take i parts)) + total_rows xorb_records part.xorbs ≤ total_rows xorb_records (xorbs_in parts) =
    subst (λ (p : ShardPart). total_rows xorb_records (xorbs_in (take i parts)) + total_rows xorb_records p.xorbs ≤ total_rows xorb_records (xorbs_in parts)) part_is (sum_through (λ (p : ShardPart). p.xorbs) xorb_records.row_count parts i d below) in
    let all_sizes : sum_by size_of_file (files_in (take i parts)) + sum_by size_of_file part.files ≤ sum_by size_of_file (files_in parts) =
    subst (λ (p : ShardPart). sum_by size_of_file (files_in (take i parts)) + sum_by size_of_file p.files ≤ sum_by size_of_file (files_in parts)) part_is (sum_through (λ (p : ShardPart). p.files) size_of_file parts i d below) in
    let all_stored : sum_by stored_of (xorbs_in (take i parts)) + sum_by stored_of part.xorbs ≤ sum_by stored_of (xorbs_in parts) =
    subst (λ (p : ShardPart). sum_by stored_of (xorbs_in (take i parts)) + sum_by stored_of p.xorbs ≤ sum_by stored_of (xorbs_in parts)) part_is (sum_through (λ (p : ShardPart). p.xorbs) stored_of parts i d below) in
    let all_on_disk : sum_by on_disk_of (xorbs_in (take i parts)) + sum_by on_disk_of part.xorbs ≤ sum_by on_disk_of (xorbs_in parts) =
    subst (λ (p : ShardPart). sum_by on_disk_of (xorbs_in (take i parts)) + sum_by on_disk_of p.xorbs ≤ sum_by on_disk_of (xorbs_in parts)) part_is (sum_through (λ (p : ShardPart). p.xorbs) on_disk_of parts i d below) in
    record {
      files = omega (
        arith,
        fit.rows.file_rows,
        ts.files_are,
        ap (λ (f : MDBShardFileFooter). f.file_lookup_num_entry) footer,
        length-starts file_records part.files,
        length_rows file_records (λ r. omega arith) (files_in (take i parts)),
        length_rows file_records (λ r. omega arith) part.files,
        all_file_rows,
      );
      file_rows = omega (arith, fit.rows.file_rows, ts.file_rows, file_rows, all_file_rows);
      xorbs = omega (
        arith,
        fit.rows.xorb_rows,
        ts.xorbs_are,
        ap (λ (f : MDBShardFileFooter). f.xorb_lookup_num_entry) footer,
        length-starts xorb_records part.xorbs,
        length_rows xorb_records (λ r. omega arith) (xorbs_in (take i parts)),
        length_rows xorb_records (λ r. omega arith) part.xorbs,
        all_xorb_rows,
      );
      xorb_rows = omega (arith, fit.rows.xorb_rows, ts.xorb_rows, xorb_rows, all_xorb_rows);
      materialized_bytes = omega (arith, fit.materialized, ts.materialized_bytes, ap (λ (f : MDBShardFileFooter). f.materialized_bytes) footer, all_sizes);
      stored_bytes = omega (arith, fit.stored, ts.stored_bytes, ap (λ (f : MDBShardFileFooter). f.stored_bytes) footer, all_stored);
      stored_bytes_on_disk = omega (arith, fit.on_disk, ts.stored_bytes_on_disk, ap (λ (f : MDBShardFileFooter). f.stored_bytes_on_disk) footer, all_on_disk);
    }

abbrev no_part : ShardPart
no_part = record { files = []; xorbs = []; version = V3; key = no_key; creation = 0; expiry = 0 }

module _ (key : DataHash) (parts : List ShardPart) (shards : List (Bor (List ℕ))) (fit : All (IsPartUnder key) parts) (are : map bytes_of_part parts ≡ map (λ x. x.now) shards) where
  lens : length parts ≡ length shards
  lens = sym (length-map parts bytes_of_part) ∙ ap length are ∙ length-map shards (λ (x : Bor (List ℕ)). x.now)

  module _ (i : ℕ) (d : Bor (List ℕ)) (below : i < length shards) where
    part_within : i < length parts
    part_within = omega (arith, below, lens)

    abbrev part_here : ShardPart
    part_here = get_or parts i no_part

    part_bytes : (get_or shards i d).now ≡ bytes_of_part part_here
    part_bytes = sym (get_or-map (λ (x : Bor (List ℕ)). x.now) shards i d [] below) ∙ ap (λ bs. get_or bs i []) (sym are) ∙ get_or-map bytes_of_part parts i no_part [] part_within

    -- the bytes at a place are those of the part there
    pub part_splits : (P : Type 0) → ((key : DataHash) (part : ShardPart) → IsPartUnder key part → (get_or shards i d).now ≡ bytes_of_part part → P) → P
    part_splits P from = from key part_here (fit i no_part part_within) part_bytes

    -- the key of a part is the key of all
    pub same_key : (split : SplitShard) → ((key : DataHash) (part : ShardPart) → IsPartUnder key part → (get_or shards i d).now ≡ bytes_of_part part → IsSplitOf part split) → split.footer.chunk_hash_hmac_key ≡ key
    same_key split splits =
        let here = fit i no_part part_within in
        ap (λ (f : MDBShardFileFooter). f.chunk_hash_hmac_key) (splits key part_here here part_bytes).footer_is ∙ here.key_is

    pub part_fits : (files xorbs : List SectionPart) (cursors : List Cursor) (totals : Totals) (split : SplitShard) → HasGathered files xorbs cursors totals (take i parts)
        → ((key : DataHash) (part : ShardPart) → IsPartUnder key part → (get_or shards i d).now ≡ bytes_of_part part → IsSplitOf part split) → FitTogether (files_in parts) (xorbs_in parts) → FitWith totals split
    part_fits files xorbs cursors totals split before splits together =
        let here = fit i no_part part_within in
        fit_with key parts i no_part part_here files xorbs cursors totals split part_within refl together here before (splits key part_here here part_bytes)

  pub gathered_next : (files xorbs : List SectionPart) (cursors : List Cursor) (totals more : Totals) (i : ℕ) (d : Bor (List ℕ)) (split : SplitShard) → i < length shards → HasGathered files xorbs cursors totals (take i parts)
      → ((key : DataHash) (part : ShardPart) → IsPartUnder key part → (get_or shards i d).now ≡ bytes_of_part part → IsSplitOf part split) → AddsPart totals split more → more.xorb_rows < 2 ^ 32
      → HasGathered (files ++ record { rows = split.files; count = more.file_rows - totals.file_rows; table = split.file_table } ∷ []) (xorbs ++ record { rows = split.xorbs; count = more.xorb_rows - totals.xorb_rows; table = split.xorb_table } ∷ [])
      (cursors ++ record { rest = split.chunk_table; first = totals.xorb_rows } ∷ []) more (take (i + 1) parts)
  gathered_next files xorbs cursors totals more i d split below before splits adds rows_fit =
      let within : i < length parts = omega (arith, below, lens) in
      let part : ShardPart = get_or parts i no_part in
      let bytes : (get_or shards i d).now ≡ bytes_of_part part =
      sym (get_or-map (λ (x : Bor (List ℕ)). x.now) shards i d [] below) ∙ ap (λ bs. get_or bs i []) (sym are) ∙ get_or-map bytes_of_part parts i no_part [] within in
      let here : IsPartUnder key part = fit i no_part within in
      subst (HasGathered _ _ _ more) (sym (take_more parts i no_part within))
      (one_gathered key files xorbs cursors totals more (take i parts) part split _ _ _ before here (splits key part here bytes) adds refl refl refl refl refl refl refl refl rows_fit)

  -- and the latest version of these and of the next
  pub version_next : (version : FormatVersion) (i : ℕ) (d : Bor (List ℕ)) (split : SplitShard) → i < length shards → version ≡ version_in (take i parts)
      → ((key : DataHash) (part : ShardPart) → IsPartUnder key part → (get_or shards i d).now ≡ bytes_of_part part → IsSplitOf part split) → later version split.version ≡ version_in (take (i + 1) parts)
  version_next version i d split below before splits =
      let within : i < length parts = omega (arith, below, lens) in
      let part : ShardPart = get_or parts i no_part in
      let bytes : (get_or shards i d).now ≡ bytes_of_part part =
      sym (get_or-map (λ (x : Bor (List ℕ)). x.now) shards i d [] below) ∙ ap (λ bs. get_or bs i []) (sym are) ∙ get_or-map bytes_of_part parts i no_part [] within in
      (λ j. later (before j) ((splits key part (fit i no_part within) bytes).version_is j))
      ∙ sym (version_in-push (take i parts) part) ∙ ap version_in (sym (take_more parts i no_part within))

  pub all_versions : (version : FormatVersion) (i : ℕ) → length shards ≤ i → version ≡ version_in (take i parts) → version ≡ version_in parts
  all_versions version i past before = before ∙ ap version_in (take_all i parts (omega (arith, past, lens)))

  pub all_gathered : (files xorbs : List SectionPart) (cursors : List Cursor) (totals : Totals) (i : ℕ) → length shards ≤ i → HasGathered files xorbs cursors totals (take i parts) → HasGathered files xorbs cursors totals parts
  all_gathered files xorbs cursors totals i past before = subst (HasGathered files xorbs cursors totals) (take_all i parts (omega (arith, past, lens))) before

length_range : (xs : List ℕ) (from to : ℕ) → to ≤ length xs → length (slice_range xs from to) ≡ to - from
length_range xs from to within = length-take-le (to - from) (drop from xs) (omega (arith, within, length-drop from xs))

-- sections with those of one part more have the sizes of the sums with this part
pub sizes_more : (files xorbs : List SectionPart) (totals more : Totals) (bytes : List ℕ) (split : SplitShard) (file_part xorb_part : SectionPart) → HasSizes files xorbs totals → HasRanges (length bytes) split.footer → IsSplit bytes split.footer split
    → AddsPart totals split more → file_part.rows.now ≡ split.files.now → file_part.table.now ≡ split.file_table.now → xorb_part.rows.now ≡ split.xorbs.now → xorb_part.table.now ≡ split.xorb_table.now
    → HasSizes (files ++ file_part ∷ []) (xorbs ++ xorb_part ∷ []) more
sizes_more files xorbs totals more bytes split file_part xorb_part before ranges is adds file_rows file_table xorb_rows xorb_table =
    let footer = split.footer in
    let rows_1 : length split.files.now ≡ footer.xorb_info_offset - 48 - 48 = ap length is.files ∙ length_range bytes 48 (footer.xorb_info_offset - 48) (omega (arith, ranges.files, ranges.xorbs, ranges.file_table, ranges.xorb_table, ranges.chunk_table, ranges.end)) in
    let rows_2 : length split.xorbs.now ≡ footer.file_lookup_offset - 48 - footer.xorb_info_offset =
    ap length is.xorbs ∙ length_range bytes footer.xorb_info_offset (footer.file_lookup_offset - 48) (omega (arith, ranges.file_table, ranges.xorb_table, ranges.chunk_table, ranges.end)) in
    let table_1 : length split.file_table.now ≡ footer.xorb_lookup_offset - footer.file_lookup_offset =
    ap length is.file_table ∙ length_range bytes footer.file_lookup_offset footer.xorb_lookup_offset (omega (arith, ranges.xorb_table, ranges.chunk_table, ranges.end)) in
    let table_2 : length split.xorb_table.now ≡ footer.chunk_lookup_offset - footer.xorb_lookup_offset = ap length is.xorb_table ∙ length_range bytes footer.xorb_lookup_offset footer.chunk_lookup_offset (omega (arith, ranges.chunk_table, ranges.end)) in
    record {
      file_rows = sum_by_push (λ (s : SectionPart). length s.rows.now) files file_part ∙ omega (arith, before.file_rows, adds.file_rows, ap length file_rows, rows_1, ranges.files, ranges.file_rows);
      xorb_rows = sum_by_push (λ (s : SectionPart). length s.rows.now) xorbs xorb_part ∙ omega (arith, before.xorb_rows, adds.xorb_rows, ap length xorb_rows, rows_2, ranges.xorbs, ranges.file_rows, ranges.xorb_rows);
      file_table = sum_by_push (λ (s : SectionPart). length s.table.now) files file_part ∙ omega (arith, before.file_table, adds.files, ap length file_table, table_1, ranges.file_table);
      xorb_table = sum_by_push (λ (s : SectionPart). length s.table.now) xorbs xorb_part ∙ omega (arith, before.xorb_table, adds.xorbs, ap length xorb_table, table_2, ranges.xorb_table);
    }
