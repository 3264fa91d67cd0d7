-- Parts one after another are the layout of all records.
use Rattle.std.proofs.Common.{◌≡◌, ℕ, ◌+◌, List, [], ◌∷◌, ◌++◌, map, flat_map, get_or, length, Bor, ◌<◌, ◌≤◌, ◌^◌, Option, None, Ok, Err, refl, sym, ap, ◌∙◌, subst, append_assoc, arith}
use Rattle.std.specs.Prelude.{All, unwrap_or, IfOk}
use Rattle.std.specs.declared.result.Result.{Result}
use Rattle.std.proofs.lemmas.List.{length-map}
use Rattle.std.specs.Io.KnownBytes.{Appends}
use Rattle.std.specs.List.Sorted.{IsPermutation}
use Rattle.std.proofs.KnownBytes.{Appends-trans}
use Rattle.std.proofs.lemmas.Grind.{flat_map-append}
use Rattle.std.proofs.lemmas.List.Folds.{flat_map-map}
use Rattle.std.proofs.lemmas.List.Elements.{All-nil, All-cons, All-append, All-drop, All-map}
use Rattle.std.proofs.lemmas.List.Sorted.{IsPermutation-trans, length_permutation}
use Rattle.xet_base.specs.declared.merklehash.DataHash.{DataHash}
use Rattle.xet_records.specs.declared.file_structs.MDBFileInfo.{MDBFileInfo}
use Rattle.xet_records.specs.declared.xorb_structs.MDBXorbInfo.{MDBXorbInfo}
use Rattle.xet_records.specs.declared.record_reader.FormatVersion.{FormatVersion}
use Rattle.xet_records.specs.declared.record_reader.FormatVersion.TheVariants.{V3}
use Rattle.xet_records.specs.FileRecord.{file_records, FitsRecord}
use Rattle.xet_records.specs.XorbRecord.{xorb_records}
use Rattle.xet_shards.specs.declared.shard_format.ends.footer.MDBShardFileFooter.{MDBShardFileFooter}
use Rattle.shard_concatenation.specs.declared.chunk_merging.Cursor.{Cursor}
use Rattle.shard_concatenation.specs.declared.gathering.Totals.{Totals}
use Rattle.shard_concatenation.specs.declared.part_split.SplitShard.{SplitShard}
use Rattle.shard_concatenation.specs.declared.section_parts.SectionPart.{SectionPart}
use Rattle.shard_concatenation.specs.Concatenation.{ShardPart, bytes_of_part, IsPartUnder, files_in, xorbs_in, options_under, AscendBoth, HaveFewRows, FitTogether, AreConsecutiveParts, AreBytesOf, later, version_in, parts_layout, latest_of, IsConcatenation}
use Rattle.placed_shards.specs.Parts.{HasRecordsInOrder}
use Rattle.shard_concatenation.specs.Steps.Gathering.{HasTotals, HasGathered, IsFooterOf}
use Rattle.shard_concatenation.specs.Steps.SectionsSteps.{HoldSections, all_of, IsSplitOf}
use Rattle.shard_concatenation.specs.Steps.ChunkMerging.{HoldsRows, rows_held, Merges}
use Rattle.xet_shards.specs.Write.Layout.{header_value, footer_value, shard_header_bytes, shard_footer_bytes, plain_options, layout_of, layout}
use Rattle.xet_shards.specs.Ends.Ends.{FitsFooter}
use Rattle.xet_shards.specs.Write.Section.{section_bytes, total_rows}
use Rattle.xet_records.specs.Limits.{MAX_ROWS}
use Rattle.shard_concatenation.proofs.RowShard.{row_of}
use Rattle.xet_shards.specs.declared.shard_format.write.xorb_writer.ChunkTableRow.{ChunkTableRow}
use Rattle.xet_shards.specs.Write.Tables.{table_bytes, chunk_table_rows, chunk_table_bytes, chunk_table_row_bytes}
use Rattle.xet_shards.proofs.Write.ChunkSorting.{sorted_is_table}
use Rattle.xet_shards.proofs.Write.XorbLayouts.{xorb_rows-chunks, length-chunk_table, length-with_options, length-chunk_table_rows}
use Rattle.xet_shards.proofs.Write.Sections.{fits_ever, files_fit_in, xorbs_fit}
use Rattle.xet_shards.specs.Write.WithOptions.{Ascends}
use Rattle.xet_shards.proofs.Write.WithOptions.{files_ascend, xorbs_ascend}
use Rattle.xet_shards.proofs.Ends.EndsUnique.{ends_of_bytes}
use Rattle.std.specs.FinMap.{values}
use Rattle.xet_base.specs.KeyedHash.{no_key}
use Rattle.xet_shards.specs.Content.Shard.{Shard, IsShard}
use Rattle.xet_shards.specs.Write.WrittenShard.{IsBytesOf}

-- the rows of all parts are those of all their records
rows_joined : {R : Type 0} (bytes : R → List ℕ) (records : List (List R)) → flat_map (flat_map bytes) records ≡ flat_map bytes (all_of records)
rows_joined bytes [] = refl
rows_joined bytes (rs ∷ records) = ap (λ more. flat_map bytes rs ++ more) (rows_joined bytes records) ∙ sym (flat_map-append bytes rs (all_of records))

pub rows_of_parts : {R : Type 0} (bytes : R → List ℕ) (sections : List SectionPart) (records : List (List R)) → map (λ s. s.rows.now) sections ≡ map (flat_map bytes) records
    → flat_map (λ s. s.rows.now) sections ≡ flat_map bytes (all_of records)
rows_of_parts bytes sections records are =
    sym (flat_map-map (λ (bs : List ℕ). bs) (λ (s : SectionPart). s.rows.now) sections) ∙ ap (flat_map (λ bs. bs)) are ∙ flat_map-map (λ (bs : List ℕ). bs) (flat_map bytes) records ∙ rows_joined bytes records

pub all_files : (parts : List ShardPart) → all_of (map (λ p. p.files) parts) ≡ files_in parts
all_files parts = flat_map-map (λ (rs : List MDBFileInfo). rs) (λ (p : ShardPart). p.files) parts

pub all_xorbs : (parts : List ShardPart) → all_of (map (λ p. p.xorbs) parts) ≡ xorbs_in parts
all_xorbs parts = flat_map-map (λ (rs : List MDBXorbInfo). rs) (λ (p : ShardPart). p.xorbs) parts

pub layout_from_parts : (files : List MDBFileInfo) (xorbs : List MDBXorbInfo) (version : FormatVersion) (key : DataHash) → (((((((shard_header_bytes (header_value version) ++ flat_map file_records.record_bytes files) ++ file_records.header_bytes file_records.bookend)
    ++ flat_map xorb_records.record_bytes xorbs) ++ xorb_records.header_bytes xorb_records.bookend) ++ table_bytes file_records files) ++ table_bytes xorb_records xorbs) ++ chunk_table_bytes xorbs) ++ shard_footer_bytes (footer_value files xorbs (options_under version key))
    ≡ layout_of files xorbs (options_under version key)
unfolding layout_of section_bytes
layout_from_parts files xorbs version key = simp (append_assoc)

-- the rows that were merged are the chunk table
pub merged_table : (xorbs : List MDBXorbInfo) (rows : List ChunkTableRow) (old new : Option (List ℕ)) → IsPermutation (chunk_table_rows xorbs) rows → Merges rows old new → Appends old new (chunk_table_bytes xorbs)
unfolding chunk_table_bytes
merged_table xorbs rows old new moved merges =
    subst (λ rs. Appends old new (flat_map chunk_table_row_bytes rs))
    (sym (sorted_is_table xorbs (chunk_table_rows xorbs) merges.sorted refl (IsPermutation-trans (chunk_table_rows xorbs) rows merges.sorted moved merges.moved) merges.in_order)) merges.written

-- the chunks of all parts are as many as the rows of their tables
pub count_is : (totals : Totals) (parts : List ShardPart) (chunks : ℕ) → HasTotals totals (files_in parts) (xorbs_in parts) → chunks + totals.xorbs ≡ totals.xorb_rows → (rows : List ChunkTableRow)
    → IsPermutation (chunk_table_rows (xorbs_in parts)) rows → chunks ≡ length rows
count_is totals parts chunks are sum rows moved =
    omega (arith, sum, are.xorbs_are, are.xorb_rows, xorb_rows-chunks (xorbs_in parts), length-chunk_table_rows (xorbs_in parts), length_permutation (chunk_table_rows (xorbs_in parts)) rows moved)

pub all_written : (files xorbs : List SectionPart) (cursors : List Cursor) (totals : Totals) (parts : List ShardPart) (version : FormatVersion) (key : DataHash) (footer : MDBShardFileFooter) (chunks : ℕ) (o a b c d e f g h i : Option (List ℕ)) → HasGathered files xorbs cursors totals parts
    → chunks + totals.xorbs ≡ totals.xorb_rows
    → Appends o a (shard_header_bytes (header_value version)) → Appends a b (flat_map (λ s. s.rows.now) files) → Appends b c (file_records.header_bytes file_records.bookend)
    → Appends c d (flat_map (λ s. s.rows.now) xorbs) → Appends d e (xorb_records.header_bytes xorb_records.bookend)
    → Appends e f (table_bytes file_records (all_of (map (λ part. part.files) parts)))
    → Appends f g (table_bytes xorb_records (all_of (map (λ part. part.xorbs) parts)))
    → ((held : List (Cursor × List ChunkTableRow)) → map (λ h. h.0) held ≡ cursors → All HoldsRows held → chunks ≡ length (flat_map rows_held held) → Merges (flat_map rows_held held) g h)
    → Appends h i (shard_footer_bytes footer) → footer ≡ footer_value (files_in parts) (xorbs_in parts) (options_under version key) → Appends o i (layout_of (files_in parts) (xorbs_in parts) (options_under version key))
all_written files xorbs cursors totals parts version key footer chunks o a b c d e f g h i held sum header file_rows file_end xorb_rows xorb_end file_table xorb_table merges end footer_is =
    let fs = files_in parts in
    let xs = xorbs_in parts in
    let one : Appends a b (flat_map file_records.record_bytes fs) =
    subst (Appends a b) (rows_of_parts file_records.record_bytes files (map (λ p. p.files) parts) held.files_held.rows ∙ ap (flat_map file_records.record_bytes) (all_files parts)) file_rows in
    let two : Appends c d (flat_map xorb_records.record_bytes xs) =
    subst (Appends c d) (rows_of_parts xorb_records.record_bytes xorbs (map (λ p. p.xorbs) parts) held.xorbs_held.rows ∙ ap (flat_map xorb_records.record_bytes) (all_xorbs parts)) xorb_rows in
    let three : Appends e f (table_bytes file_records fs) = subst (λ rs. Appends e f (table_bytes file_records rs)) (all_files parts) file_table in
    let four : Appends f g (table_bytes xorb_records xs) = subst (λ rs. Appends f g (table_bytes xorb_records rs)) (all_xorbs parts) xorb_table in
    let tables = held.tables_held in
    let five : Appends g h (chunk_table_bytes xs) = merged_table xs (flat_map rows_held tables.held) g h tables.moved (merges tables.held tables.cursors_are tables.hold (count_is totals parts chunks held.totals_are sum (flat_map rows_held tables.held) tables.moved)) in
    let six : Appends h i (shard_footer_bytes (footer_value fs xs (options_under version key))) = subst (λ ft. Appends h i (shard_footer_bytes ft)) footer_is end in
    subst (Appends o i) (layout_from_parts fs xs version key)
    (Appends-trans o h i _ _ (Appends-trans o g h _ _ (Appends-trans o f g _ _ (Appends-trans o e f _ _ (Appends-trans o d e _ _ (Appends-trans o c d _ _ (Appends-trans o b c _ _ (Appends-trans o a b _ _ header one) file_end) two) xorb_end) three) four) five) six)

-- the files of parts have their widths
pub parts_fit : (key : DataHash) (parts : List ShardPart) → All (IsPartUnder key) parts → All FitsRecord (files_in parts)
parts_fit key [] fit = All-nil FitsRecord
parts_fit key (part ∷ parts) fit =
    let stored = (fits_ever file_records part.version part.files (fit 0 part (omega arith)).files_fit).stored in
    All-append FitsRecord part.files (files_in parts) (λ k r below. (stored k r below).widths) (parts_fit key parts (All-drop (IsPartUnder key) 1 (part ∷ parts) fit))

-- the records of parts may be in a section
files_stored : (key : DataHash) (parts : List ShardPart) → All (IsPartUnder key) parts → All (All file_records.IsStored) (map (λ p. p.files) parts)
files_stored key parts fit =
    All-map (All file_records.IsStored) (λ (p : ShardPart). p.files) parts (λ k d below. (fits_ever file_records (get_or parts k d).version (get_or parts k d).files (fit k d below).files_fit).stored)

xorbs_stored : (key : DataHash) (parts : List ShardPart) → All (IsPartUnder key) parts → All (All xorb_records.IsStored) (map (λ p. p.xorbs) parts)
xorbs_stored key parts fit = All-map (All xorb_records.IsStored) (λ (p : ShardPart). p.xorbs) parts (λ k d below. (fit k d below).xorbs_fit.stored)

-- what the order of gathered sections says of the parts
pub in_order : (key : DataHash) (parts : List ShardPart) (files xorbs : List SectionPart) (cursors : List Cursor) (totals : Totals) → All (IsPartUnder key) parts → All (λ part. AscendBoth part.files part.xorbs) parts
    → HasGathered files xorbs cursors totals parts
    → ((records : List (List MDBFileInfo)) → HoldSections file_records files records → All (All file_records.IsStored) records → All (Ascends file_records) records → Ascends file_records (all_of records))
    → ((records : List (List MDBXorbInfo)) → HoldSections xorb_records xorbs records → All (All xorb_records.IsStored) records → All (Ascends xorb_records) records → Ascends xorb_records (all_of records))
    → AscendBoth (files_in parts) (xorbs_in parts)
in_order key parts files xorbs cursors totals fit each held files_checked xorbs_checked = record {
  files_ascend = subst (Ascends file_records) (all_files parts)
      (files_checked (map (λ p. p.files) parts) held.files_held
      (files_stored key parts fit)
      (All-map (Ascends file_records) (λ (p : ShardPart). p.files) parts (λ k d below. (each k d below).files_ascend)));
  xorbs_ascend = subst (Ascends xorb_records) (all_xorbs parts)
      (xorbs_checked (map (λ p. p.xorbs) parts) held.xorbs_held
      (xorbs_stored key parts fit)
      (All-map (Ascends xorb_records) (λ (p : ShardPart). p.xorbs) parts (λ k d below. (each k d below).xorbs_ascend)));
}

-- the key of the first part is that of all
pub first_key : (key : DataHash) (parts : List ShardPart) (shards : List (Bor (List ℕ))) (d : Bor (List ℕ)) (split : SplitShard) → All (IsPartUnder key) parts → map bytes_of_part parts ≡ map (λ x. x.now) shards → 0 < length shards
    → ((key : DataHash) (part : ShardPart) → IsPartUnder key part → (get_or shards 0 d).now ≡ bytes_of_part part → IsSplitOf part split) → split.footer.chunk_hash_hmac_key ≡ key
first_key key [] [] d split fit are some splits = absurd (omega (arith, some))
first_key key [] (shard ∷ shards) d split fit are some splits = absurd (omega (arith, ap length are))
first_key key (part ∷ parts) [] d split fit are some splits = absurd (omega (arith, some))
first_key key (part ∷ parts) (shard ∷ shards) d split fit are some splits =
    let here : IsPartUnder key part = fit 0 part (omega arith) in
    ap (λ (f : MDBShardFileFooter). f.chunk_hash_hmac_key) (splits key part here (ap (λ bs. get_or bs 0 []) (sym are))).footer_is ∙ here.key_is

-- the bytes of shards are parts without a key
pub record ArePartsOf (version : FormatVersion) (shards : List Shard) (bytes : List (List ℕ)) : Type 0 where
  pub parts : List ShardPart
  pub fit : All (IsPartUnder no_key) parts
  pub are : map bytes_of_part parts ≡ bytes
  pub files_are : files_in parts ≡ flat_map (λ s. values s.files) shards
  pub xorbs_are : xorbs_in parts ≡ flat_map (λ s. values s.xorbs) shards
  pub ascend : All (λ part. AscendBoth part.files part.xorbs) parts
  pub version_is : version_in parts ≡ version

pub parts_of : (shards : List Shard) (bytes : List (List ℕ)) → (is : AreBytesOf shards bytes) → ArePartsOf (latest_of shards bytes is) shards bytes
parts_of [] [] is = record { parts = []; fit = All-nil (IsPartUnder no_key); are = refl; files_are = refl; xorbs_are = refl; ascend = All-nil (λ (part : ShardPart). AscendBoth part.files part.xorbs); version_is = refl }
parts_of [] (b ∷ bytes) is = absurd is
parts_of (s ∷ shards) [] is = absurd is
parts_of (s ∷ shards) (b ∷ bytes) (is, others) =
    let rest = parts_of shards bytes others in
    let part : ShardPart = record { files = values s.files; xorbs = values s.xorbs; version = is.version; key = no_key; creation = 0; expiry = unwrap_or is.expiry 18446744073709551615 } in
    record {
      parts = part ∷ rest.parts;
      fit = All-cons (IsPartUnder no_key) part rest.parts (record {
        key_is = refl;
        files_fit = files_fit_in is.version s is.shard is.files;
        xorbs_fit = xorbs_fit s is.shard;
        widths = (ends_of_bytes s b is).footer_widths;
      }) rest.fit;
      are = λ i. sym is.bytes_are i ∷ rest.are i;
      files_are = ap (λ fs. values s.files ++ fs) rest.files_are;
      xorbs_are = ap (λ xs. values s.xorbs ++ xs) rest.xorbs_are;
      ascend = All-cons (λ (part : ShardPart). AscendBoth part.files part.xorbs) part rest.parts (record { files_ascend = files_ascend s is.shard; xorbs_ascend = xorbs_ascend s is.shard }) rest.ascend;
      version_is = ap (later is.version) rest.version_is;
    }

-- the layout of shards whose records ascend is the bytes of the shard that has them all
concatenated : (shards : List Shard) (bytes : List (List ℕ)) (is : AreBytesOf shards bytes) (are : ArePartsOf (latest_of shards bytes is) shards bytes) → AscendBoth (files_in are.parts) (xorbs_in are.parts)
    → HaveFewRows (files_in are.parts) (xorbs_in are.parts) → IsConcatenation (latest_of shards bytes is) shards (parts_layout no_key are.parts)
concatenated shards bytes is are ascend rows =
    let all = row_of shards bytes is (subst (λ fs. AscendBoth fs (flat_map (λ s. values s.xorbs) shards)) are.files_are (subst (AscendBoth (files_in are.parts)) are.xorbs_are ascend))
    (subst (λ fs. total_rows file_records fs ≤ MAX_ROWS) are.files_are rows.file_rows) (subst (λ xs. total_rows xorb_records xs ≤ MAX_ROWS) are.xorbs_are rows.xorb_rows) in
    record {
      all = all.all;
      is_shard = all.is_shard;
      row = all.row;
      files = all.files;
      bytes_are = λ i. layout_of ((are.files_are ∙ sym all.row.files) i) ((are.xorbs_are ∙ sym all.row.xorbs) i) (options_under (are.version_is i) no_key);
    }

pub concatenated_if : {T E : Type 0} (shards : List Shard) (bytes : List (List ℕ)) (is : AreBytesOf shards bytes) (are : ArePartsOf (latest_of shards bytes is) shards bytes) (result : Result T E)
    → IfOk result (λ _. AscendBoth (files_in are.parts) (xorbs_in are.parts)) → IfOk result (λ _. HaveFewRows (files_in are.parts) (xorbs_in are.parts))
    → IfOk result (λ _. IsConcatenation (latest_of shards bytes is) shards (parts_layout no_key are.parts))
concatenated_if shards bytes is are (Err e) ascend rows = tt
concatenated_if shards bytes is are (Ok value) ascend rows = concatenated shards bytes is are ascend rows

-- the numbers of the footer of a shard without a key
pub plain_widths : (s : Shard) → IsShard s → FitsFooter (footer_value (values s.files) (values s.xorbs) (plain_options None))
plain_widths s shard =
    let is : IsBytesOf s (layout s None) = record { shard = shard; version = V3; files = tt; expiry = None; expiry_fits = tt; bytes_are = refl } in
    (ends_of_bytes s (layout s None) is).footer_widths

-- the rows and bytes of a shard
pub fit_together : (s : Shard) → IsShard s → FitTogether (values s.files) (values s.xorbs)
fit_together s shard =
    let sums = (plain_widths s shard).sums in
    record {
      rows = record { file_rows = shard.file_rows; xorb_rows = shard.xorb_rows };
      materialized = sums 1 0 (omega arith);
      stored = sums 2 0 (omega arith);
      on_disk = sums 0 0 (omega arith);
    }

-- shards whose records one shard has in their order are consecutive parts
pub consecutive_parts : (shards : List Shard) (bytes : List (Bor (List ℕ))) (all : Shard) → IsShard all → HasRecordsInOrder shards all → AreBytesOf shards (map (λ x. x.now) bytes)
    → {version : FormatVersion} (are : ArePartsOf version shards (map (λ x. x.now) bytes)) → 0 < length bytes → AreConsecutiveParts no_key are.parts
consecutive_parts shards bytes all shard row is are some =
    let files : values all.files ≡ files_in are.parts = row.files ∙ sym are.files_are in
    let xorbs : values all.xorbs ≡ xorbs_in are.parts = row.xorbs ∙ sym are.xorbs_are in
    record {
      some = omega (arith, some, ap length are.are, length-map are.parts bytes_of_part, length-map bytes (λ (x : Bor (List ℕ)). x.now));
      fit = are.fit;
      each = are.ascend;
      ascend = record { files_ascend = subst (Ascends file_records) files (files_ascend all shard); xorbs_ascend = subst (Ascends xorb_records) xorbs (xorbs_ascend all shard) };
      together = subst (λ fs. FitTogether fs (xorbs_in are.parts)) files (subst (FitTogether (values all.files)) xorbs (fit_together all shard));
    }

-- the order of consecutive parts is not refused
module _ (key : DataHash) (parts : List ShardPart) (files xorbs : List SectionPart) (cursors : List Cursor) (totals : Totals) (row : AreConsecutiveParts key parts) (held : HasGathered files xorbs cursors totals parts) (P : Type 0) where
  pub files_not_refused : ((records : List (List MDBFileInfo)) → HoldSections file_records files records → All (All file_records.IsStored) records → All (Ascends file_records) records → P × (Ascends file_records (all_of records) → ⊥)) → ⊥
  files_not_refused refused =
      (refused (map (λ p. p.files) parts) held.files_held (files_stored key parts row.fit) (All-map (Ascends file_records) (λ (p : ShardPart). p.files) parts (λ k d below. (row.each k d below).files_ascend))).1
      (subst (Ascends file_records) (sym (all_files parts)) row.ascend.files_ascend)

  pub xorbs_not_refused : ((records : List (List MDBXorbInfo)) → HoldSections xorb_records xorbs records → All (All xorb_records.IsStored) records → All (Ascends xorb_records) records → P × (Ascends xorb_records (all_of records) → ⊥)) → ⊥
  xorbs_not_refused refused =
      (refused (map (λ p. p.xorbs) parts) held.xorbs_held (xorbs_stored key parts row.fit) (All-map (Ascends xorb_records) (λ (p : ShardPart). p.xorbs) parts (λ k d below. (row.each k d below).xorbs_ascend))).1
      (subst (Ascends xorb_records) (sym (all_xorbs parts)) row.ascend.xorbs_ascend)

-- the rows of all parts fit 32 bits
pub file_rows_fit : (parts : List ShardPart) → HaveFewRows (files_in parts) (xorbs_in parts) → total_rows file_records (all_of (map (λ p. p.files) parts)) < 2 ^ 32
file_rows_fit parts few = omega (arith, few.file_rows, ap (total_rows file_records) (all_files parts))

pub xorb_rows_fit : (parts : List ShardPart) → HaveFewRows (files_in parts) (xorbs_in parts) → total_rows xorb_records (all_of (map (λ p. p.xorbs) parts)) < 2 ^ 32
xorb_rows_fit parts few = omega (arith, few.xorb_rows, ap (total_rows xorb_records) (all_xorbs parts))

-- the footer ends the layout
pub layout_size : (totals : Totals) (footer : MDBShardFileFooter) (files : List MDBFileInfo) (xorbs : List MDBXorbInfo) (version : FormatVersion) (key : DataHash) → All FitsRecord files → HasTotals totals files xorbs → IsFooterOf totals footer
    → footer.footer_offset + 200 ≡ length (layout_of files xorbs (options_under version key))
layout_size totals footer files xorbs version key fit are end =
    omega (
      arith,
      end.offset,
      end.chunks,
      are.files_are,
      are.file_rows,
      are.xorbs_are,
      are.xorb_rows,
      length-with_options files xorbs (options_under version key) fit,
      xorb_rows-chunks xorbs,
      length-chunk_table xorbs,
    )

-- pieces put one after another, with a chunk table in three parts, are the layout
pub pieces_are : (files xorbs : List SectionPart) (parts : List ShardPart) (version : FormatVersion) (key : DataHash) (footer : MDBShardFileFooter) (h fe xe t front rows back f : List ℕ)
    → HoldSections file_records files (map (λ part. part.files) parts) → HoldSections xorb_records xorbs (map (λ part. part.xorbs) parts) → h ≡ shard_header_bytes (header_value version) → fe ≡ file_records.header_bytes file_records.bookend → xe ≡ xorb_records.header_bytes xorb_records.bookend
    → t ≡ table_bytes file_records (files_in parts) ++ table_bytes xorb_records (xorbs_in parts) → chunk_table_bytes (xorbs_in parts) ≡ (front ++ rows) ++ back → f ≡ shard_footer_bytes footer → footer ≡ footer_value (files_in parts) (xorbs_in parts) (options_under version key)
    → ((((((((h ++ flat_map (λ s. s.rows.now) files) ++ fe) ++ flat_map (λ s. s.rows.now) xorbs) ++ xe) ++ t) ++ front) ++ rows) ++ back) ++ f ≡ layout_of (files_in parts) (xorbs_in parts) (options_under version key)
pieces_are files xorbs parts version key footer h fe xe t front rows back f files_held xorbs_held h_is fe_is xe_is t_is c_is f_is footer_is =
    let fs = files_in parts in
    let xs = xorbs_in parts in
    let fr : flat_map (λ s. s.rows.now) files ≡ flat_map file_records.record_bytes fs = rows_of_parts file_records.record_bytes files (map (λ p. p.files) parts) files_held.rows ∙ ap (flat_map file_records.record_bytes) (all_files parts) in
    let xr : flat_map (λ s. s.rows.now) xorbs ≡ flat_map xorb_records.record_bytes xs = rows_of_parts xorb_records.record_bytes xorbs (map (λ p. p.xorbs) parts) xorbs_held.rows ∙ ap (flat_map xorb_records.record_bytes) (all_xorbs parts) in
    let sections : List ℕ = (((h ++ flat_map (λ s. s.rows.now) files) ++ fe) ++ flat_map (λ s. s.rows.now) xorbs) ++ xe in
    let table : (((sections ++ t) ++ front) ++ rows) ++ back ≡ (sections ++ t) ++ chunk_table_bytes xs =
    ap (λ l. l ++ back) (append_assoc (sections ++ t) front rows) ∙ append_assoc (sections ++ t) (front ++ rows) back ∙ ap (λ l. (sections ++ t) ++ l) (sym c_is) in
    let tables : sections ++ t ≡ (sections ++ table_bytes file_records fs) ++ table_bytes xorb_records xs = ap (λ l. sections ++ l) t_is ∙ sym (append_assoc sections (table_bytes file_records fs) (table_bytes xorb_records xs)) in
    ap (λ l. l ++ f) (table ∙ ap (λ l. l ++ chunk_table_bytes xs) tables)
    ∙ (λ i. ((((((((h_is i) ++ fr i) ++ fe_is i) ++ xr i) ++ xe_is i) ++ table_bytes file_records fs) ++ table_bytes xorb_records xs) ++ chunk_table_bytes xs) ++ (f_is ∙ ap shard_footer_bytes footer_is) i)
    ∙ layout_from_parts fs xs version key
