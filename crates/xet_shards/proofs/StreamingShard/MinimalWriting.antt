-- The xorbs and files that a minimal shard writes.
use Rattle.std.proofs.Common.{◌≡◌, Ok, Err, None, ℕ, ◌+◌, ◌*◌, ◌≤◌, Bool, true, false, List, [], ◌∷◌, ◌++◌, length, map, flat_map, Option, refl, sym, ap, ◌∙◌, subst, append-nil, arith}
use Rattle.std.specs.Prelude.{All, IfOk, sum_by, not, ◌&&◌, if◌then◌else◌}
use Rattle.std.specs.Borrow.{Bor}
use Rattle.std.specs.Fn.{Shared, FnReturnsAt}
use Rattle.std.specs.List.{enumerate_from}
use Rattle.std.proofs.lemmas.List.{length-map, map-append}
use Rattle.std.proofs.lemmas.Grind.{flat_map-append}
use Rattle.std.proofs.lemmas.List.Elements.{All-map, All-weaker}
use Rattle.std.proofs.lemmas.List.FromFn.{length-enumerate_from}
use Rattle.std.proofs.lemmas.List.Sums.{sum_by-cons}
use Rattle.xet_base.specs.Errors.{CoreResult}
use Rattle.xet_records.specs.declared.file_structs.MDBFileInfo.{MDBFileInfo}
use Rattle.xet_records.specs.declared.xorb_structs.MDBXorbInfo.{MDBXorbInfo}
use Rattle.xet_records.specs.declared.xorb_structs.XorbChunkSequenceEntry.{XorbChunkSequenceEntry}
use Rattle.xet_records.proofs.Merging.{flags_fit}
use Rattle.xet_records.specs.FileRecord.{file_records, row_count, has_verification, FitsRecord, IsStored}
use Rattle.xet_records.specs.XorbRecord.{xorb_records, xorb_record_bytes, xorb_row_count, HasItsChunks}
use Rattle.xet_records.specs.declared.file_structs.view.KeptParts.{KeptParts}
use Rattle.xet_records.specs.View.{with_verification_if, without_verification, with_aux_if, as_kept}
use Rattle.xet_records.specs.FileRow.{FitsHashRow}
use Rattle.xet_records.specs.Part.{announces, all_but}
use Rattle.xet_records.specs.declared.file_structs.part.OptionalPart.TheVariants.{Verification}
use Rattle.xet_records.proofs.KeptParts.{rows-kept, with_parts_if-all, without_aux-fits}
use Rattle.xet_shards.specs.declared.streaming_shard.file_start.FileStart.{FileStart}
use Rattle.std.specs.Io.KnownBytes.{Appends}
use Rattle.xet_shards.specs.declared.shard_format.write.written.WrittenFiles.{WrittenFiles}
use Rattle.xet_shards.specs.declared.shard_format.write.written.WrittenXorbs.{WrittenXorbs}
use Rattle.xet_shards.specs.Write.Section.{total_rows, section_bytes}
use Rattle.xet_shards.specs.Write.Tables.{table_bytes, chunk_table_bytes}
use Rattle.xet_shards.specs.Write.Written.{HasWritten, HasWrittenFor, end_of_layout}
use Rattle.xet_shards.specs.Steps.MinimalWriting.{WritesMarked}
use Rattle.xet_shards.proofs.Write.Written.{whole_layout}
use Rattle.xet_shards.specs.Write.WithOptions.{FitsSection}
use Rattle.xet_shards.specs.Write.Layout.{LayoutOptions, if_included, layout_of, header_value, footer_value, shard_header_bytes}
use Rattle.xet_shards.specs.StreamingShard.MinimalShard.{MinimalShard, is_start, chunk_of, marked_if, mark_starts, minimal_options, IsKept, WritesBytes, WritesKept, WritesMinimalKept}
use Rattle.xet_shards.specs.Steps.MinimalShardSteps.{HasNoTables}
use Rattle.xet_shards.proofs.Write.Layouts.{length-file_section, length-xorb_section, length-shard_header_bytes, length-shard_footer_bytes}
use Rattle.xet_shards.proofs.ShardInMemory.Sums.{sum-mapped}
use Rattle.xet_shards.proofs.Write.XorbLayouts.{length-parts}

-- marks change no number of rows
pub rows_marked : (starts : FileStart → Bool) (x : MDBXorbInfo) → xorb_row_count (mark_starts starts x) ≡ xorb_row_count x
rows_marked starts x =
    ap (λ n. 1 + n) (length-map (enumerate_from 0 x.chunks) (λ (e : ℕ × XorbChunkSequenceEntry). marked_if (starts (chunk_of x e.0)) e.1) ∙ length-enumerate_from 0 x.chunks)

pub marked_whole : (starts : FileStart → Bool) (x : MDBXorbInfo) → HasItsChunks x → HasItsChunks (mark_starts starts x)
marked_whole starts x whole = omega (arith, rows_marked starts x, whole)

-- the bytes of more xorbs
pub marked_bytes-append : (starts : FileStart → Bool) (xorbs more : List MDBXorbInfo)
    → flat_map xorb_record_bytes (map (mark_starts starts) (xorbs ++ more)) ≡ flat_map xorb_record_bytes (map (mark_starts starts) xorbs) ++ flat_map xorb_record_bytes (map (mark_starts starts) more)
marked_bytes-append starts xorbs more =
    ap (flat_map xorb_record_bytes) (map-append (mark_starts starts) xorbs more) ∙ flat_map-append xorb_record_bytes (map (mark_starts starts) xorbs) (map (mark_starts starts) more)

module _ {X : Type 0} (answers : X → Bool → Type 0) where
  -- one element more is accepted, or it is not
  pub one_kept : (xs kept : List X) (x : X) → IsKept answers xs kept → answers x true → IsKept answers (xs ++ x ∷ []) (kept ++ x ∷ [])
  one_kept [] kept x before accepted = (true, accepted, [], refl, ap (λ ys. ys ++ x ∷ []) before)
  one_kept (y ∷ xs) kept x (b, answer, rest, before, is) accepted =
      (b, answer, rest ++ x ∷ [], one_kept xs rest x before accepted, ap (λ ys. ys ++ x ∷ []) is ∙ also b)
    where
      also : (b : Bool) → (if b then y ∷ rest else rest) ++ x ∷ [] ≡ (if b then y ∷ (rest ++ x ∷ []) else rest ++ x ∷ [])
      also true = refl
      also false = refl

  pub none_kept : (xs kept : List X) (x : X) → IsKept answers xs kept → answers x false → IsKept answers (xs ++ x ∷ []) kept
  none_kept [] kept x before refused = (false, refused, [], refl, before)
  none_kept (y ∷ xs) kept x (b, answer, rest, before, is) refused = (b, answer, rest, none_kept xs rest x before refused, is)

  -- one element more, with its answer
  pub one_answered : (xs kept : List X) (x : X) (accepted : Bool) → IsKept answers xs kept → answers x accepted → IsKept answers (xs ++ x ∷ []) (kept ++ if_included accepted (x ∷ []))
  one_answered xs kept x true before answer = one_kept xs kept x before answer
  one_answered xs kept x false before answer = subst (IsKept answers (xs ++ x ∷ [])) (sym (append-nil kept)) (none_kept xs kept x before answer)

  -- a filter that accepts each keeps all
  pub all_kept : ((x : X) (b : Bool) → answers x b → b ≡ true) → (xs kept : List X) → IsKept answers xs kept → kept ≡ xs
  all_kept each [] kept is = is
  all_kept each (x ∷ xs) kept (b, answer, rest, before, is) =
      is ∙ (λ i. if each x b answer i then x ∷ all_kept each xs rest before i else all_kept each xs rest before i)

-- what a call of a function with a lent value returned, of the value
pub says_at : {F T : Type 0} (g : Shared F (Bor T × Unit {0}) Bool) (f : F) (shown : Bor T) (b c : Bool) → g.post f (shown, tt) b → b ≡ c → FnReturnsAt g f shown.now c
says_at g f shown b c post is = record { shown = shown; shows = refl; says = record { met = subst (λ r. g.post f (shown, tt) r) is post } }

-- those that are kept have no more rows than all
pub rows_kept : (answers : MDBXorbInfo → Bool → Type 0) (starts : FileStart → Bool) (xs kept : List MDBXorbInfo) → IsKept answers xs kept
    → total_rows xorb_records (map (mark_starts starts) kept) ≤ total_rows xorb_records xs
rows_kept answers starts [] kept is = omega (arith, ap (λ ks. total_rows xorb_records (map (mark_starts starts) ks)) is)
rows_kept answers starts (x ∷ xs) kept (true, answer, rest, before, is) =
    omega (
      arith,
      ap (λ ks. total_rows xorb_records (map (mark_starts starts) ks)) is,
      sum_by-cons xorb_row_count (mark_starts starts x) (map (mark_starts starts) rest),
      sum_by-cons xorb_row_count x xs,
      rows_marked starts x,
      rows_kept answers starts xs rest before,
    )
rows_kept answers starts (x ∷ xs) kept (false, answer, rest, before, is) =
    omega (arith, ap (λ ks. total_rows xorb_records (map (mark_starts starts) ks)) is, sum_by-cons xorb_row_count x xs, rows_kept answers starts xs rest before)

-- without verification rows a record has no more rows, and its numbers fit
pub with_verification_if-fits : (wanted : Bool) (r : MDBFileInfo) → FitsRecord r → FitsRecord (with_verification_if wanted r)
with_verification_if-fits wanted r fits = either (has_verification r.metadata.file_flags && not wanted)
  where
    either : (b : Bool) → FitsRecord (if b then without_verification r else r)
    either true = record {
      metadata = record {
        file_hash = fits.metadata.file_hash;
        file_flags = flags_fit (λ part. all_but Verification part && announces r.metadata.file_flags part);
        num_entries = fits.metadata.num_entries;
        unused = omega arith;
      };
      segments = fits.segments;
      parts = with_parts_if-all (all_but Verification) (without_verification r).metadata r FitsHashRow fits.parts;
    }
    either false = fits

-- nor do the parts that are kept, and theirs fit
as_kept-fits : (kept : KeptParts) (r : MDBFileInfo) → FitsRecord r → FitsRecord (as_kept kept r)
as_kept-fits kept r fits = either kept.aux_ext
  where
    either : (b : Bool) → FitsRecord (with_aux_if b (with_verification_if kept.verification r))
    either true = with_verification_if-fits kept.verification r fits
    either false = without_aux-fits (with_verification_if kept.verification r) (with_verification_if-fits kept.verification r fits)

pub as_kept-rows : (kept : KeptParts) (r : MDBFileInfo) → row_count (as_kept kept r) ≤ row_count r
as_kept-rows kept r = rows-kept kept r

pub rows_as_kept : (kept : KeptParts) (files : List MDBFileInfo) → total_rows file_records (map (as_kept kept) files) ≤ total_rows file_records files
rows_as_kept kept files = sum-mapped (as_kept kept) row_count (as_kept-rows kept) files

pub sum_as_kept : (kept : KeptParts) (files : List MDBFileInfo) → total_rows file_records (map (as_kept kept) files) ≡ sum_by (λ r. row_count (as_kept kept r)) files
sum_as_kept kept [] = refl
sum_as_kept kept (r ∷ files) =
    sum_by-cons row_count (as_kept kept r) (map (as_kept kept) files) ∙ ap (λ n. row_count (as_kept kept r) + n) (sum_as_kept kept files)
    ∙ sym (sum_by-cons (λ (s : MDBFileInfo). row_count (as_kept kept s)) r files)

-- no more than those of the whole records
pub few_as_kept : (kept : KeptParts) (files : List MDBFileInfo) → FitsSection file_records files → sum_by (λ r. row_count (as_kept kept r)) files ≤ 4294967295
few_as_kept kept files fit = omega (arith, sum_as_kept kept files, rows_as_kept kept files, fit.rows)

pub fit_as_kept : (kept : KeptParts) (files : List MDBFileInfo) → All IsStored files → All FitsRecord (map (as_kept kept) files)
fit_as_kept kept files stored =
    All-map FitsRecord (as_kept kept) files (All-weaker IsStored (λ r. FitsRecord (as_kept kept r)) (λ r s. as_kept-fits kept r s.widths) files stored)

-- the length of a layout without tables
none_in : {X : Type 0} (is_in : Bool) (xs : List X) → is_in ≡ false → length (if_included is_in xs) ≡ 0
none_in is_in xs out = ap (λ b. length (if_included b xs)) out

length-without_tables : (files : List MDBFileInfo) (xorbs : List MDBXorbInfo) (options : LayoutOptions) → HasNoTables options → All FitsRecord files
    → length (layout_of files xorbs options) ≡ 344 + 48 * total_rows file_records files + 48 * total_rows xorb_records xorbs
length-without_tables files xorbs options tables fit =
    omega (
      arith,
      length-parts files xorbs options,
      length-shard_header_bytes (header_value options.version),
      length-file_section files fit,
      length-xorb_section xorbs,
      none_in options.file_table (table_bytes file_records files) tables.0,
      none_in options.xorb_table (table_bytes xorb_records xorbs) tables.1,
      none_in options.chunk_table (chunk_table_bytes xorbs) tables.2,
      length-shard_footer_bytes (footer_value files xorbs options) refl,
    )

-- header, sections and end of a shard with the xorbs that a filter accepts
pub shard_written : (answers : MDBXorbInfo → Bool → Type 0) (m : MinimalShard) (files : List MDBFileInfo) (options : LayoutOptions) (start after_header after_files after_xorbs end : Option (List ℕ))
    (wf : WrittenFiles) (wx : WrittenXorbs) (starts : FileStart → Bool) (xorbs : List MDBXorbInfo) (n : ℕ)
    → HasNoTables options → All FitsRecord files → starts ≡ is_start m.files → xorbs ≡ m.xorbs
    → Appends start after_header (shard_header_bytes (header_value options.version)) → Appends after_header after_files (section_bytes file_records files) → HasWritten wf files
    → WritesMarked answers starts after_files after_xorbs xorbs wx
    → ((rs : List MDBFileInfo) (xs : List MDBXorbInfo) → All FitsRecord rs → HasWritten wf rs → HasWrittenFor options.chunk_table wx xs → Appends after_xorbs end (end_of_layout rs xs options))
    → n ≡ 344 + 48 * wf.table.rows + 48 * wx.table.rows → WritesKept answers start end files m options n
shard_written answers m files options start after_header after_files after_xorbs end wf wx starts xorbs n tables fit same_starts same_xorbs header section written marked rest count =
    let xs = map (mark_starts (is_start m.files)) marked.kept in
    let without : HasWrittenFor false wx xs = subst (λ s. HasWrittenFor false wx (map (mark_starts s) marked.kept)) same_starts marked.collected in
    let collected : HasWrittenFor options.chunk_table wx xs = subst (λ b. HasWrittenFor b wx xs) (sym tables.2) without in
    let bytes : Appends after_files after_xorbs (section_bytes xorb_records xs) =
    subst (λ s. Appends after_files after_xorbs (section_bytes xorb_records (map (mark_starts s) marked.kept))) same_starts marked.bytes in
    record {
      kept = marked.kept;
      is_kept = subst (λ ys. IsKept answers ys marked.kept) same_xorbs marked.is_kept;
      written = record {
        appended = whole_layout start after_header after_files after_xorbs end files xs options header section bytes (rest files xs fit written collected);
        count = omega (arith, count, written.table.rows, collected.table.rows, length-without_tables files xs options tables fit);
      };
    }

-- a filter that accepts each xorb writes the whole shard
pub all_written : (answers : MDBXorbInfo → Bool → Type 0) → ((x : MDBXorbInfo) (b : Bool) → answers x b → b ≡ true) → (old new : Option (List ℕ)) (kept : KeptParts) (now : ℕ) (m : MinimalShard)
    (r : CoreResult ℕ) → IfOk r (WritesKept answers old new (map (as_kept kept) m.files) m (minimal_options now None)) → IfOk r (WritesMinimalKept old new kept now m)
all_written answers each old new kept now m (Ok n) written =
    subst (λ xs. WritesBytes old new (layout_of (map (as_kept kept) m.files) (map (mark_starts (is_start m.files)) xs) (minimal_options now None)) n)
    (all_kept answers each m.xorbs written.kept written.is_kept) written.written
all_written answers each old new kept now m (Err e) written = tt
