-- What is gathered while a section is written, and what is written after the sections.
use Rattle.std.proofs.Common.{◌≡◌, Bool, true, false, ℕ, ◌+◌, ◌*◌, List, [], ◌∷◌, ◌++◌, length, Option, refl, sym, ap, ◌∙◌, subst, append_assoc, arith, rules}
use Rattle.std.specs.Prelude.{if◌then◌else◌}
use Rattle.std.specs.Io.KnownBytes.{Appends}
use Rattle.std.proofs.KnownBytes.{Appends-trans}
use Rattle.std.proofs.lemmas.Grind.{common_steps}
use Rattle.std.proofs.lemmas.List.{length-append}
use Rattle.std.proofs.lemmas.List.Sums.{sum_by_push}
use Rattle.xet_records.specs.declared.file_structs.MDBFileInfo.{MDBFileInfo}
use Rattle.xet_records.specs.declared.xorb_structs.MDBXorbInfo.{MDBXorbInfo}
use Rattle.xet_records.specs.RecordKind.{RecordKind}
use Rattle.xet_records.specs.FileRecord.{file_records, row_count, size_of_file}
use Rattle.xet_records.specs.XorbRecord.{xorb_records, xorb_row_count}
use Rattle.xet_shards.specs.declared.shard_format.write.written.RecordTable.{RecordTable}
use Rattle.xet_shards.specs.declared.shard_format.write.written.WrittenFiles.{WrittenFiles}
use Rattle.xet_shards.specs.declared.shard_format.write.written.WrittenXorbs.{WrittenXorbs}
use Rattle.xet_shards.specs.Content.Shard.{xorb_hash_of}
use Rattle.xet_shards.specs.Write.Section.{section_bytes}
use Rattle.xet_shards.specs.Write.Tables.{hash_in, starts, table_bytes, chunk_table_rows_from, chunk_table_rows}
use Rattle.xet_shards.specs.Steps.TablesSteps.{AddsChunkRows}
use Rattle.xet_shards.specs.Write.Layout.{LayoutOptions, if_included, shard_header_bytes, header_value, layout_of}
use Rattle.xet_shards.specs.Write.Written.{AddsRecord, IsTableOf, IsFileOf, HasWritten, HasWrittenFor, end_of_layout}
use Rattle.xet_shards.proofs.Write.ChunkTableRows.{chunk_table_rows-push}
use Rattle.xet_shards.proofs.Write.Tables.{table_bytes-push, table_bytes-nil, length-starts, length-table_bytes}

module _ {H R : Type 0} (K : RecordKind H R) where
  pub table_of_none : (table : RecordTable) → table.records ≡ 0 → table.rows ≡ 0 → table.bytes.items ≡ [] → IsTableOf K table []
  table_of_none table records rows bytes = record { records = records; rows = rows; bytes = bytes ∙ sym (table_bytes-nil K) }

  table_of_more : (v w : RecordTable) (records : List R) (r : R) → IsTableOf K v records → AddsRecord v w (hash_in K r).word0 (K.row_count r) → IsTableOf K w (records ++ r ∷ [])
  table_of_more v w records r before added =
      search (rules, length-append, sum_by_push, table_bytes-push)

pub file_written : (v w : WrittenFiles) (word rows bytes : ℕ) → AddsRecord v.table w.table word rows → w.materialized_bytes ≡ v.materialized_bytes + bytes
    → (files : List MDBFileInfo) (r : MDBFileInfo) → HasWritten v files → IsFileOf word rows bytes r → HasWritten w (files ++ r ∷ [])
file_written v w word rows bytes added more files r before is = record {
  table = table_of_more file_records v.table w.table files r before.table
      (subst (λ n. AddsRecord v.table w.table n (row_count r)) (sym is.word) (subst (AddsRecord v.table w.table word) (sym is.rows) added));
  bytes = more ∙ ap (λ n. v.materialized_bytes + n) (sym is.bytes) ∙ ap (λ n. n + size_of_file r) before.bytes ∙ sym (sum_by_push size_of_file files r);
}

pub xorb_written : (wanted : Bool) (v w : WrittenXorbs) (xorbs : List MDBXorbInfo) (r : MDBXorbInfo) → HasWrittenFor wanted v xorbs
    → AddsRecord v.table w.table (xorb_hash_of r).word0 (xorb_row_count r)
    → (wanted ≡ true → AddsChunkRows v.chunk_rows.items w.chunk_rows.items v.table.rows r.chunks)
    → w.stored_bytes ≡ v.stored_bytes + r.metadata.num_bytes_in_xorb → w.stored_bytes_on_disk ≡ v.stored_bytes_on_disk + r.metadata.num_bytes_on_disk
    → HasWrittenFor wanted w (xorbs ++ r ∷ [])
xorb_written wanted v w xorbs r before added chunk_rows bytes bytes_on_disk = record {
  table = table_of_more xorb_records v.table w.table xorbs r before.table added;
  chunk_rows = λ is_wanted. chunk_rows is_wanted ∙ ap (λ rows. rows ++ chunk_table_rows_from v.table.rows r.chunks) (before.chunk_rows is_wanted)
      ∙ ap (λ n. chunk_table_rows xorbs ++ chunk_table_rows_from n r.chunks) before.table.rows ∙ sym (chunk_table_rows-push xorbs r);
  bytes = bytes ∙ ap (λ n. n + r.metadata.num_bytes_in_xorb) before.bytes ∙ sym (sum_by_push (λ (x : MDBXorbInfo). x.metadata.num_bytes_in_xorb) xorbs r);
  bytes_on_disk = bytes_on_disk ∙ ap (λ n. n + r.metadata.num_bytes_on_disk) before.bytes_on_disk
      ∙ sym (sum_by_push (λ (x : MDBXorbInfo). x.metadata.num_bytes_on_disk) xorbs r);
}

-- the rows of a table that is in, or none, and their bytes
pub rows_of_table : {X : Type 0} (b : Bool) (rows : List X) (n : ℕ) → n ≡ length rows → (if b then n else 0) ≡ length (if_included b rows)
rows_of_table true rows n is = is
rows_of_table false rows n is = refl

pub bytes_of_table : {H R : Type 0} (K : RecordKind H R) (b : Bool) (records : List R) → length (if_included b (table_bytes K records)) ≡ 12 * length (if_included b (starts K records))
bytes_of_table K true records = length-table_bytes K records ∙ ap (λ n. 12 * n) (sym (length-starts K records))
bytes_of_table K false records = refl

-- header, sections and end are the layout
pub layout-parts : (files : List MDBFileInfo) (xorbs : List MDBXorbInfo) (options : LayoutOptions)
    → ((shard_header_bytes (header_value options.version) ++ section_bytes file_records files) ++ section_bytes xorb_records xorbs) ++ end_of_layout files xorbs options ≡ layout_of files xorbs options
unfolding layout_of
layout-parts files xorbs options = simp (append_assoc)

-- so are they where they were written one after another
pub whole_layout : (start after_header after_files after_xorbs end : Option (List ℕ)) (files : List MDBFileInfo) (xorbs : List MDBXorbInfo) (options : LayoutOptions)
    → Appends start after_header (shard_header_bytes (header_value options.version)) → Appends after_header after_files (section_bytes file_records files)
    → Appends after_files after_xorbs (section_bytes xorb_records xorbs) → Appends after_xorbs end (end_of_layout files xorbs options)
    → Appends start end (layout_of files xorbs options)
whole_layout start after_header after_files after_xorbs end files xorbs options header file_section xorb_section rest =
    grind (arith, common_steps, layout-parts, Appends-trans)
