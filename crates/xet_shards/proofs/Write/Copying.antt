-- A record whose rows were copied is one that was read, and added to what was gathered.
use Rattle.std.proofs.Common.{◌≡◌, ◌≢◌, ℕ, ◌+◌, List, [], ◌∷◌, ◌++◌, length, Option, true, sym, ap, ◌∙◌, subst, append-nil, append_assoc}
use Rattle.std.specs.Io.KnownBytes.{Appends}
use Rattle.std.proofs.KnownBytes.{Appends-trans}
use Rattle.std.proofs.lemmas.List.{length-map}
use Rattle.xet_base.specs.Hash.{all_ones}
use Rattle.xet_records.specs.declared.file_structs.header.FileDataSequenceHeader.{FileDataSequenceHeader}
use Rattle.xet_records.specs.declared.file_structs.MDBFileInfo.{MDBFileInfo}
use Rattle.xet_records.specs.declared.xorb_structs.XorbChunkSequenceHeader.{XorbChunkSequenceHeader}
use Rattle.xet_records.specs.declared.xorb_structs.XorbChunkSequenceEntry.{XorbChunkSequenceEntry}
use Rattle.xet_records.specs.RecordKind.{RecordKind}
use Rattle.xet_records.specs.Copying.{CopiesRows, CopiesFile}
use Rattle.xet_records.specs.FileRow.{header_row}
use Rattle.xet_records.specs.FileRecord.{file_records, file_record_bytes, file_rows_bytes, rows_after}
use Rattle.xet_records.specs.XorbRow.{xorb_header_row, chunk_row, FitsChunk}
use Rattle.xet_records.specs.XorbRecord.{xorb_records, xorb_record_bytes}
use Rattle.xet_records.specs.Reading.{ReadsRowsAfter}
use Rattle.xet_records.specs.Rows.{ReadsRows}
use Rattle.xet_records.proofs.RecordKinds.{KindLaws, file_laws, chunks_after}
use Rattle.xet_shards.specs.declared.shard_format.write.written.WrittenFiles.{WrittenFiles}
use Rattle.xet_shards.specs.declared.shard_format.write.written.WrittenXorbs.{WrittenXorbs}
use Rattle.xet_shards.specs.Write.Tables.{ChunkTableRow, chunk_table_rows_from}
use Rattle.xet_shards.specs.Steps.TablesSteps.{AddsChunkRows}
use Rattle.xet_shards.specs.Write.RecordCopying.{CopiesRecord}
use Rattle.xet_shards.specs.Write.Written.{AddsRecord, IsFileOf, HasWritten, HasWrittenXorbs}
use Rattle.xet_shards.proofs.Write.ChunkTableRows.{chunk_table_row, chunk_table_rows_from-push}
use Rattle.xet_shards.proofs.Write.Written.{xorb_written}

-- the header and the rows of a record, as reading returns it
module _ {H R : Type 0} (K : RecordKind H R) (laws : KindLaws K) (Took : List ℕ → Type 0) (h : H) (found : R) (read : ReadsRowsAfter K h Took found) where
  pub header_returned : K.header_of found ≡ h
  header_returned = ap K.header_of (sym read.returned) ∙ laws.same_header read.stored ∙ read.same_header

  pub rows_returned : K.hash_of h ≢ all_ones → K.Fits h → K.row_count found ≡ 1 + K.rows_after h
  rows_returned is_record fits =
      ap K.row_count (sym read.returned) ∙ laws.same_rows read.stored ∙ laws.rows read.stored (read.is_stored is_record fits) ∙ ap (λ g. 1 + K.rows_after g) read.same_header

module _ (Took : List ℕ → Type 0) (start mid new : Option (List ℕ)) where
  pub file_record_copied : (h : FileDataSequenceHeader) (total size : ℕ) (v w : WrittenFiles) → h.file_hash ≢ all_ones → file_records.Fits h → total ≡ 1 + rows_after h
      → Appends start mid (header_row h) → CopiesFile Took mid new h size
      → ((before : List MDBFileInfo) → (file : MDBFileInfo) → HasWritten v before → IsFileOf h.file_hash.word0 total size file → HasWritten w (before ++ file ∷ []))
      → CopiesRecord file_records h Took start new (HasWritten v) (HasWritten w)
  unfolding file_record_bytes
  file_record_copied h total size v w is_file fits counted front copied adds =
      let same = header_returned file_records file_laws Took h copied.found copied.read in
      record {
        found = copied.found;
        read = copied.read;
        bytes = subst (λ g. Appends start new (header_row g ++ file_rows_bytes copied.found)) (sym same) (Appends-trans start mid new _ _ front copied.written);
        written = λ before have. adds before copied.found have (record {
          word = ap (λ (g : FileDataSequenceHeader). g.file_hash.word0) same;
          rows = rows_returned file_records file_laws Took h copied.found copied.read is_file fits ∙ sym counted;
          bytes = sym copied.size_is;
        });
      }

  pub xorb_record_copied : (h : XorbChunkSequenceHeader) (chunks : List XorbChunkSequenceEntry) (v w : WrittenXorbs) → Appends start mid (xorb_header_row h)
      → CopiesRows chunk_row FitsChunk (λ c. c) Took mid new h.num_entries chunks → AddsRecord v.table w.table h.xorb_hash.word0 (1 + h.num_entries)
      → AddsChunkRows v.chunk_rows.items w.chunk_rows.items v.table.rows chunks → w.stored_bytes ≡ v.stored_bytes + h.num_bytes_in_xorb
      → w.stored_bytes_on_disk ≡ v.stored_bytes_on_disk + h.num_bytes_on_disk → CopiesRecord xorb_records h Took start new (HasWrittenXorbs v) (HasWrittenXorbs w)
  unfolding xorb_record_bytes
  xorb_record_copied h chunks v w front copied table chunk_rows bytes bytes_on_disk =
      let count : length chunks ≡ h.num_entries = ap length (sym copied.read.returned) ∙ length-map copied.read.stored (λ c. c) ∙ copied.read.len in
      record {
        found = record { metadata = h; chunks = chunks };
        read = chunks_after Took h chunks copied.read;
        bytes = Appends-trans start mid new _ _ front copied.written;
        written = λ before have. xorb_written true v w before (record { metadata = h; chunks = chunks }) have
            (subst (λ n. AddsRecord v.table w.table h.xorb_hash.word0 (1 + n)) (sym count) table) (λ _. chunk_rows) bytes bytes_on_disk;
      }

-- the rows of the chunk table that were added
pub no_chunk_rows : (old : List ChunkTableRow) (row : ℕ) → AddsChunkRows old old row []
no_chunk_rows old row = sym (append-nil old)

pub more_chunk_rows : (Took : List ℕ → Type 0) (old now new : List ChunkTableRow) (row index : ℕ) (chunks : List XorbChunkSequenceEntry) (chunk : XorbChunkSequenceEntry)
    → ReadsRows chunk_row FitsChunk (λ c. c) Took index chunks → AddsChunkRows old now row chunks
    → new ≡ now ++ chunk_table_row row index chunk ∷ [] → AddsChunkRows old new row (chunks ++ chunk ∷ [])
more_chunk_rows Took old now new row index chunks chunk read so_far one =
    let count : index ≡ length chunks = sym read.len ∙ sym (length-map read.stored (λ c. c)) ∙ ap length read.returned in
    one ∙ (λ i. so_far i ++ chunk_table_row row (count i) chunk ∷ [])
    ∙ append_assoc old (chunk_table_rows_from row chunks) (chunk_table_row row (length chunks) chunk ∷ [])
    ∙ ap (λ rows. old ++ rows) (sym (chunk_table_rows_from-push row chunks chunk))
