-- The rows of records that stay where they are, and what is collected of them.
use Rattle.std.proofs.Common.{◌≡◌, true, ℕ, ◌+◌, ◌*◌, ◌<◌, List, [], ◌∷◌, ◌++◌, length, flat_map, take, drop, get_or, Some, refl, sym, ap, ◌∙◌, subst, arith, append_assoc}
use Rattle.std.specs.List.{slice_get}
use Rattle.std.proofs.lemmas.List.{take_all, take_more}
use Rattle.std.proofs.lemmas.Option.{get_or_from_slice_get}
use Rattle.xet_records.specs.declared.file_structs.header.FileDataSequenceHeader.{FileDataSequenceHeader}
use Rattle.xet_records.specs.declared.file_structs.MDBFileInfo.{MDBFileInfo}
use Rattle.xet_records.specs.declared.xorb_structs.MDBXorbInfo.{MDBXorbInfo}
use Rattle.xet_records.specs.declared.xorb_structs.XorbChunkSequenceHeader.{XorbChunkSequenceHeader}
use Rattle.xet_records.specs.FileRecord.{file_records, file_rows_bytes, rows_after, size_of_file}
use Rattle.xet_records.specs.FileRow.{hash_row, segment_row}
use Rattle.xet_records.specs.Part.{optional_rows}
use Rattle.xet_records.specs.Rows.{ReadsRow}
use Rattle.xet_records.specs.XorbRecord.{xorb_records}
use Rattle.xet_records.proofs.RecordKinds.{file_laws}
use Rattle.xet_records.proofs.RowsWithin.{HasRows, RowLaws, row_at_index}
use Rattle.xet_shards.specs.declared.shard_format.read.placed_record.PlacedRecord.{PlacedRecord}
use Rattle.xet_shards.specs.declared.shard_format.write.written.WrittenXorbs.{WrittenXorbs}
use Rattle.xet_shards.specs.Read.PlacedRecord.{StoresRecord}
use Rattle.xet_shards.specs.Steps.Collecting.{BeginsWithRows, BeginsWithSegments, BeginsWithChunks}
use Rattle.xet_shards.specs.Steps.TablesSteps.{AddsChunkRows}
use Rattle.xet_shards.specs.Write.Written.{AddsRecord, IsFileOf, HasWrittenXorbs}
use Rattle.xet_shards.proofs.Write.Written.{xorb_written}

-- rows at the front of bytes
module _ {T : Type 0} (row_bytes : T → List ℕ) (Fits : T → Type 0) (laws : RowLaws row_bytes Fits) (bytes : List ℕ) (count : ℕ) (rows : List T) (begins : BeginsWithRows row_bytes Fits bytes count rows) where
  has_rows : HasRows row_bytes Fits bytes 0 rows
  has_rows = record { before = []; after = begins.rest; start_is = refl; fit = begins.fit; bytes_are = begins.bytes_are }

  -- the one at an index
  pub row_there : (i : ℕ) (row : T) → i < count → ReadsRow row_bytes Fits (λ t. t) (λ taken. taken ≡ take 48 (drop (48 * i) bytes)) row → slice_get rows i ≡ Some row
  row_there i row below read =
      let found = row_at_index row_bytes Fits laws (λ t. t) bytes 0 rows i i row has_rows (omega (arith, below, begins.count_is)) (omega arith) read in
      found.1 ∙ ap Some found.2

  pub one_row_more : (i : ℕ) (row : T) → i < count → ReadsRow row_bytes Fits (λ t. t) (λ taken. taken ≡ take 48 (drop (48 * i) bytes)) row → take (i + 1) rows ≡ take i rows ++ row ∷ []
  one_row_more i row below read =
      take_more rows i row (omega (arith, below, begins.count_is)) ∙ ap (λ y. take i rows ++ y ∷ []) (get_or_from_slice_get rows i row row (row_there i row below read))

  pub row_or : (i : ℕ) (row d : T) → i < count → ReadsRow row_bytes Fits (λ t. t) (λ taken. taken ≡ take 48 (drop (48 * i) bytes)) row → get_or rows i d ≡ row
  row_or i row d below read = get_or_from_slice_get rows i row d (row_there i row below read)

  -- all of them
  pub all_rows : take count rows ≡ rows
  all_rows = take_all count rows (omega (arith, begins.count_is))

-- the rows of a file begin with its segments
module _ (p : PlacedRecord FileDataSequenceHeader) (r : MDBFileInfo) (there : StoresRecord file_records p r) where
  pub segments_first : BeginsWithSegments p.rows.now p.header.num_entries r.segments
  unfolding file_rows_bytes
  segments_first = record {
    rest = flat_map hash_row (optional_rows r) ++ there.rest;
    fit = there.is_stored.widths.segments;
    count_is = there.is_stored.whole.segments ∙ ap (λ (h : FileDataSequenceHeader). h.num_entries) (sym there.header_is);
    bytes_are = there.rows_are ∙ append_assoc (flat_map segment_row r.segments) (flat_map hash_row (optional_rows r)) there.rest;
  }

  pub file_at : (total size : ℕ) → total ≡ 1 + rows_after p.header → size ≡ size_of_file r → IsFileOf p.header.file_hash.word0 total size r
  file_at total size total_is size_is = record {
    word = ap (λ (h : FileDataSequenceHeader). h.file_hash.word0) (sym there.header_is);
    rows = file_laws.rows r there.is_stored ∙ ap (λ h. 1 + rows_after h) (sym there.header_is) ∙ sym total_is;
    bytes = sym size_is;
  }

  pub read_file_at : (total size : ℕ) → IsFileOf p.header.file_hash.word0 total size r → IsFileOf p.header.file_hash.word0 total size (file_records.as_read r)
  read_file_at total size is = record { word = is.word; rows = file_laws.same_rows r ∙ is.rows; bytes = is.bytes }

-- those of a xorb are its chunks
module _ (p : PlacedRecord XorbChunkSequenceHeader) (r : MDBXorbInfo) (there : StoresRecord xorb_records p r) where
  pub chunks_first : BeginsWithChunks p.rows.now p.header.num_entries r.chunks
  chunks_first = record {
    rest = there.rest;
    fit = there.is_stored.widths.chunks;
    count_is = there.is_stored.count ∙ ap (λ (h : XorbChunkSequenceHeader). h.num_entries) (sym there.header_is);
    bytes_are = there.rows_are;
  }

  pub xorb_at : (v w : WrittenXorbs) → AddsRecord v.table w.table p.header.xorb_hash.word0 (1 + p.header.num_entries) → AddsChunkRows v.chunk_rows.items w.chunk_rows.items v.table.rows r.chunks
      → w.stored_bytes ≡ v.stored_bytes + p.header.num_bytes_in_xorb → w.stored_bytes_on_disk ≡ v.stored_bytes_on_disk + p.header.num_bytes_on_disk
      → (front : List MDBXorbInfo) → HasWrittenXorbs v front → HasWrittenXorbs w (front ++ r ∷ [])
  xorb_at v w table chunk_rows bytes bytes_on_disk front have =
      let of_header : (h : XorbChunkSequenceHeader) → p.header ≡ h → length r.chunks ≡ h.num_entries → AddsRecord v.table w.table h.xorb_hash.word0 (1 + length r.chunks) =
      λ h is count. subst (λ n. AddsRecord v.table w.table h.xorb_hash.word0 (1 + n)) (sym count) (subst (λ (g : XorbChunkSequenceHeader). AddsRecord v.table w.table g.xorb_hash.word0 (1 + g.num_entries)) is table) in
      xorb_written true v w front r have (of_header r.metadata there.header_is there.is_stored.count) (λ _. chunk_rows)
      (bytes ∙ ap (λ (h : XorbChunkSequenceHeader). v.stored_bytes + h.num_bytes_in_xorb) there.header_is)
      (bytes_on_disk ∙ ap (λ (h : XorbChunkSequenceHeader). v.stored_bytes_on_disk + h.num_bytes_on_disk) there.header_is)
