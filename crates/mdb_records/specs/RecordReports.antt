-- What is reported of records.
use Rattle.std.specs.Prelude.{◌≡◌, ◌↔◌, ℕ, Bool, List, map, option_map, is_some, IfSome, IsTrue}
use Rattle.xet_records.specs.declared.file_structs.FileDataSequenceEntry.{FileDataSequenceEntry}
use Rattle.xet_records.specs.declared.file_structs.MDBFileInfo.{MDBFileInfo}
use Rattle.xet_records.specs.declared.xorb_structs.MDBXorbInfo.{MDBXorbInfo}
use Rattle.xet_records.specs.declared.xorb_structs.XorbChunkSequenceEntry.{XorbChunkSequenceEntry}
use Rattle.xet_records.specs.FileRecord.{size_of_file}
use Rattle.xet_records.specs.XorbRow.{IsEligibleChunk}
use Rattle.mdb_records.specs.declared.records.FileReport.{FileReport}
use Rattle.mdb_records.specs.declared.records.FileRows.{FileRows}
use Rattle.mdb_records.specs.declared.records.SegmentReport.{SegmentReport}
use Rattle.mdb_records.specs.declared.records.XorbReport.{XorbReport}
use Rattle.mdb_records.specs.declared.records.ChunkReport.{ChunkReport}
use Rattle.mdb_records.specs.declared.records.ChunkRest.{ChunkRest}
use Rattle.mdb_records.specs.declared.records.ChunkRow.{ChunkRow}

-- the report of a segment: its xorb, its flags, the index of its first chunk, that after its last,
-- and its bytes
abbrev pub segment_report : FileDataSequenceEntry → SegmentReport
segment_report s =
    record {
      xorb = record { 0 = s.xorb_hash };
      flags = s.xorb_flags;
      start = s.chunk_index_start;
      end = s.chunk_index_end;
      bytes = s.unpacked_segment_bytes;
    }

-- the report of a chunk in its xorb: its hash, its flags, where it starts in the xorb, and its
-- bytes
abbrev pub chunk_row_of : XorbChunkSequenceEntry → ChunkRow
chunk_row_of c =
    record {
      chunk = record { 0 = c.chunk_hash };
      flags = c.flags;
      start = c.chunk_byte_range_start;
      bytes = c.unpacked_segment_bytes;
    }

-- all rows of a file are there
pub record ReportsRows (file : MDBFileInfo) (rows : FileRows) : Type 0 where
  pub segments : rows.segments.items ≡ map segment_report file.segments
  pub verification : rows.verification.items
      ≡ map (λ row. record { 0 = row.hash }) file.verification
  pub sha256 : rows.sha256 ≡ option_map (λ row. record { 0 = row.hash }) file.metadata_ext
  pub aux : rows.aux ≡ option_map (λ row. record { 0 = row.hash }) file.aux_ext

-- the report is of this file, with its rows if they are wanted, and else with none
pub record ReportsFile (file : MDBFileInfo) (with_rows : Bool) (report : FileReport)
    : Type 0 where
  pub hash : report.file.0 ≡ file.metadata.file_hash
  pub flags : report.flags ≡ file.metadata.file_flags
  pub segments : report.segments ≡ file.metadata.num_entries
  pub bytes : report.bytes ≡ size_of_file file
  pub has_rows : is_some report.rows ≡ with_rows
  pub rows : IfSome report.rows (ReportsRows file)

-- the report is of this xorb, with its chunks if they are wanted, and else with none
pub record ReportsXorb (xorb : MDBXorbInfo) (with_rows : Bool) (report : XorbReport)
    : Type 0 where
  pub hash : report.xorb.0 ≡ xorb.metadata.xorb_hash
  pub flags : report.flags ≡ xorb.metadata.xorb_flags
  -- how many chunks the xorb has
  pub chunks : report.chunks ≡ xorb.metadata.num_entries
  -- its size in bytes
  pub bytes : report.bytes ≡ xorb.metadata.num_bytes_in_xorb
  pub bytes_on_disk : report.bytes_on_disk ≡ xorb.metadata.num_bytes_on_disk
  -- the report has a row for each chunk exactly if these are wanted
  pub has_rows : is_some report.rows ≡ with_rows
  pub rows : IfSome report.rows (λ rows. rows.items ≡ map chunk_row_of xorb.chunks)

-- what else is known of a chunk, and whether the global index keeps it
pub record ReportsRest (chunk : XorbChunkSequenceEntry) (rest : ChunkRest) : Type 0 where
  pub flags : rest.flags ≡ chunk.flags
  pub start : rest.start ≡ chunk.chunk_byte_range_start
  pub eligible : IsTrue rest.eligible ↔ IsEligibleChunk chunk

-- the report is of this chunk, at this index of the xorb, with the rest if all is wanted, and else
-- without
pub record ReportsChunk (xorb : MDBXorbInfo) (index : ℕ) (chunk : XorbChunkSequenceEntry)
    (whole : Bool) (report : ChunkReport) : Type 0 where
  pub hash : report.chunk.0 ≡ chunk.chunk_hash
  pub xorb_hash : report.xorb.0 ≡ xorb.metadata.xorb_hash
  pub index_is : report.index ≡ index
  pub bytes : report.bytes ≡ chunk.unpacked_segment_bytes
  pub has_rest : is_some report.rest ≡ whole
  pub rest : IfSome report.rest (ReportsRest chunk)
