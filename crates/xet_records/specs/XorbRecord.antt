-- A xorb record: a header and its chunks.
use Rattle.std.specs.Prelude.{◌≡◌, ◌≢◌, ℕ, ◌+◌, ◌≤◌, false, List, [], ◌∷◌, ◌++◌, length, map, flat_map, sum_by, All}
use Rattle.xet_base.specs.declared.merklehash.DataHash.{DataHash}
use Rattle.xet_base.specs.Hash.{all_ones}
use Rattle.xet_records.specs.declared.file_structs.rows.FileDataSequenceEntry.{FileDataSequenceEntry}
use Rattle.xet_records.specs.declared.xorb_structs.XorbChunkSequenceEntry.{XorbChunkSequenceEntry}
use Rattle.xet_records.specs.declared.xorb_structs.XorbChunkSequenceHeader.{XorbChunkSequenceHeader}
use Rattle.xet_records.specs.declared.xorb_structs.MDBXorbInfo.{MDBXorbInfo}
use Rattle.xet_records.specs.RecordKind.{RecordKind}
use Rattle.xet_records.specs.XorbRow.{xorb_header_row, chunk_row, FitsXorbHeader, FitsChunk}
use Rattle.xet_records.specs.Limits.{MAX_ROWS}

-- the header that ends a section: the all-ones hash, all else zero
abbrev pub xorb_bookend : XorbChunkSequenceHeader
xorb_bookend =
    record {
      xorb_hash = all_ones;
      xorb_flags = 0;
      num_entries = 0;
      num_bytes_in_xorb = 0;
      num_bytes_on_disk = 0;
    }

-- the rows of a record, its header included
abbrev pub xorb_row_count : MDBXorbInfo → ℕ
xorb_row_count r = 1 + length r.chunks

-- the rows of a record in order
unfoldable pub xorb_record_bytes : MDBXorbInfo → List ℕ
xorb_record_bytes r = xorb_header_row r.metadata ++ flat_map chunk_row r.chunks

-- the number of bytes of these chunks together
abbrev pub total_bytes : List XorbChunkSequenceEntry → ℕ
total_bytes cs = sum_by (λ c. c.unpacked_segment_bytes) cs

-- the number of bytes of a xorb's chunks together
abbrev pub size_of_chunks : MDBXorbInfo → ℕ
size_of_chunks r = total_bytes r.chunks

-- the offset of a chunk's end in the xorb's bytes
abbrev pub end_of_chunk : XorbChunkSequenceEntry → ℕ
end_of_chunk c = c.chunk_byte_range_start + c.unpacked_segment_bytes

-- each chunk's hash with the offset of its end
abbrev pub boundaries : List XorbChunkSequenceEntry → List (DataHash × ℕ)
boundaries cs = map (λ c. (c.chunk_hash, end_of_chunk c)) cs

-- the segment of nothing
abbrev pub default_segment : FileDataSequenceEntry
default_segment =
    record {
      xorb_hash = record { word0 = 0; word1 = 0; word2 = 0; word3 = 0 };
      xorb_flags = 0;
      unpacked_segment_bytes = 0;
      chunk_index_start = 0;
      chunk_index_end = 0;
    }

-- the segment of a file that has these chunks of a xorb, at the indices from one up to another
abbrev pub segment_of : XorbChunkSequenceHeader → List XorbChunkSequenceEntry → ℕ → ℕ
    → FileDataSequenceEntry
segment_of h [] from to = default_segment
segment_of h (c ∷ cs) from to =
    record {
      xorb_hash = h.xorb_hash;
      xorb_flags = h.xorb_flags;
      unpacked_segment_bytes = total_bytes (c ∷ cs);
      chunk_index_start = from;
      chunk_index_end = to;
    }

-- the widths of a record's numbers
pub record FitsXorb (r : MDBXorbInfo) : Type 0 where
  pub metadata : FitsXorbHeader r.metadata
  pub chunks : All FitsChunk r.chunks

-- a record has the chunks that its header announces
abbrev pub HasItsChunks : MDBXorbInfo → Type 0
HasItsChunks r = length r.chunks ≡ r.metadata.num_entries

-- a record that may be in a section: not a bookend, whole, and its numbers within their widths
pub record IsStoredXorb (r : MDBXorbInfo) : Type 0 where
  pub is_xorb : r.metadata.xorb_hash ≢ all_ones
  pub count : HasItsChunks r
  pub widths : FitsXorb r

-- a record that may be put into a shard
pub record IsXorb (r : MDBXorbInfo) : Type 0 where
  pub is_xorb : r.metadata.xorb_hash ≢ all_ones
  pub count : HasItsChunks r
  pub rows : xorb_row_count r ≤ MAX_ROWS
  pub bytes : size_of_chunks r ≤ 4294967295
  pub widths : FitsXorb r

-- the records of the xorb section, which reading returns as they are stored
abbrev pub xorb_records : RecordKind XorbChunkSequenceHeader MDBXorbInfo
xorb_records = record {
  header_of = λ r. r.metadata;
  hash_of = λ h. h.xorb_hash;
  header_bytes = xorb_header_row;
  bookend = xorb_bookend;
  Fits = FitsXorbHeader;
  rows_after = λ h. h.num_entries;
  is_new = λ h. false;
  refuses = λ h. false;
  bytes_after = λ r. flat_map chunk_row r.chunks;
  record_bytes = xorb_record_bytes;
  row_count = xorb_row_count;
  IsStored = IsStoredXorb;
  as_read = λ r. r;
}
