-- The rows and records that bytes spell. Each number and hash is read at its offset in the row.
use Rattle.std.specs.Prelude.{ℕ, zero, suc, ◌*◌, List, [], ◌∷◌, take, drop}
use Rattle.std.specs.Int.{from_le_bytes, w32, w64}
use Rattle.xet_base.specs.declared.merklehash.DataHash.{DataHash}
use Rattle.xet_records.specs.declared.file_structs.header.FileDataSequenceHeader.{FileDataSequenceHeader}
use Rattle.xet_records.specs.declared.file_structs.rows.FileDataSequenceEntry.{FileDataSequenceEntry}
use Rattle.xet_records.specs.declared.file_structs.rows.HashRow.{HashRow}
use Rattle.xet_records.specs.declared.file_structs.MDBFileInfo.{MDBFileInfo}
use Rattle.xet_records.specs.declared.xorb_structs.XorbChunkSequenceHeader.{XorbChunkSequenceHeader}
use Rattle.xet_records.specs.declared.xorb_structs.XorbChunkSequenceEntry.{XorbChunkSequenceEntry}
use Rattle.xet_records.specs.declared.xorb_structs.MDBXorbInfo.{MDBXorbInfo}
use Rattle.xet_records.specs.Part.{optional_rows_after, with_parts, part_of}

-- the number that the four bytes from an offset on spell, lowest byte first
unfoldable pub u32_at : List ℕ → ℕ → ℕ
u32_at bytes at = from_le_bytes w32 (take 4 (drop at bytes))

-- the number that the eight bytes from an offset on spell, lowest byte first
unfoldable pub u64_at : List ℕ → ℕ → ℕ
u64_at bytes at = from_le_bytes w64 (take 8 (drop at bytes))

-- the hash that bytes begin with
abbrev pub hash_at : List ℕ → DataHash
hash_at bytes =
    record {
      word0 = u64_at bytes 0;
      word1 = u64_at bytes 8;
      word2 = u64_at bytes 16;
      word3 = u64_at bytes 24;
    }

-- a file's header, which bytes begin with
unfoldable pub header_at : List ℕ → FileDataSequenceHeader
header_at bytes = record {
  file_hash = hash_at bytes;
  file_flags = u32_at bytes 32;
  num_entries = u32_at bytes 36;
  _unused = u64_at bytes 40;
}

-- the segment that bytes begin with
unfoldable pub segment_at : List ℕ → FileDataSequenceEntry
segment_at bytes = record {
  xorb_hash = hash_at bytes;
  xorb_flags = u32_at bytes 32;
  unpacked_segment_bytes = u32_at bytes 36;
  chunk_index_start = u32_at bytes 40;
  chunk_index_end = u32_at bytes 44;
}

-- the row of an optional part that bytes begin with: a hash and two reserved words
unfoldable pub hash_row_at : List ℕ → HashRow
hash_row_at bytes =
    record { hash = hash_at bytes; _unused = u64_at bytes 32 ∷ u64_at bytes 40 ∷ [] }

-- a xorb's header, which bytes begin with
unfoldable pub xorb_header_at : List ℕ → XorbChunkSequenceHeader
xorb_header_at bytes = record {
  xorb_hash = hash_at bytes;
  xorb_flags = u32_at bytes 32;
  num_entries = u32_at bytes 36;
  num_bytes_in_xorb = u32_at bytes 40;
  num_bytes_on_disk = u32_at bytes 44;
}

-- the row of a chunk that bytes begin with
unfoldable pub chunk_at : List ℕ → XorbChunkSequenceEntry
chunk_at bytes = record {
  chunk_hash = hash_at bytes;
  chunk_byte_range_start = u32_at bytes 32;
  unpacked_segment_bytes = u32_at bytes 36;
  flags = u32_at bytes 40;
  _unused = u32_at bytes 44;
}

-- the first n rows of the bytes
unfoldable pub rows_at : {T : Type 0} → (List ℕ → T) → ℕ → List ℕ → List T
rows_at row_at zero bytes = []
rows_at row_at (suc n) bytes = row_at bytes ∷ rows_at row_at n (drop 48 bytes)

-- the file record with this header that bytes spell: segments after the header, and the rows of its
-- parts after them
unfoldable pub file_at : FileDataSequenceHeader → List ℕ → MDBFileInfo
file_at header bytes =
    let segments = header.num_entries in
    let rows = rows_at hash_row_at (optional_rows_after header) (drop (48 * segments) (drop 48 bytes)) in
    with_parts header (rows_at segment_at segments (drop 48 bytes)) (λ part. part_of part header rows)

-- the xorb record with this header that bytes spell: chunks after the header
unfoldable pub xorb_at : XorbChunkSequenceHeader → List ℕ → MDBXorbInfo
xorb_at header bytes =
    record { metadata = header; chunks = rows_at chunk_at header.num_entries (drop 48 bytes) }
