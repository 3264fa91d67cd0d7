-- The lookup tables: by the first word of a hash, the row at which the record with this hash
-- starts; for a chunk's hash, the row at which the xorb starts and the chunk's index in it.
use Rattle.std.specs.Prelude.{ℕ, List, [], ◌++◌, map, filter, flat_map}
use Rattle.std.specs.List.{enumerate_from}
use Rattle.std.specs.Ordering.{is_lt, nat_cmp, ordering_then}
use Rattle.std.specs.declared.cmp.Ordering.{Ordering}
use Rattle.std.specs.FinMap as finite
use Rattle.xet_base.specs.declared.merklehash.DataHash.{DataHash}
use Rattle.xet_base.specs.Bytes.{u32_bytes, u64_bytes}
use Rattle.xet_base.specs.Hash.{hash_cmp}
use Rattle.xet_records.specs.XorbRecord.{xorb_records}
use Rattle.xet_records.specs.RecordKind.{RecordKind}
use Rattle.xet_records.specs.declared.xorb_structs.MDBXorbInfo.{MDBXorbInfo}
use Rattle.xet_records.specs.declared.xorb_structs.XorbChunkSequenceEntry.{XorbChunkSequenceEntry}
pub use Rattle.xet_shards.specs.declared.shard_format.write.xorb_writer.ChunkTableRow.{ChunkTableRow}
use Rattle.xet_shards.specs.Write.Section.{with_fronts, total_rows}

-- the hash of a record
abbrev pub hash_in : {H R : Type 0} → RecordKind H R → R → DataHash
hash_in K r = K.hash_of (K.header_of r)

-- the row of a record in a table: the first word of its hash, and where it starts, which is the
-- number of rows before it
abbrev pub start_of : {H R : Type 0} → RecordKind H R → List R × R → ℕ × ℕ
start_of K e = ((hash_in K e.1).word0, total_rows K e.0)

-- the rows of the table of a section, in section order
abbrev pub starts : {H R : Type 0} → RecordKind H R → List R → List (ℕ × ℕ)
starts K records = map (start_of K) (with_fronts [] records)

-- the records of a list whose hashes are smaller than one
abbrev pub records_below : {H R : Type 0} → RecordKind H R → DataHash → List R → List R
records_below K q records = filter (λ r. is_lt (hash_cmp (hash_in K r) q)) records

-- the order of the chunk table: by the first word of the hash, then by the row at which the xorb
-- starts, then by the index in the xorb
abbrev pub chunk_table_row_cmp : ChunkTableRow → ChunkTableRow → Ordering
chunk_table_row_cmp a b =
    ordering_then (nat_cmp a.word b.word)
    (ordering_then (nat_cmp a.row b.row) (nat_cmp a.index b.index))

-- the rows of the chunk table for the chunks of a xorb that starts at a row
abbrev pub chunk_table_rows_from : ℕ → List XorbChunkSequenceEntry → List ChunkTableRow
chunk_table_rows_from row chunks =
    map (λ c. record { word = c.1.chunk_hash.word0; row = row; index = c.0 })
    (enumerate_from 0 chunks)

-- the rows of the chunk table for all chunks of a list of xorbs, in section order
abbrev pub chunk_table_rows : List MDBXorbInfo → List ChunkTableRow
chunk_table_rows xorbs =
    flat_map (λ e. chunk_table_rows_from (total_rows xorb_records e.0) e.1.chunks)
    (with_fronts [] xorbs)

-- rows in ascending order: the keys of the finite map that has each of them
abbrev pub ascending_rows : List ChunkTableRow → List ChunkTableRow
ascending_rows rows =
    finite.keys (finite.from_entries {R = chunk_table_row_cmp} (map (λ row. (row, tt {0})) rows))

-- the rows of the chunk table for all chunks of a list of xorbs, in ascending order
abbrev pub chunk_table : List MDBXorbInfo → List ChunkTableRow
chunk_table xorbs = ascending_rows (chunk_table_rows xorbs)

-- the bytes of a row of the file table or the xorb table
abbrev pub start_row : ℕ × ℕ → List ℕ
start_row row = u64_bytes row.0 ++ u32_bytes row.1

-- the bytes of a row of the chunk table
abbrev pub chunk_table_row_bytes : ChunkTableRow → List ℕ
chunk_table_row_bytes row = (u64_bytes row.word ++ u32_bytes row.row) ++ u32_bytes row.index

-- the bytes of the table of a section
unfoldable pub table_bytes : {H R : Type 0} → RecordKind H R → List R → List ℕ
table_bytes K records = flat_map start_row (starts K records)

-- the bytes of the chunk table
unfoldable pub chunk_table_bytes : List MDBXorbInfo → List ℕ
chunk_table_bytes xorbs = flat_map chunk_table_row_bytes (chunk_table xorbs)
