-- Worked examples: the offsets of the parts of small shards, and runs of chunks.
use Rattle.std.proofs.Common.{◌≡◌, ℕ, ◌+◌, List, [], ◌∷◌, map, flat_map, length, None, refl, ap}
use Rattle.std.proofs.lemmas.List.Elements.{All-nil}
use Rattle.xet_base.specs.declared.merklehash.DataHash.{DataHash}
use Rattle.xet_base.specs.Bytes.{u32_bytes, u64_bytes}
use Rattle.xet_base.specs.Hash.{hash_bytes}
use Rattle.xet_records.specs.declared.file_structs.MDBFileInfo.{MDBFileInfo}
use Rattle.xet_records.specs.declared.xorb_structs.MDBXorbInfo.{MDBXorbInfo}
use Rattle.xet_records.specs.declared.xorb_structs.XorbChunkSequenceEntry.{XorbChunkSequenceEntry}
use Rattle.xet_records.specs.declared.file_structs.rows.FileDataSequenceEntry.{FileDataSequenceEntry}
use Rattle.xet_records.specs.FileRow.{header_row, segment_row}
use Rattle.xet_records.specs.FileRecord.{file_record_bytes, file_rows_bytes, FitsRecord}
use Rattle.xet_records.specs.XorbRow.{xorb_header_row, chunk_row}
use Rattle.xet_records.specs.XorbRecord.{xorb_record_bytes}
use Rattle.xet_shards.specs.declared.shard_format.ends.footer.MDBShardFileFooter.{MDBShardFileFooter}
use Rattle.xet_shards.specs.Write.Section.{section_bytes}
use Rattle.xet_base.specs.KeyedHash.{no_key}
use Rattle.xet_shards.specs.ShardInMemory.ChunkQuery.{run_at}
use Rattle.xet_shards.proofs.Write.Tables.{chunk_table_row_total}
use Rattle.xet_shards.specs.Write.Tables.{ChunkTableRow, chunk_table_row_cmp, chunk_table_rows, ascending_rows, chunk_table, chunk_table_row_bytes, table_bytes, chunk_table_bytes}
use Rattle.xet_shards.specs.Write.Layout.{footer_value, layout_of, plain_options}
use Rattle.xet_shards.proofs.Write.ChunkTableRows.{ascending_rows-nil}
use Rattle.xet_shards.proofs.Content.Maps.{put_all, entries-from_entries}
use Rattle.xet_shards.proofs.Write.XorbLayouts.{length-layout_of}

-- the hash with the words n, 1, 0 and 0
abbrev small_hash : ℕ → DataHash
small_hash n = record { word0 = n; word1 = 1; word2 = 0; word3 = 0 }

-- a file of the chunks 0 to 5, 5 bytes, of one xorb
abbrev file : ℕ → ℕ → MDBFileInfo
file hash xorb = record {
  metadata = record { file_hash = small_hash hash; file_flags = 0; num_entries = 1; _unused = 0 };
  segments = record { xorb_hash = small_hash xorb; xorb_flags = 0; unpacked_segment_bytes = 5; chunk_index_start = 0; chunk_index_end = 5 } ∷ [];
  verification = [];
  metadata_ext = None;
  aux_ext = None;
}

-- a xorb of one chunk of 5 bytes
abbrev xorb : ℕ → ℕ → MDBXorbInfo
xorb hash chunk = record {
  metadata = record { xorb_hash = small_hash hash; xorb_flags = 0; num_entries = 1; num_bytes_in_xorb = 5; num_bytes_on_disk = 0 };
  chunks = record { chunk_hash = small_hash chunk; chunk_byte_range_start = 0; unpacked_segment_bytes = 5; flags = 0; _unused = 0 } ∷ [];
}

-- the offsets of file section, xorb section, the three tables and the footer
abbrev offsets : MDBShardFileFooter → List ℕ
offsets f = f.file_info_offset ∷ f.xorb_info_offset ∷ f.file_lookup_offset ∷ f.xorb_lookup_offset ∷ f.chunk_lookup_offset ∷ f.footer_offset ∷ []

-- the sums in a footer: stored bytes, bytes of files, and bytes on disk
abbrev sums : MDBShardFileFooter → List ℕ
sums f = f.stored_bytes ∷ f.materialized_bytes ∷ f.stored_bytes_on_disk ∷ []

ascending_is : (ps : List ChunkTableRow) → ascending_rows ps ≡ map (λ e. e.0) (put_all chunk_table_row_cmp (map (λ p. (p, tt {0})) ps))
ascending_is ps = ap (map (λ e. e.0)) (entries-from_entries chunk_table_row_total (map (λ p. (p, tt {0})) ps))

-- a chunk that is in two xorbs
pub chunks_of_two : chunk_table (xorb 10 21 ∷ xorb 11 21 ∷ []) ≡ record { word = 21; row = 0; index = 0 } ∷ record { word = 21; row = 2; index = 0 } ∷ []
chunks_of_two = ascending_is (chunk_table_rows (xorb 10 21 ∷ xorb 11 21 ∷ []))

chunks_of_p : chunk_table (xorb 10 21 ∷ []) ≡ record { word = 21; row = 0; index = 0 } ∷ []
chunks_of_p = ascending_is (chunk_table_rows (xorb 10 21 ∷ []))

chunks_of_q : chunk_table (xorb 10 21 ∷ xorb 11 22 ∷ []) ≡ record { word = 21; row = 0; index = 0 } ∷ record { word = 22; row = 2; index = 0 } ∷ []
chunks_of_q = ascending_is (chunk_table_rows (xorb 10 21 ∷ xorb 11 22 ∷ []))

-- the empty shard
pub offsets_of_empty : offsets (footer_value [] [] (plain_options None)) ≡ 48 ∷ 96 ∷ 144 ∷ 144 ∷ 144 ∷ 144 ∷ []
unfolding section_bytes table_bytes chunk_table_bytes file_record_bytes file_rows_bytes header_row segment_row hash_bytes u64_bytes u32_bytes xorb_record_bytes xorb_header_row chunk_row
offsets_of_empty = λ i. 48 ∷ 96 ∷ 144 ∷ 144 ∷ 144 ∷ (144 + length (flat_map chunk_table_row_bytes (ascending_rows-nil i))) ∷ []

-- a xorb with one chunk, and a file
pub offsets_of_p : offsets (footer_value (file 100 200 ∷ []) (xorb 10 21 ∷ []) (plain_options None)) ≡ 48 ∷ 192 ∷ 336 ∷ 348 ∷ 360 ∷ 376 ∷ []
unfolding section_bytes table_bytes chunk_table_bytes file_record_bytes file_rows_bytes header_row segment_row hash_bytes u64_bytes u32_bytes xorb_record_bytes xorb_header_row chunk_row
offsets_of_p = λ i. 48 ∷ 192 ∷ 336 ∷ 348 ∷ 360 ∷ (360 + length (flat_map chunk_table_row_bytes (chunks_of_p i))) ∷ []

pub sums_of_p : sums (footer_value (file 100 200 ∷ []) (xorb 10 21 ∷ []) (plain_options None)) ≡ 5 ∷ 5 ∷ 0 ∷ []
sums_of_p = refl

-- a second of each
pub offsets_of_q : offsets (footer_value (file 100 200 ∷ file 101 201 ∷ []) (xorb 10 21 ∷ xorb 11 22 ∷ []) (plain_options None)) ≡ 48 ∷ 288 ∷ 528 ∷ 552 ∷ 576 ∷ 608 ∷ []
unfolding section_bytes table_bytes chunk_table_bytes file_record_bytes file_rows_bytes header_row segment_row hash_bytes u64_bytes u32_bytes xorb_record_bytes xorb_header_row chunk_row
offsets_of_q = λ i. 48 ∷ 288 ∷ 528 ∷ 552 ∷ 576 ∷ (576 + length (flat_map chunk_table_row_bytes (chunks_of_q i))) ∷ []

-- the sizes of two xorbs with the same chunk
pub size_of_two : length (layout_of [] (xorb 10 21 ∷ xorb 11 21 ∷ []) (plain_options None)) ≡ 592
size_of_two = length-layout_of [] (xorb 10 21 ∷ xorb 11 21 ∷ []) None (All-nil FitsRecord)

-- a chunk, and a xorb of three chunks of 5, 6 and 7 bytes
abbrev chunk : ℕ → ℕ → ℕ → XorbChunkSequenceEntry
chunk hash start bytes = record { chunk_hash = small_hash hash; chunk_byte_range_start = start; unpacked_segment_bytes = bytes; flags = 0; _unused = 0 }

abbrev xorb_of_three : MDBXorbInfo
xorb_of_three = record {
  metadata = record { xorb_hash = small_hash 10; xorb_flags = 0; num_entries = 3; num_bytes_in_xorb = 18; num_bytes_on_disk = 0 };
  chunks = chunk 21 0 5 ∷ chunk 22 5 6 ∷ chunk 23 11 7 ∷ [];
}

-- a segment of chunks of that xorb
abbrev segment : ℕ → ℕ → ℕ → FileDataSequenceEntry
segment bytes start end = record { xorb_hash = small_hash 10; xorb_flags = 0; unpacked_segment_bytes = bytes; chunk_index_start = start; chunk_index_end = end }

-- the first two hashes match, the third does not
pub run_to_other_hash : run_at no_key (xorb_of_three, 1) (small_hash 22 ∷ small_hash 23 ∷ small_hash 99 ∷ []) ≡ (2, segment 13 1 3)
run_to_other_hash = refl

-- the xorb ends before the hashes
pub run_to_end_of_xorb : run_at no_key (xorb_of_three, 2) (small_hash 23 ∷ small_hash 24 ∷ []) ≡ (1, segment 7 2 3)
run_to_end_of_xorb = refl
