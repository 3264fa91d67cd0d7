-- A shard that is written in parts: rows of tables, and what is counted.
use Rattle.std.specs.Prelude.{◌≡◌, ◌⊎◌, ℕ, ◌+◌, ◌-◌, ◌/◌, ◌<◌, ◌≤◌, ◌^◌, Bool, true, false, if◌then◌else◌, List, [], ◌∷◌, ◌++◌, All, length, map, flat_map, slice_range, sum_by, Option}
use Rattle.std.specs.Io.KnownBytes.{Appends}
use Rattle.xet_base.specs.Bytes.{u32_bytes}
use Rattle.xet_base.specs.Errors.{IsInvalidShard, IsDeviceError}
use Rattle.xet_base.specs.declared.error.CoreError.{CoreError}
use Rattle.xet_base.specs.declared.merklehash.DataHash.{DataHash}
use Rattle.xet_records.specs.FileRecord.{FitsRecord, file_records, size_of_file}
use Rattle.xet_records.specs.XorbRecord.{xorb_records}
use Rattle.xet_records.specs.declared.file_structs.MDBFileInfo.{MDBFileInfo}
use Rattle.xet_records.specs.declared.xorb_structs.MDBXorbInfo.{MDBXorbInfo}
use Rattle.xet_core_structures.specs.Ends.{HasHeaderAndFooter}
use Rattle.xet_core_structures.specs.TwoShards.ByteResults.{LoadRefusal}
use Rattle.xet_core_structures.specs.declared.shard_format.MDBShardInfo.{MDBShardInfo}
use Rattle.xet_shards.specs.Read.TableReading.{FitsStart, FitsTriple, triple_of}
use Rattle.xet_shards.specs.Write.Layout.{plain_options, footer_value, shard_footer_bytes}
use Rattle.xet_shards.specs.Write.RaisedRows.{start_later, chunk_row_later}
use Rattle.xet_shards.specs.declared.shard_writer.LayoutOptions.{LayoutOptions}
use Rattle.xet_shards.specs.declared.shard_format.write.xorb_writer.ChunkTableRow.{ChunkTableRow}
use Rattle.xet_shards.specs.declared.shard_format.ends.footer.MDBShardFileFooter.{MDBShardFileFooter}
use Rattle.xet_shards.specs.Write.Section.{total_rows}
use Rattle.xet_shards.specs.Write.Tables.{chunk_table_rows, start_row, chunk_table_row_bytes}
use Rattle.shard_bytes.specs.declared.check.Section.{Section}
use Rattle.shard_bytes.specs.declared.check.Section.TheVariants.{Files, Xorbs}
use Rattle.mdb_assembly.specs.declared.assembly.Assembly.{Assembly}
use Rattle.mdb_assembly.specs.declared.counts.Counts.{Counts}
use Rattle.mdb_assembly.specs.declared.runs.Extent.{Extent}

-- a row of a table: eight bytes, a row number, and what follows it
pub record NumberedRow : Type 0 where
  pub front : List ℕ
  pub number : ℕ
  pub rest : List ℕ

-- the bytes of a row
abbrev pub row_bytes : NumberedRow → List ℕ
row_bytes row = (row.front ++ u32_bytes row.number) ++ row.rest

-- the row with its number raised
abbrev pub row_later : ℕ → NumberedRow → NumberedRow
row_later first row = record row { number = first + row.number }

-- a row has so many bytes, and its number fits `u32`
pub record IsRowOf (size : ℕ) (row : NumberedRow) : Type 0 where
  pub front : length row.front ≡ 8
  pub rest : length row.rest + 12 ≡ size
  pub fits : row.number < 2 ^ 32

-- the layout options of a merge: all tables, a key, no creation, and an expiry or none
abbrev pub options_with : DataHash → Option ℕ → LayoutOptions
options_with key expiry = record (plain_options expiry) { key = key }

-- these are the numbers of records, rows and chunks, and the sums of bytes
pub record CountsRecords (counts : Counts) (files : List MDBFileInfo) (xorbs : List MDBXorbInfo)
    : Type 0 where
  pub file_rows : counts.file_rows ≡ total_rows file_records files
  pub files_are : counts.files ≡ length files
  pub xorb_rows : counts.xorb_rows ≡ total_rows xorb_records xorbs
  pub xorbs_are : counts.xorbs ≡ length xorbs
  pub chunks_are : counts.chunks ≡ length (chunk_table_rows xorbs)
  pub stored_bytes_on_disk : counts.stored_bytes_on_disk
      ≡ sum_by (λ (x : MDBXorbInfo). x.metadata.num_bytes_on_disk) xorbs
  pub materialized_bytes : counts.materialized_bytes ≡ sum_by size_of_file files
  pub stored_bytes : counts.stored_bytes
      ≡ sum_by (λ (x : MDBXorbInfo). x.metadata.num_bytes_in_xorb) xorbs

-- the sums of bytes with those of a footer, all else as it was
pub record AddsSums (footer : MDBShardFileFooter) (old new : Counts) : Type 0 where
  pub stored_bytes_on_disk : new.stored_bytes_on_disk
      ≡ old.stored_bytes_on_disk + footer.stored_bytes_on_disk
  pub materialized_bytes : new.materialized_bytes
      ≡ old.materialized_bytes + footer.materialized_bytes
  pub stored_bytes : new.stored_bytes ≡ old.stored_bytes + footer.stored_bytes
  pub others : new ≡ record old {
    stored_bytes_on_disk = new.stored_bytes_on_disk;
    materialized_bytes = new.materialized_bytes;
    stored_bytes = new.stored_bytes;
  }

-- the sums of bytes with those of a footer fit 64 bits
pub record FitSums (footer : MDBShardFileFooter) (counts : Counts) : Type 0 where
  pub stored_bytes_on_disk : counts.stored_bytes_on_disk + footer.stored_bytes_on_disk < 2 ^ 64
  pub materialized_bytes : counts.materialized_bytes + footer.materialized_bytes < 2 ^ 64
  pub stored_bytes : counts.stored_bytes + footer.stored_bytes < 2 ^ 64

-- the counts with the rows of so many bytes of files and of their table, all else as it was
abbrev pub WithFiles : (rows table : ℕ) → Counts → Counts → Type 0
WithFiles rows table old new =
    new ≡ record old { file_rows = old.file_rows + rows / 48; files = old.files + table / 12 }

-- the counts with the rows of so many bytes of xorbs, of their table and of their chunks' table, all
-- else as it was
abbrev pub WithXorbs : (rows table chunks : ℕ) → Counts → Counts → Type 0
WithXorbs rows table chunks old new =
    new ≡ record old {
      xorb_rows = old.xorb_rows + rows / 48;
      xorbs = old.xorbs + table / 12;
      chunks = old.chunks + chunks / 16;
    }

-- what there is of a shard that is written in parts: whether its header is written, the bytes of its
-- output and of the file in which rows of tables wait, where these are known, how many bytes wait, and
-- where each part's file table, xorb table and chunk table is among them, and the counts
pub record AssemblyState : Type 0 where
  pub has_header : Bool
  pub output : Option (List ℕ)
  pub tables : Option (List ℕ)
  pub waiting : ℕ
  pub file_tables : List Extent
  pub xorb_tables : List Extent
  pub chunk_tables : List Extent
  pub counts : Counts

-- what there is so far, of files with these bytes
abbrev pub state_of : {F : Type 0} → (F → Option (List ℕ)) → Assembly F → AssemblyState
state_of contents assembly =
    record {
      has_header = assembly.has_header;
      output = contents assembly.output;
      tables = contents assembly.tables;
      waiting = assembly.tables_size;
      file_tables = assembly.file_tables.items;
      xorb_tables = assembly.xorb_tables.items;
      chunk_tables = assembly.runs.items;
      counts = assembly.counts;
    }

-- nothing is written of a shard, to files with these bytes
abbrev pub NoneWritten : Option (List ℕ) → Option (List ℕ) → AssemblyState → Type 0
NoneWritten output tables none =
    (none ≡ record {
      has_header = false;
      output = output;
      tables = tables;
      waiting = 0;
      file_tables = [];
      xorb_tables = [];
      chunk_tables = [];
      counts = none.counts;
    })
    × CountsRecords none.counts [] []

-- the header of a part, unless one is written
abbrev pub missing_header : Bool → List ℕ → List ℕ
missing_header has_header part = if has_header then [] else slice_range part 0 48

-- the header of a part is written, unless one was before, and the sums of its footer are counted
pub record BeginsPart (footer : MDBShardFileFooter) (part : List ℕ) (old new : AssemblyState) : Type 0 where
  pub header : Appends old.output new.output (missing_header old.has_header part)
  pub counts : AddsSums footer old.counts new.counts
  pub others : new ≡ record old { has_header = true; output = new.output; counts = new.counts }

-- the size in bytes of the rows between two offsets, the second of which is after a bookend
abbrev pub rows_size : ℕ → ℕ → ℕ
rows_size from end = end - 48 - from

-- the rows of a part's files are written, those of its file table wait with raised numbers, and both
-- are counted
pub record AddsFiles (footer : MDBShardFileFooter) (part : List ℕ) (old new : AssemblyState) : Type 0 where
  pub rows : Appends old.output new.output
      (slice_range part footer.file_info_offset (footer.xorb_info_offset - 48))
  pub table : (starts : List (ℕ × ℕ)) → All FitsStart starts
      → slice_range part footer.file_lookup_offset footer.xorb_lookup_offset
      ≡ flat_map start_row starts
      → Appends old.tables new.tables
      (flat_map start_row (map (start_later old.counts.file_rows) starts))
  pub counts : WithFiles (rows_size footer.file_info_offset footer.xorb_info_offset)
      (footer.xorb_lookup_offset - footer.file_lookup_offset) old.counts new.counts
  pub others : (let size = footer.xorb_lookup_offset - footer.file_lookup_offset in
      new ≡ record old {
        output = new.output;
        tables = new.tables;
        waiting = old.waiting + size;
        file_tables = old.file_tables ++ record { start = old.waiting; size = size } ∷ [];
        counts = new.counts;
      })

-- the rows of a part's xorbs are written, those of its xorb table and of its chunk table wait with
-- raised numbers, and all are counted
pub record AddsXorbs (footer : MDBShardFileFooter) (part : List ℕ) (old new : AssemblyState) : Type 0 where
  pub rows : Appends old.output new.output
      (slice_range part footer.xorb_info_offset (footer.file_lookup_offset - 48))
  pub tables : (starts : List (ℕ × ℕ)) → (chunks : List ChunkTableRow)
      → All FitsStart starts → All (λ row. FitsTriple (triple_of row)) chunks
      → slice_range part footer.xorb_lookup_offset footer.chunk_lookup_offset
      ≡ flat_map start_row starts
      → slice_range part footer.chunk_lookup_offset footer.footer_offset
      ≡ flat_map chunk_table_row_bytes chunks
      → Appends old.tables new.tables
      (flat_map start_row (map (start_later old.counts.xorb_rows) starts)
      ++ flat_map chunk_table_row_bytes (map (chunk_row_later old.counts.xorb_rows) chunks))
  pub counts : WithXorbs (rows_size footer.xorb_info_offset footer.file_lookup_offset)
      (footer.chunk_lookup_offset - footer.xorb_lookup_offset)
      (footer.footer_offset - footer.chunk_lookup_offset) old.counts new.counts
  pub others : (let size = footer.chunk_lookup_offset - footer.xorb_lookup_offset in
      let chunks_size = footer.footer_offset - footer.chunk_lookup_offset in
      new ≡ record old {
        output = new.output;
        tables = new.tables;
        waiting = old.waiting + size + chunks_size;
        xorb_tables = old.xorb_tables ++ record { start = old.waiting; size = size } ∷ [];
        chunk_tables = old.chunk_tables
            ++ record { start = old.waiting + size; size = chunks_size } ∷ [];
        counts = new.counts;
      })

-- the rows of a section of a part are written, and those of its tables wait
abbrev pub AddsRows : Section → MDBShardFileFooter → List ℕ → AssemblyState → AssemblyState → Type 0
AddsRows Files footer part old new = AddsFiles footer part old new
AddsRows Xorbs footer part old new = AddsXorbs footer part old new

-- a section of a part, which has header and footer, is written after a header
abbrev pub AddsPart : Section → List ℕ → AssemblyState → AssemblyState → Type 0
AddsPart section part old new =
    (info : MDBShardInfo) × (begun : AssemblyState) × HasHeaderAndFooter part info
    × BeginsPart info.metadata part old begun × AddsRows section info.metadata part begun new

-- the rows of a section between two offsets are in a part, before a bookend, and may follow so many
pub record FitRows (part : List ℕ) (before from end : ℕ) : Type 0 where
  pub start : from + 48 ≤ end
  pub within : end ≤ length part + 48
  pub fits : before + rows_size from end / 48 < 2 ^ 32

-- the rows of a table between two offsets are in a part, and may wait after so many bytes
pub record FitTable (part : List ℕ) (waiting from to : ℕ) : Type 0 where
  pub start : from ≤ to
  pub within : to ≤ length part
  pub fits : waiting + (to - from) < 2 ^ 64

-- a table has rows of files or xorbs, whose numbers may be raised by so many rows
abbrev pub HasStarts : List ℕ → ℕ → Type 0
HasStarts rows first =
    (starts : List (ℕ × ℕ)) × (rows ≡ flat_map start_row starts) × All FitsStart starts
    × All (λ (start : ℕ × ℕ). first + start.1 < 2 ^ 32) starts

-- a table has rows of chunks, whose numbers may be raised by so many rows
abbrev pub HasChunkRows : List ℕ → ℕ → Type 0
HasChunkRows rows first =
    (chunks : List ChunkTableRow) × (rows ≡ flat_map chunk_table_row_bytes chunks)
    × All (λ row. FitsTriple (triple_of row)) chunks
    × All (λ (row : ChunkTableRow). first + row.row < 2 ^ 32) chunks

-- there is room for the files of a part
pub record FitFiles (footer : MDBShardFileFooter) (part : List ℕ) (old : AssemblyState) : Type 0 where
  pub rows : FitRows part old.counts.file_rows footer.file_info_offset footer.xorb_info_offset
  pub table : FitTable part old.waiting footer.file_lookup_offset footer.xorb_lookup_offset
  pub starts : HasStarts (slice_range part footer.file_lookup_offset footer.xorb_lookup_offset)
      old.counts.file_rows
  pub files : old.counts.files + (footer.xorb_lookup_offset - footer.file_lookup_offset) / 12
      < 2 ^ 32

-- there is room for the xorbs of a part
pub record FitXorbs (footer : MDBShardFileFooter) (part : List ℕ) (old : AssemblyState) : Type 0 where
  pub rows : FitRows part old.counts.xorb_rows footer.xorb_info_offset footer.file_lookup_offset
  pub table : FitTable part old.waiting footer.xorb_lookup_offset footer.chunk_lookup_offset
  pub starts : HasStarts (slice_range part footer.xorb_lookup_offset footer.chunk_lookup_offset)
      old.counts.xorb_rows
  pub xorbs : old.counts.xorbs + (footer.chunk_lookup_offset - footer.xorb_lookup_offset) / 12
      < 2 ^ 32
  pub chunk_table : FitTable part
      (old.waiting + (footer.chunk_lookup_offset - footer.xorb_lookup_offset))
      footer.chunk_lookup_offset footer.footer_offset
  pub chunk_rows : HasChunkRows (slice_range part footer.chunk_lookup_offset footer.footer_offset)
      old.counts.xorb_rows
  pub chunks : old.counts.chunks + (footer.footer_offset - footer.chunk_lookup_offset) / 16
      < 2 ^ 32

-- there is room for a section of a part
abbrev pub FitSection : Section → MDBShardFileFooter → List ℕ → AssemblyState → Type 0
FitSection Files footer part old = FitFiles footer part old
FitSection Xorbs footer part old = FitXorbs footer part old

-- a device failed or memory lacks; or no valid shard is made, as something does not fit
abbrev pub StepFails : Type 0 → CoreError → Type 0
StepFails Fit e = IsDeviceError e ⊎ (IsInvalidShard e × (Fit → ⊥))

-- why a part is not added: header and footer are not read; or they are, and there is no room for the
-- section with the sums of bytes, or a device failed, or memory lacks
abbrev pub AddFails : Section → List ℕ → AssemblyState → CoreError → Type 0
AddFails section part old e =
    LoadRefusal part e
    ⊎ ((info : MDBShardInfo) × HasHeaderAndFooter part info
    × StepFails (FitSums info.metadata old.counts × FitSection section info.metadata part old) e)

-- the footer of the layout of any records with these counts
abbrev pub IsFooterOf : Counts → DataHash → Option ℕ → MDBShardFileFooter → Type 0
IsFooterOf counts key expiry footer =
    (files : List MDBFileInfo) → (xorbs : List MDBXorbInfo) → All FitsRecord files
    → CountsRecords counts files xorbs → footer ≡ footer_value files xorbs (options_with key expiry)

-- the bytes of some ranges
abbrev pub bytes_in : List Extent → ℕ
bytes_in extents = sum_by (λ (extent : Extent). extent.size) extents

-- what was written stays in front; then come as many bytes as the file tables and the xorb tables
-- have, whole rows of a chunk table, and the footer with these counts
abbrev pub EndsWith : AssemblyState → DataHash → Option ℕ → Option (List ℕ) → Type 0
EndsWith old key expiry new =
    (tables : List ℕ) × (rows : List ChunkTableRow) × (footer : MDBShardFileFooter)
    × (length tables ≡ bytes_in old.file_tables + bytes_in old.xorb_tables)
    × IsFooterOf old.counts key expiry footer
    × Appends old.output new
    (tables ++ (flat_map chunk_table_row_bytes rows ++ shard_footer_bytes footer))
