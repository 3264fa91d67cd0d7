-- The bytes of a shard that are, byte for byte, what the library writes of the records in them;
-- those that are so but for the order of rows of the chunk table; and what is wrong with bytes that
-- are not.
use Rattle.std.specs.Prelude.{◌≡◌, ◌≢◌, ⊤, ℕ, ◌+◌, ◌-◌, ◌^◌, ◌<◌, ◌≤◌, List, ◌++◌, length, map, flat_map, drop, All, Some, slice_get, slice_index_or}
use Rattle.std.specs.List.{slice_range}
use Rattle.std.specs.List.Sorted.{IsPermutation}
use Rattle.std.specs.declared.cmp.Ordering.TheVariants.{Less}
use Rattle.xet_core_structures.specs.declared.file_structs.MDBFileInfo.{MDBFileInfo}
use Rattle.xet_core_structures.specs.declared.xorb_structs.MDBXorbInfo.{MDBXorbInfo}
use Rattle.xet_core_structures.specs.declared.merklehash.DataHash.{DataHash}
use Rattle.xet_core_structures.specs.declared.shard_format.MDBShardFileFooter.{MDBShardFileFooter}
use Rattle.xet_core_structures.specs.declared.shard_format.MDBShardInfo.{MDBShardInfo}
use Rattle.xet_core_structures.specs.Ends.{HasHeader, HasHeaderAndFooter, IsTooShort}
use Rattle.xet_core_structures.specs.FileRecord.{IsWellFormed, file_records, file_records_in}
use Rattle.xet_core_structures.specs.Hash.{IsHash, hash_cmp}
use Rattle.xet_core_structures.specs.WithOptions.{FitsSection, Ascends}
use Rattle.xet_core_structures.specs.KeyedExport.{xorbs_after}
use Rattle.xet_core_structures.specs.Layout.{if_included, footer_value, header_value, layout_of, shard_footer_bytes, shard_header_bytes}
use Rattle.xet_core_structures.specs.SectionReading.{IsSection, IsRefusedSection, IsTruncatedSection}
use Rattle.xet_core_structures.specs.Shard.{Shard}
use Rattle.xet_core_structures.specs.Records.ShardContents.{HoldsShard}
use Rattle.xet_core_structures.specs.XorbRecord.{IsXorb, xorb_records}
use Rattle.xet_shards.specs.declared.shard_writer.LayoutOptions.{LayoutOptions}
use Rattle.xet_shards.specs.Read.SectionsBehindHeader.{HasSections, options_of}
use Rattle.xet_shards.specs.Read.TableReading.{FitsTriple, triple_of}
use Rattle.xet_shards.specs.Write.Section.{section_bytes}
use Rattle.xet_shards.specs.declared.shard_writer.ChunkTableRow.{ChunkTableRow}
use Rattle.xet_shards.specs.Write.Tables.{hash_in, chunk_table, chunk_table_row_bytes, table_bytes}
use Rattle.shard_bytes.specs.Format.{IsUnsupportedFor}
use Rattle.shard_bytes.specs.declared.check.Section.{Section}
use Rattle.shard_bytes.specs.declared.check.Section.TheVariants.{Files, Xorbs}
use Rattle.shard_bytes.specs.declared.check.Part.{Part}
use Rattle.shard_bytes.specs.declared.check.Part.TheVariants.{Header, FileSection, XorbSection, FileTable, XorbTable, ChunkTable, Footer}
use Rattle.shard_bytes.specs.declared.check.Finding.{Finding}
use Rattle.shard_bytes.specs.declared.check.Finding.TheVariants.{Unsupported, TooShort, Cut, Refused, OutOfOrder, Malformed, Differs, Reordered, Size}

-- files and xorbs that a shard may have and sections may hold, whose hashes strictly ascend, and
-- layout options whose numbers are within their widths
pub record IsContent (files : List MDBFileInfo) (xorbs : List MDBXorbInfo) (options : LayoutOptions) : Type 0 where
  -- the files may be written as a section in the version of the options
  pub files_fit : FitsSection (file_records_in options.version) files
  pub xorbs_fit : FitsSection xorb_records xorbs
  pub files_ascend : Ascends file_records files
  pub xorbs_ascend : Ascends xorb_records xorbs
  pub files_formed : All IsWellFormed files
  pub xorbs_formed : All IsXorb xorbs
  pub key : IsHash options.key
  pub creation : options.creation < 2 ^ 64
  pub expiry : options.expiry < 2 ^ 64

-- the bytes are the layout, with layout options, of files and xorbs
pub record IsWhole (bytes : List ℕ) : Type 0 where
  pub files : List MDBFileInfo
  pub xorbs : List MDBXorbInfo
  pub options : LayoutOptions
  pub content : IsContent files xorbs options
  pub bytes_are : bytes ≡ layout_of files xorbs options

-- no row has a smaller first word than the row before it
abbrev pub WordsAscend : List ChunkTableRow → Type 0
WordsAscend rows =
    (k : ℕ) (d : ChunkTableRow) → k + 1 < length rows
    → (slice_index_or rows k d).word ≤ (slice_index_or rows (k + 1) d).word

-- the rows of a list in any order in which their first words ascend: two such orders differ only
-- among rows with the same first word
pub record IsReordering (rows others : List ChunkTableRow) : Type 0 where
  pub moved : IsPermutation rows others
  pub ascends : WordsAscend others

-- the layout of files and xorbs with layout options, but with these rows in the chunk table
unfoldable pub layout_with : List MDBFileInfo → List MDBXorbInfo → LayoutOptions → List ChunkTableRow
    → List ℕ
layout_with files xorbs options rows =
    (((((shard_header_bytes (header_value options.version) ++ section_bytes file_records files)
    ++ section_bytes xorb_records xorbs)
    ++ if_included options.file_table (table_bytes file_records files))
    ++ if_included options.xorb_table (table_bytes xorb_records xorbs))
    ++ if_included options.chunk_table (flat_map chunk_table_row_bytes rows))
    ++ shard_footer_bytes (footer_value files xorbs options)

-- the bytes are the layout, with layout options, of files and xorbs, but for the order of rows of
-- the chunk table with the same first word
pub record IsIntact (bytes : List ℕ) : Type 0 where
  pub files : List MDBFileInfo
  pub xorbs : List MDBXorbInfo
  pub options : LayoutOptions
  pub rows : List ChunkTableRow
  pub content : IsContent files xorbs options
  pub reordering : IsReordering (chunk_table xorbs) rows
  pub bytes_are : bytes ≡ layout_with files xorbs options rows

-- the bytes can be read: they have a header and a footer, and the sections of these records
pub record IsReadAs (bytes : List ℕ) (info : MDBShardInfo) (files : List MDBFileInfo)
    (xorbs : List MDBXorbInfo) : Type 0 where
  pub ends : HasHeaderAndFooter bytes info
  pub sections : HasSections bytes files xorbs

-- the hash at an index is the first that is not greater than the one before it
pub record IsOutOfOrder (n : ℕ) (hashes : List DataHash) : Type 0 where
  pub some : 0 < n
  pub below : n < length hashes
  pub not_less : (d : DataHash) → hash_cmp (slice_index_or hashes (n - 1) d) (slice_index_or hashes n d) ≢ Less
  pub first : (k : ℕ) (d : DataHash) → k + 1 < n
      → hash_cmp (slice_index_or hashes k d) (slice_index_or hashes (k + 1) d) ≡ Less

-- the record at an index is one that no shard may have
abbrev pub IsMalformedAt : {R : Type 0} → (R → Type 0) → List R → ℕ → Type 0
IsMalformedAt {R = R} IsFormed rs n = (r : R) × (slice_get rs n ≡ Some r) × (¬ IsFormed r)

-- the record at an index of a section is one that no shard may have; it is judged as it is stored,
-- with the reserved words of all its rows
abbrev pub IsMalformedIn : Section → List MDBFileInfo → List MDBXorbInfo → ℕ → Type 0
IsMalformedIn Files files xorbs n = IsMalformedAt IsWellFormed files n
IsMalformedIn Xorbs files xorbs n = IsMalformedAt IsXorb xorbs n

-- the hashes of the records of a section
abbrev pub hashes_of : Section → List MDBFileInfo → List MDBXorbInfo → List DataHash
hashes_of Files files xorbs = map (hash_in file_records) files
hashes_of Xorbs files xorbs = map (hash_in xorb_records) xorbs

-- a part of the bytes, whose header and footer were read, is that of the bytes that were written,
-- whose footer says where it is
abbrev pub IsSamePart : Part → List ℕ → MDBShardInfo → List ℕ → MDBShardFileFooter → Type 0
IsSamePart Header bytes info written f =
    slice_range bytes 0 f.file_info_offset ≡ slice_range written 0 f.file_info_offset
IsSamePart FileSection bytes info written f =
    slice_range bytes f.file_info_offset f.xorb_info_offset
    ≡ slice_range written f.file_info_offset f.xorb_info_offset
IsSamePart XorbSection bytes info written f =
    slice_range bytes f.xorb_info_offset f.file_lookup_offset
    ≡ slice_range written f.xorb_info_offset f.file_lookup_offset
IsSamePart FileTable bytes info written f =
    slice_range bytes f.file_lookup_offset f.xorb_lookup_offset
    ≡ slice_range written f.file_lookup_offset f.xorb_lookup_offset
IsSamePart XorbTable bytes info written f =
    slice_range bytes f.xorb_lookup_offset f.chunk_lookup_offset
    ≡ slice_range written f.xorb_lookup_offset f.chunk_lookup_offset
IsSamePart ChunkTable bytes info written f =
    slice_range bytes f.chunk_lookup_offset f.footer_offset
    ≡ slice_range written f.chunk_lookup_offset f.footer_offset
IsSamePart Footer bytes info written f = info.metadata ≡ f

-- the bytes of a chunk table are rows, and those of another are the same rows in an order in which
-- their first words ascend
pub record IsReorderedTable (written found : List ℕ) : Type 0 where
  pub rows : List ChunkTableRow
  pub others : List ChunkTableRow
  pub written_are : written ≡ flat_map chunk_table_row_bytes rows
  pub found_are : found ≡ flat_map chunk_table_row_bytes others
  pub widths : All (λ row. FitsTriple (triple_of row)) rows
  pub reordering : IsReordering rows others

-- a part of the bytes is that of the bytes that were written, but for the order of rows of the
-- chunk table with the same first word
abbrev pub IsAlikePart : Part → List ℕ → MDBShardInfo → List ℕ → MDBShardFileFooter → Type 0
IsAlikePart ChunkTable bytes info written f =
    IsReorderedTable (slice_range written f.chunk_lookup_offset f.footer_offset)
    (slice_range bytes f.chunk_lookup_offset f.footer_offset)
IsAlikePart part bytes info written f = IsSamePart part bytes info written f

-- the bytes have a header and a footer, and this is said with the header
abbrev pub AfterHeader : (bytes : List ℕ) → (HasHeader bytes → Type 0) → Type 0
AfterHeader bytes Says =
    (info : MDBShardInfo) × HasHeaderAndFooter bytes info × (header : HasHeader bytes) × Says header

-- the file section can be read too, and this is said of the bytes after it
abbrev pub AfterFiles : (List ℕ → Type 0) → List ℕ → Type 0
AfterFiles Says bytes =
    AfterHeader bytes
    (λ header. (files : List MDBFileInfo)
    × IsSection (file_records_in header.version) (drop 48 bytes) files
    × Says (drop (xorbs_after files) bytes))

-- what is said of bytes that can be read, and of what the library writes of their records
abbrev pub WhereRead : (MDBShardInfo → List MDBFileInfo → List MDBXorbInfo → Type 0) → List ℕ
    → Type 0
WhereRead Says bytes =
    (info : MDBShardInfo) × (files : List MDBFileInfo) × (xorbs : List MDBXorbInfo)
    × IsReadAs bytes info files xorbs × Says info files xorbs

-- a finding is true of the bytes
abbrev pub IsFinding : List ℕ → Finding → Type 0
IsFinding bytes (Unsupported reason) = IsUnsupportedFor bytes reason
IsFinding bytes TooShort = IsTooShort bytes
IsFinding bytes (Cut Files) =
    AfterHeader bytes (λ header. IsTruncatedSection (file_records_in header.version) (drop 48 bytes))
IsFinding bytes (Cut Xorbs) = AfterFiles (IsTruncatedSection xorb_records) bytes
IsFinding bytes (Refused Files) =
    AfterHeader bytes (λ header. IsRefusedSection (file_records_in header.version) (drop 48 bytes))
IsFinding bytes (Refused Xorbs) = AfterFiles (IsRefusedSection xorb_records) bytes
IsFinding bytes (OutOfOrder section n) =
    WhereRead (λ info files xorbs. IsOutOfOrder n (hashes_of section files xorbs)) bytes
IsFinding bytes (Malformed section n) =
    WhereRead (λ info files xorbs. IsMalformedIn section files xorbs n) bytes
IsFinding bytes (Differs part) =
    WhereRead
    (λ info files xorbs.
    ¬ IsAlikePart part bytes info (layout_of files xorbs (options_of info))
    (footer_value files xorbs (options_of info)))
    bytes
IsFinding bytes Reordered =
    WhereRead
    (λ info files xorbs.
    IsAlikePart ChunkTable bytes info (layout_of files xorbs (options_of info))
    (footer_value files xorbs (options_of info))
    × (¬ IsSamePart ChunkTable bytes info (layout_of files xorbs (options_of info))
    (footer_value files xorbs (options_of info))))
    bytes
IsFinding bytes (Size n) =
    WhereRead
    (λ info files xorbs.
    (n ≡ length (layout_of files xorbs (options_of info))) × (length bytes ≢ n))
    bytes

-- a finding that is a note: the bytes have all that the library would write, in another order
abbrev pub IsNote : Finding → Type 0
IsNote Reordered = ⊤
IsNote _ = ⊥

-- the bytes hold a well-formed shard, under some key
abbrev pub HoldsSomeShard : List ℕ → Type 0
HoldsSomeShard bytes = (key : DataHash) × (s : Shard) × HoldsShard key s bytes
