-- Whether a shard has the tables by which its files and its chunks are found.
use Rattle.std.specs.Prelude.{◌≡◌, ◌≢◌, ◌⊎◌, ℕ, ◌<◌, List, [], length, All, slice_index_or}
use Rattle.xet_core_structures.specs.declared.error.CoreError.{CoreError}
use Rattle.xet_core_structures.specs.declared.file_structs.MDBFileInfo.{MDBFileInfo}
use Rattle.xet_core_structures.specs.declared.xorb_structs.XorbChunkSequenceHeader.{XorbChunkSequenceHeader}
use Rattle.xet_core_structures.specs.declared.shard_format.MDBShardInfo.{MDBShardInfo}
use Rattle.xet_core_structures.specs.Ends.{HasHeaderAndFooter}
use Rattle.xet_core_structures.specs.SectionReading.{SectionFails}
use Rattle.xet_core_structures.specs.TwoShards.ByteResults.{LoadRefusal}
use Rattle.xet_shards.specs.Read.XorbHeaders.{ReadsXorbHeaders}
use Rattle.xet_core_structures.specs.XorbRecord.{xorb_records}
use Rattle.shard_bytes.specs.Outcomes.{HasOutcome}
use Rattle.mdb_report.specs.FileReports.{HoldsFiles}

-- the bytes hold a file, and the footer says that the file table has no rows
pub record LacksFileTable (bytes : List ℕ) : Type 0 where
  pub info : MDBShardInfo
  pub ends : HasHeaderAndFooter bytes info
  pub no_rows : info.metadata.file_lookup_num_entry ≡ 0
  pub files : List MDBFileInfo
  pub held : HoldsFiles bytes files
  pub some : files ≢ []

-- the file table has rows, or the bytes hold no file
abbrev pub HasFileTable : List ℕ → Type 0
HasFileTable bytes =
    ((info : MDBShardInfo) × HasHeaderAndFooter bytes info × (info.metadata.file_lookup_num_entry ≢ 0))
    ⊎ HoldsFiles bytes []

-- a header of the xorb section, and where it is
abbrev pub XorbAt : Type 0
XorbAt = XorbChunkSequenceHeader × ℕ

-- a xorb has no chunks, by its header
abbrev pub HasNoChunks : XorbAt → Type 0
HasNoChunks xorb = xorb.0.num_entries ≡ 0

-- one of these xorbs has chunks, by its header
abbrev pub HaveChunks : List XorbAt → Type 0
HaveChunks xorbs =
    (k : ℕ) × (k < length xorbs) × ((d : XorbAt) → ¬ HasNoChunks (slice_index_or xorbs k d))

-- the bytes have these headers in their xorb section, and no others
abbrev pub HoldsXorbHeaders : List ℕ → List XorbAt → Type 0
HoldsXorbHeaders bytes xorbs =
    HasOutcome bytes
    (λ info before after. ReadsXorbHeaders before after info.metadata.xorb_info_offset xorbs)

-- the bytes hold a xorb with chunks, and the footer says that the chunk table has no rows
pub record LacksChunkTable (bytes : List ℕ) : Type 0 where
  pub info : MDBShardInfo
  pub ends : HasHeaderAndFooter bytes info
  pub no_rows : info.metadata.chunk_lookup_num_entry ≡ 0
  pub xorbs : List XorbAt
  pub held : HoldsXorbHeaders bytes xorbs
  pub some : HaveChunks xorbs

-- the chunk table has rows, or the bytes hold no xorb with chunks
abbrev pub HasChunkTable : List ℕ → Type 0
HasChunkTable bytes =
    ((info : MDBShardInfo) × HasHeaderAndFooter bytes info × (info.metadata.chunk_lookup_num_entry ≢ 0))
    ⊎ ((xorbs : List XorbAt) × HoldsXorbHeaders bytes xorbs × All HasNoChunks xorbs)

-- why xorbs are not read: header and footer are not, or the xorb section is not
abbrev pub XorbsNotRead : List ℕ → CoreError → Type 0
XorbsNotRead bytes e =
    LoadRefusal bytes e
    ⊎ HasOutcome bytes
    (λ info before after. SectionFails xorb_records before after info.metadata.xorb_info_offset e)
