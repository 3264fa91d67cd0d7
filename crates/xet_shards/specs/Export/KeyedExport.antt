-- Keyed exports: a shard is written again, with its chunk hashes under a key, and without its files
-- if they are not asked for.
use Rattle.std.specs.Prelude.{◌≡◌, ◌≢◌, ◌⊎◌, ℕ, ◌+◌, ◌*◌, ◌^◌, ◌≤◌, Bool, true, List, length, map, drop, Option, MatchResult, IsErrAnd}
use Rattle.std.specs.Io.KnownBytes.{Appends}
use Rattle.xet_base.specs.declared.error.CoreError.{CoreError}
use Rattle.xet_base.specs.declared.error.CoreError.TheVariants.{InvalidArguments}
use Rattle.xet_base.specs.declared.merklehash.DataHash.{DataHash}
use Rattle.xet_base.specs.Errors.{CoreResult, IsWriteError}
use Rattle.xet_base.specs.KeyedHash.{no_key, under_key}
use Rattle.xet_base.specs.Source.{Source, FailedBy, after_read, bytes_left}
use Rattle.xet_records.specs.declared.file_structs.MDBFileInfo.{MDBFileInfo}
use Rattle.xet_records.specs.declared.xorb_structs.MDBXorbInfo.{MDBXorbInfo}
use Rattle.xet_records.specs.declared.xorb_structs.XorbChunkSequenceEntry.{XorbChunkSequenceEntry}
use Rattle.xet_records.specs.RecordKind.{RecordKind}
use Rattle.xet_records.specs.FileRecord.{file_records, file_records_in}
use Rattle.xet_records.specs.View.{all_with_aux_if}
use Rattle.xet_records.specs.declared.record_reader.FormatVersion.TheVariants.{V3}
use Rattle.xet_records.specs.XorbRecord.{xorb_records}
use Rattle.xet_shards.specs.declared.shard_format.ends.info.MDBShardInfo.{MDBShardInfo}
use Rattle.xet_shards.specs.Write.Section.{total_rows}
use Rattle.xet_shards.specs.Read.SectionReading.{IsSection, IsRefusedSection, IsTruncatedSection, SectionCase}
use Rattle.xet_shards.specs.Ends.Ends.{HasHeader, HasHeaderAndFooter, HasUnsupportedHeader, EndsInHeader, FormatCase}
use Rattle.xet_shards.specs.Write.Layout.{LayoutOptions, if_included, layout_of, footer_value, info_of}
use Rattle.xet_shards.specs.Write.WithOptions.{IsBytesWithOptions}

-- a chunk with its hash under a key, and all else as it is
abbrev pub keyed_chunk : DataHash → XorbChunkSequenceEntry → XorbChunkSequenceEntry
keyed_chunk key c = record c { chunk_hash = under_key key c.chunk_hash }

-- a xorb with its chunk hashes under a key, and all else as it is
abbrev pub keyed_xorb : DataHash → MDBXorbInfo → MDBXorbInfo
keyed_xorb key r = record r { chunks = map (keyed_chunk key) r.chunks }

-- xorbs with their chunk hashes under a key, and all else as it is
abbrev pub keyed_xorbs : DataHash → List MDBXorbInfo → List MDBXorbInfo
keyed_xorbs key xorbs = map (keyed_xorb key) xorbs

-- the layout options of an export: the tables asked for, the key, now, and the expiry so many
-- seconds later; the file table is in if the files are
abbrev pub export_options : (key : DataHash) (now valid : ℕ) (files xorb_table chunk_table : Bool)
    → LayoutOptions
export_options key now valid files xorb_table chunk_table = record {
  version = V3;
  file_table = files;
  xorb_table = xorb_table;
  chunk_table = chunk_table;
  key = key;
  creation = now;
  expiry = now + valid;
}

-- what an export with layout options writes of files and xorbs
abbrev pub exported_bytes : List MDBFileInfo → List MDBXorbInfo → LayoutOptions → List ℕ
exported_bytes files xorbs options =
    layout_of (if_included options.file_table files) (keyed_xorbs options.key xorbs) options

-- the offset of the xorb section after a header and a section of files
abbrev pub xorbs_after : List MDBFileInfo → ℕ
xorbs_after files = 48 * (total_rows file_records files + 2)

-- a shard was exported, with auxiliary rows or without: header and sections were read from the
-- source's position on, without a seek and without a byte past the xorb section, and what they hold
-- was written with these options; the bytes written have a header and a footer, and reading and
-- lookups can use them
pub record ExportsWith (aux : Bool) (options : LayoutOptions) (old new : Source)
    (before after : Option (List ℕ)) (n : ℕ) : Type 0 where
  pub files : List MDBFileInfo
  pub xorbs : List MDBXorbInfo
  -- the bytes from the source's position on begin with a valid header
  pub header : HasHeader (bytes_left old)
  -- the file section is after the header
  pub file_section : IsSection (file_records_in header.version) (drop 48 (bytes_left old)) files
  -- the xorb section is after the file section
  pub xorb_section : IsSection xorb_records (drop (xorbs_after files) (bytes_left old)) xorbs
  -- the source is after the xorb section
  pub read : new ≡ after_read old (xorbs_after files + 48 * (total_rows xorb_records xorbs + 1))
  pub written : Appends before after (exported_bytes (all_with_aux_if aux files) xorbs options)
  -- the number of bytes written is returned
  pub count : n ≡ length (exported_bytes (all_with_aux_if aux files) xorbs options)
  -- the bytes written begin with a header and end in a footer
  pub ends : HasHeaderAndFooter (exported_bytes (all_with_aux_if aux files) xorbs options)
      (info_of (if_included options.file_table (all_with_aux_if aux files)) (keyed_xorbs options.key xorbs)
      options)
  -- the bytes written are with the options, as reading and lookups require
  pub with_options : IsBytesWithOptions (if_included options.file_table (all_with_aux_if aux files))
      (keyed_xorbs options.key xorbs) options (exported_bytes (all_with_aux_if aux files) xorbs options)
      (footer_value (if_included options.file_table (all_with_aux_if aux files))
      (keyed_xorbs options.key xorbs) options)

-- a shard was exported with all rows
abbrev pub Exports : LayoutOptions → Source → Source → Option (List ℕ) → Option (List ℕ) → ℕ → Type 0
Exports options = ExportsWith true options

-- why a section was not read, if the device did not fail
abbrev pub BadSection : {H R : Type 0} → RecordKind H R → List ℕ → CoreError → Type 0
BadSection K bytes e = SectionCase (IsRefusedSection K) (IsTruncatedSection K) bytes e

-- why the header and the sections of a shard were not read, if the device did not fail
pub data SectionsCase (bytes : List ℕ) (e : CoreError) : Type 0 where
  bad_header : FormatCase HasUnsupportedHeader EndsInHeader bytes e → SectionsCase bytes e
  bad_files : (header : HasHeader bytes)
      → BadSection (file_records_in header.version) (drop 48 bytes) e → SectionsCase bytes e
  bad_xorbs : (header : HasHeader bytes) → (files : List MDBFileInfo)
      → IsSection (file_records_in header.version) (drop 48 bytes) files
      → BadSection xorb_records (drop (xorbs_after files) bytes) e → SectionsCase bytes e

-- why a shard was not exported, if the source's device did not fail: the header or a section was
-- not read, or the writer failed or an allocation did
pub data ExportCase (bytes : List ℕ) (e : CoreError) : Type 0 where
  no_sections : SectionsCase bytes e → ExportCase bytes e
  not_written : HasHeader bytes → IsWriteError e → ExportCase bytes e

-- a shard was not exported, without a seek; the position is unspecified
pub record ExportFails (old new : Source) (e : CoreError) : Type 0 where
  pub bytes : new.bytes ≡ old.bytes
  pub seeks : new.seeks ≡ old.seeks
  pub cause : FailedBy (ExportCase (bytes_left old)) old new e

-- the expiry does not fit 64 bits
abbrev pub ExpiresTooLate : ℕ → ℕ → Type 0
ExpiresTooLate now valid = 2 ^ 64 ≤ now + valid

-- the shard cannot be exported: its chunk hashes are keyed, or the expiry does not fit 64 bits
abbrev pub CannotExport : MDBShardInfo → ℕ → ℕ → Type 0
CannotExport info now valid =
    (info.metadata.chunk_hash_hmac_key ≢ no_key) ⊎ ExpiresTooLate now valid

-- the outcome of an export, with auxiliary rows or without: it was made, or why not; and if the
-- arguments are refused, then neither the source nor the writer is touched
pub record OutcomeOfExport {S W : Type 0} (Refused : Type 0) (aux : Bool) (options : LayoutOptions)
    (meaning : S → Source) (contents : W → Option (List ℕ)) (source_old source_new : S)
    (writer_old writer_new : W) (result : CoreResult ℕ) : Type 0 where
  pub written : MatchResult result
      (ExportsWith aux options (meaning source_old) (meaning source_new) (contents writer_old)
      (contents writer_new))
      (λ e. ((e ≡ InvalidArguments) × Refused)
      ⊎ ExportFails (meaning source_old) (meaning source_new) e)
  pub untouched : Refused
      → IsErrAnd result (λ e. e ≡ InvalidArguments) × (source_new ≡ source_old)
      × (writer_new ≡ writer_old)
