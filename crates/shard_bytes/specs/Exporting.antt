-- What a keyed export of a shard's bytes is, and why there is none.
use Rattle.std.specs.Prelude.{◌≡◌, ◌⊎◌, ℕ, ◌+◌, Bool, List, drop, if◌then◌else◌}
use Rattle.std.specs.FinMap.{empty, values}
use Rattle.xet_core_structures.specs.declared.error.CoreError.{CoreError}
use Rattle.xet_core_structures.specs.declared.error.CoreError.TheVariants.{InvalidArguments}
use Rattle.xet_core_structures.specs.declared.file_structs.MDBFileInfo.{MDBFileInfo}
use Rattle.xet_core_structures.specs.declared.xorb_structs.MDBXorbInfo.{MDBXorbInfo}
use Rattle.xet_core_structures.specs.declared.shard_format.MDBShardInfo.{MDBShardInfo}
use Rattle.xet_core_structures.specs.Ends.{HasHeader, HasHeaderAndFooter}
use Rattle.xet_core_structures.specs.FileRecord.{file_records_in}
use Rattle.xet_core_structures.specs.XorbRecord.{xorb_records}
use Rattle.xet_core_structures.specs.KeyedExport.{export_options, exported_bytes, keyed_xorbs, xorbs_after, ExportCase, CannotExport}
use Rattle.xet_core_structures.specs.KeyedShards.{keyed_shard}
use Rattle.xet_core_structures.specs.Layout.{if_included}
use Rattle.xet_core_structures.specs.Records.ShardContents.{HoldsShard, IsSectionOf}
use Rattle.xet_core_structures.specs.SectionReading.{IsSection}
use Rattle.xet_core_structures.specs.Shard.{Shard}
use Rattle.xet_core_structures.specs.Trees.ExportTrees.{shard_with_aux_if}
use Rattle.xet_core_structures.specs.View.{all_with_aux_if}
use Rattle.xet_core_structures.specs.TwoShards.ByteResults.{LoadRefusal}
use Rattle.placed_shards.specs.Content.{Content}
use Rattle.xet_shards.specs.declared.shard_writer.LayoutOptions.{LayoutOptions}
use Rattle.xet_shards.specs.Read.SectionsBehindHeader.{HasSections}
use Rattle.shard_bytes.specs.declared.export.Export.{Export}
use Rattle.shard_bytes.specs.Outcomes.{InMemory}

-- the layout options of an export
abbrev pub options_of_export : Export → LayoutOptions
options_of_export x =
    export_options x.key x.now x.valid_seconds x.parts.files x.parts.xorb_table x.parts.chunk_table

-- what an export is made of, of the files and xorbs of a shard
abbrev pub exported_content : Export → List MDBFileInfo → List MDBXorbInfo → Content
exported_content x files xorbs = record {
  files = if_included x.parts.files (all_with_aux_if x.parts.aux_ext files);
  xorbs = keyed_xorbs x.key xorbs;
  options = options_of_export x;
}

-- the bytes have a footer with which the shard can be exported, a header and both sections, and this
-- is made of what these hold
pub record IsExportOf (x : Export) (bytes : List ℕ) (made : Content) : Type 0 where
  pub info : MDBShardInfo
  pub ends : HasHeaderAndFooter bytes info
  -- the shard can be exported with this footer
  pub can : ¬ CannotExport info x.now x.valid_seconds
  pub files : List MDBFileInfo
  pub xorbs : List MDBXorbInfo
  pub sections : HasSections bytes files xorbs
  pub made_is : made ≡ exported_content x files xorbs

-- the bytes have a footer with which the shard can be exported, a header and both sections, and
-- what these hold is written with the layout options that are asked for, with the files' auxiliary
-- rows or without
pub record ExportsBytes (x : Export) (bytes out : List ℕ) : Type 0 where
  pub info : MDBShardInfo
  pub ends : HasHeaderAndFooter bytes info
  -- the shard can be exported with this footer
  pub can : ¬ CannotExport info x.now x.valid_seconds
  pub files : List MDBFileInfo
  pub xorbs : List MDBXorbInfo
  pub header : HasHeader bytes
  -- the file section comes after the header
  pub file_section : IsSection (file_records_in header.version) (drop 48 bytes) files
  -- the xorb section comes after the file section
  pub xorb_section : IsSection xorb_records (drop (xorbs_after files) bytes) xorbs
  -- what is written is the layout with the options that are asked for
  pub written : out ≡ exported_bytes (all_with_aux_if x.parts.aux_ext files) xorbs
      (export_options x.key x.now x.valid_seconds x.parts.files x.parts.xorb_table
      x.parts.chunk_table)

-- why bytes are not exported: header and footer are not read; or with this footer the shard cannot
-- be exported, or it can and a section is not read
abbrev pub NotExported : Export → List ℕ → CoreError → Type 0
NotExported x bytes e =
    LoadRefusal bytes e
    ⊎ ((i : MDBShardInfo) × HasHeaderAndFooter bytes i
    × (((e ≡ InvalidArguments) × CannotExport i x.now x.valid_seconds)
    ⊎ ((¬ CannotExport i x.now x.valid_seconds) × ExportCase bytes e)))

-- why bytes in memory are not exported: an allocation failed, header and footer are not read, the
-- shard cannot be exported, or a section is not read
abbrev pub RefusesExport : Export → List ℕ → CoreError → Type 0
RefusesExport x bytes = InMemory (NotExported x bytes)

-- the bytes begin with a header, and then come both sections of this shard, where an export reads
-- them; nothing is said of where the footer leads
pub record FollowsHeader (s : Shard) (bytes : List ℕ) : Type 0 where
  pub header : HasHeader bytes
  pub files : IsSectionOf (file_records_in header.version) (drop 48 bytes) s.files
  pub xorbs : IsSectionOf xorb_records (drop (xorbs_after (values s.files)) bytes) s.xorbs

-- a shard with its files or without
abbrev pub shard_with_files_if : Bool → Shard → Shard
shard_with_files_if wanted s = if wanted then s else record s { files = empty }

-- the shard that is exported of a shard: its chunk hashes are under the export's key, and its files
-- have auxiliary rows or not, or are left out
abbrev pub exported_shard : Export → Shard → Shard
exported_shard x s =
    shard_with_files_if x.parts.files (keyed_shard x.key (shard_with_aux_if x.parts.aux_ext s))

-- the bytes hold the shard that is exported of a shard, under the export's key, and their footer
-- has its times
pub record HoldsExport (x : Export) (s : Shard) (bytes : List ℕ) : Type 0 where
  pub holds : HoldsShard x.key (exported_shard x s) bytes
  pub creation : holds.has.info.metadata.shard_creation_timestamp ≡ x.now
  pub expiry : holds.has.info.metadata.shard_key_expiry ≡ x.now + x.valid_seconds
