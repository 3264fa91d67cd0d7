-- The whole shard of bytes that may end anywhere behind its sections.
use Rattle.std.specs.Prelude.{◌≡◌, ℕ, List}
use Rattle.xet_core_structures.specs.TwoShards.ByteResults.{keyed_options}
use Rattle.xet_core_structures.specs.declared.error.CoreError.{CoreError}
use Rattle.xet_core_structures.specs.declared.file_structs.MDBFileInfo.{MDBFileInfo}
use Rattle.xet_core_structures.specs.declared.merklehash.DataHash.{DataHash}
use Rattle.xet_core_structures.specs.declared.xorb_structs.MDBXorbInfo.{MDBXorbInfo}
use Rattle.xet_core_structures.specs.KeyedExport.{ExportCase}
use Rattle.xet_core_structures.specs.Layout.{layout_of}
use Rattle.xet_shards.specs.Read.SectionsBehindHeader.{HasSections}
use Rattle.shard_bytes.specs.Outcomes.{InMemory}

-- the bytes begin with a header and two sections, and these are the layout of their records with
-- all tables, under a key, with creation 0 and without expiry
pub record Completes (key : DataHash) (bytes out : List ℕ) : Type 0 where
  pub files : List MDBFileInfo
  pub xorbs : List MDBXorbInfo
  pub sections : HasSections bytes files xorbs
  pub written : out ≡ layout_of files xorbs (keyed_options key)

-- why bytes are not completed: an allocation failed, or the header or a section is not read
abbrev pub RefusesCompletion : List ℕ → CoreError → Type 0
RefusesCompletion bytes = InMemory (ExportCase bytes)
