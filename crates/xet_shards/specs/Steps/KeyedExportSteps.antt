-- Steps towards what `KeyedExport` defines, which only contracts inside the crate speak of.
use Rattle.std.specs.Prelude.{◌≡◌, ◌⊎◌, ℕ, ◌+◌, ◌*◌, Bool, List, [], ◌∷◌, flat_map, sum_by, All, Option}
use Rattle.std.specs.Io.KnownBytes.{Appends}
use Rattle.xet_base.specs.declared.error.CoreError.{CoreError}
use Rattle.xet_base.specs.Errors.{IsWriteError}
use Rattle.xet_base.specs.Source.{Source, after_read, bytes_left}
use Rattle.xet_records.specs.declared.file_structs.MDBFileInfo.{MDBFileInfo}
use Rattle.xet_records.specs.declared.xorb_structs.MDBXorbInfo.{MDBXorbInfo}
use Rattle.xet_records.specs.RecordKind.{RecordKind, in_version}
use Rattle.xet_records.specs.View.{with_aux_if}
use Rattle.xet_records.specs.declared.record_reader.FormatVersion.{FormatVersion}
use Rattle.xet_shards.specs.Write.Section.{section_bytes}
use Rattle.xet_shards.specs.Read.SectionReading.{IsSection, SectionNotStreamed}
use Rattle.xet_shards.specs.Write.Layout.{LayoutOptions, if_included}
use Rattle.xet_records.specs.Limits.{MAX_ROWS}
use Rattle.xet_shards.specs.Export.KeyedExport.{keyed_xorb}

-- what an export with layout options writes for a file: the file, with or without its auxiliary
-- row, or nothing if the options have no file table
abbrev pub exported_file : Bool → LayoutOptions → MDBFileInfo → List MDBFileInfo
exported_file aux options r = if_included options.file_table (with_aux_if aux r ∷ [])

-- what an export with layout options writes for a xorb: the xorb with its chunk hashes under the
-- options' key
abbrev pub exported_xorb : Bool → LayoutOptions → MDBXorbInfo → List MDBXorbInfo
exported_xorb aux options r = keyed_xorb options.key r ∷ []

-- the records of the section at the source's position are these, and it was read up to its end
pub record ReadsThroughSection {H R : Type 0} (K : RecordKind H R) (old new : Source) (stored : List R)
    : Type 0 where
  pub section : IsSection K (bytes_left old) stored
  pub after : new ≡ after_read old (48 * (sum_by K.row_count stored + 1))

-- such a section, of a version, was read, and a section was written of what each record becomes,
-- and collected
pub record ExportsSection {H R : Type 0} (K : RecordKind H R) (version : FormatVersion)
    (exports : R → List R) (Collected : List R → Type 0) (old new : Source)
    (before after : Option (List ℕ)) : Type 0 where
  pub stored : List R
  pub passed : ReadsThroughSection (in_version K version) old new stored
  pub collected : Collected (flat_map exports stored)
  pub written : Appends before after (section_bytes K (flat_map exports stored))

-- the writer failed or an allocation did, after reads that did not fail
pub record WritingFails (old new : Source) (e : CoreError) : Type 0 where
  pub bytes : new.bytes ≡ old.bytes
  pub seeks : new.seeks ≡ old.seeks
  pub failures : new.failures ≡ old.failures
  pub cause : IsWriteError e

-- a section of a version was not exported: it was not read, or not written
abbrev pub ExportsNoSection : {H R : Type 0} → RecordKind H R → FormatVersion → Source → Source
    → CoreError → Type 0
ExportsNoSection K version old new e =
    SectionNotStreamed (in_version K version) old new e ⊎ WritingFails old new e

-- records were read from the source, their rows counted down from 4294967295, and this was made of
-- them
pub record HasExported {H R : Type 0} (K : RecordKind H R) (Took : List ℕ → Type 0)
    (Made : List R → Type 0) (left : ℕ) : Type 0 where
  pub stored : List R
  pub are_stored : All K.IsStored stored
  pub taken : Took (flat_map K.record_bytes stored)
  pub rows : sum_by K.row_count stored + left ≡ MAX_ROWS
  pub made : Made stored
