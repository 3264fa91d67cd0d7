-- Steps towards what `Checking` defines, which only contracts inside the crate speak of.
use Rattle.std.specs.Prelude.{◌≡◌, ◌≢◌, ◌⊎◌, ℕ, ◌<◌, List, [], ◌∷◌, ◌++◌, length, flat_map, All, Contains, Option, MatchOption}
use Rattle.std.specs.List.Sorted.{IsPermutation, IsSortedBy, IsStrictlySortedBy}
use Rattle.std.specs.Ordering.{is_lt}
use Rattle.xet_core_structures.specs.declared.error.CoreError.{CoreError}
use Rattle.xet_core_structures.specs.declared.error.CoreError.TheVariants.{OutOfMemory}
use Rattle.xet_core_structures.specs.declared.file_structs.MDBFileInfo.{MDBFileInfo}
use Rattle.xet_core_structures.specs.declared.xorb_structs.MDBXorbInfo.{MDBXorbInfo}
use Rattle.xet_core_structures.specs.declared.merklehash.DataHash.{DataHash}
use Rattle.xet_core_structures.specs.declared.shard_format.MDBShardFileFooter.{MDBShardFileFooter}
use Rattle.xet_core_structures.specs.declared.shard_format.MDBShardInfo.{MDBShardInfo}
use Rattle.xet_core_structures.specs.Ends.{IsTooShort}
use Rattle.xet_core_structures.specs.Errors.{IsInvalidShard}
use Rattle.xet_core_structures.specs.Hash.{hash_cmp}
use Rattle.xet_core_structures.specs.Layout.{footer_value, layout_of}
use Rattle.xet_core_structures.specs.WithOptions.{FitsSection}
use Rattle.xet_core_structures.specs.XorbRecord.{xorb_records}
use Rattle.xet_shards.specs.declared.shard_writer.LayoutOptions.{LayoutOptions}
use Rattle.xet_shards.specs.Read.SectionsBehindHeader.{options_of}
use Rattle.xet_shards.specs.Read.TableReading.{FitsTriple, triple_of}
use Rattle.xet_shards.specs.declared.shard_writer.ChunkTableRow.{ChunkTableRow}
use Rattle.xet_shards.specs.Write.Tables.{chunk_table_bytes, chunk_table_row_bytes, chunk_table_row_cmp}
use Rattle.shard_bytes.specs.declared.format.Format.{Format}
use Rattle.shard_bytes.specs.Format.{IsUnsupportedFor}
use Rattle.shard_bytes.specs.declared.check.Section.{Section}
use Rattle.shard_bytes.specs.declared.check.Part.{Part}
use Rattle.shard_bytes.specs.declared.check.Part.TheVariants.{ChunkTable}
use Rattle.shard_bytes.specs.declared.check.Finding.{Finding}
use Rattle.shard_bytes.specs.declared.check.Finding.TheVariants.{Unsupported, TooShort, Cut, Refused, OutOfOrder, Malformed, Differs, Reordered, Size}
use Rattle.shard_bytes.specs.Checking.{IsFinding, IsNote, IsOutOfOrder, IsMalformedAt, IsSamePart, IsAlikePart, IsReorderedTable, IsWhole, IsIntact}

-- these are all findings that are true of the bytes; if there is none, the bytes are whole, and if
-- there are only notes, they are intact
pub record IsReport (bytes : List ℕ) (findings : List Finding) : Type 0 where
  pub each : All (IsFinding bytes) findings
  pub all : (f : Finding) → IsFinding bytes f → Contains findings f
  pub none : findings ≡ [] → IsWhole bytes
  pub notes : All IsNote findings → IsIntact bytes

-- the findings for which `IsSo` holds were added; if none was, `Well` holds, and if only notes
-- were, `Fair` does
pub record Adds (Well Fair : Type 0) (IsSo : Finding → Type 0) (old new : List Finding) : Type 0 where
  pub more : List Finding
  pub added : new ≡ old ++ more
  pub each : All IsSo more
  pub all : (f : Finding) → IsSo f → Contains more f
  pub none : more ≡ [] → Well
  pub notes : All IsNote more → Fair

-- the same where no note is added
abbrev pub AddsFaults : Type 0 → (Finding → Type 0) → List Finding → List Finding → Type 0
AddsFaults Well = Adds Well Well

-- a finding that is true of bytes of which header and footer cannot be read
abbrev pub IsUnloaded : List ℕ → Finding → Type 0
IsUnloaded bytes f =
    ((reason : Format) × (f ≡ Unsupported reason) × IsUnsupportedFor bytes reason)
    ⊎ ((f ≡ TooShort) × IsTooShort bytes)

-- the one finding of a section that cannot be read, by the error of reading it
abbrev pub IsUnreadable : Section → CoreError → List Finding → Type 0
IsUnreadable section e findings =
    ((findings ≡ Refused section ∷ []) × IsInvalidShard e)
    ⊎ ((findings ≡ Cut section ∷ []) × (e ≢ OutOfMemory) × (¬ IsInvalidShard e))

-- the first record out of order was added, if there is one
abbrev pub AddsDisorder : Section → List DataHash → List Finding → List Finding → Type 0
AddsDisorder section hashes =
    AddsFaults (IsStrictlySortedBy hash_cmp hashes)
    (λ f. (n : ℕ) × (f ≡ OutOfOrder section n) × IsOutOfOrder n hashes)

-- each record that no shard may have was added
abbrev pub AddsMalformed : {R : Type 0} → Section → (R → Type 0) → List R → List Finding
    → List Finding → Type 0
AddsMalformed section IsFormed rs =
    AddsFaults (All IsFormed rs)
    (λ f. (n : ℕ) × (f ≡ Malformed section n) × IsMalformedAt IsFormed rs n)

-- a part was added if it differs
abbrev pub AddsPart : Part → List ℕ → MDBShardInfo → List ℕ → MDBShardFileFooter → List Finding
    → List Finding → Type 0
AddsPart part bytes info written footer =
    AddsFaults (IsSamePart part bytes info written footer)
    (λ f. (f ≡ Differs part) × (¬ IsSamePart part bytes info written footer))

-- the rows of a list in ascending order
pub record IsSortedOf (rows sorted : List ChunkTableRow) : Type 0 where
  pub moved : IsPermutation rows sorted
  pub ascends : IsSortedBy (λ x y. is_lt (chunk_table_row_cmp x y)) sorted

-- bytes are those of rows, and then too few for another
pub record ReadsRows (bytes : List ℕ) (rows : List ChunkTableRow) : Type 0 where
  pub rest : List ℕ
  pub bytes_are : bytes ≡ flat_map chunk_table_row_bytes rows ++ rest
  pub few : length rest < 16
  pub widths : All (λ row. FitsTriple (triple_of row)) rows

-- bytes are the chunk table of xorbs that a section may hold
abbrev pub IsWrittenTable : List ℕ → Type 0
IsWrittenTable bytes =
    (xorbs : List MDBXorbInfo) × FitsSection xorb_records xorbs × (bytes ≡ chunk_table_bytes xorbs)

-- bytes with this footer are a layout of records that sections may hold
pub record IsWritten (bytes : List ℕ) (footer : MDBShardFileFooter) : Type 0 where
  pub files : List MDBFileInfo
  pub xorbs : List MDBXorbInfo
  pub options : LayoutOptions
  pub xorbs_fit : FitsSection xorb_records xorbs
  pub bytes_are : bytes ≡ layout_of files xorbs options
  pub footer_is : footer ≡ footer_value files xorbs options

-- the finding about a chunk table: none if it is the one that was written, else that it is
-- reordered, or that it differs
abbrev pub FindsInTable : List ℕ → List ℕ → Option Finding → Type 0
FindsInTable written found finding =
    MatchOption finding (found ≡ written)
    (λ f. (found ≢ written)
    × (((f ≡ Reordered) × IsReorderedTable written found)
    ⊎ ((f ≡ Differs ChunkTable) × (¬ IsReorderedTable written found))))

-- the finding about the chunk table, if there is one, was added
abbrev pub AddsTable : List ℕ → MDBShardInfo → List ℕ → MDBShardFileFooter → List Finding
    → List Finding → Type 0
AddsTable bytes info written footer =
    Adds (IsSamePart ChunkTable bytes info written footer)
    (IsAlikePart ChunkTable bytes info written footer)
    (λ f. ((f ≡ Differs ChunkTable) × (¬ IsAlikePart ChunkTable bytes info written footer))
    ⊎ ((f ≡ Reordered) × IsAlikePart ChunkTable bytes info written footer
    × (¬ IsSamePart ChunkTable bytes info written footer)))

-- the size of the bytes that were written was added, if it differs
abbrev pub AddsSize : List ℕ → List ℕ → List Finding → List Finding → Type 0
AddsSize bytes written =
    AddsFaults (length bytes ≡ length written)
    (λ f. (f ≡ Size (length written)) × (length bytes ≢ length written))

-- a part or the size differs from those of the bytes that were written, or rows of the chunk table
-- stand in another order
abbrev pub IsDifference : List ℕ → MDBShardInfo → List ℕ → MDBShardFileFooter → Finding → Type 0
IsDifference bytes info written footer f =
    ((part : Part) × (f ≡ Differs part) × (¬ IsAlikePart part bytes info written footer))
    ⊎ ((f ≡ Reordered) × IsAlikePart ChunkTable bytes info written footer
    × (¬ IsSamePart ChunkTable bytes info written footer))
    ⊎ ((f ≡ Size (length written)) × (length bytes ≢ length written))

-- all parts and the size are those of the bytes that were written
abbrev pub IsSame : List ℕ → MDBShardInfo → List ℕ → MDBShardFileFooter → Type 0
IsSame bytes info written footer =
    ((part : Part) → IsSamePart part bytes info written footer)
    × (length bytes ≡ length written)

-- all parts and the size are those of the bytes that were written, but for the order of rows of the
-- chunk table
abbrev pub IsAlike : List ℕ → MDBShardInfo → List ℕ → MDBShardFileFooter → Type 0
IsAlike bytes info written footer =
    ((part : Part) → IsAlikePart part bytes info written footer)
    × (length bytes ≡ length written)

-- each difference from the bytes that were written was added
abbrev pub Compares : List ℕ → MDBShardInfo → List ℕ → MDBShardFileFooter → List Finding
    → List Finding → Type 0
Compares bytes info written footer =
    Adds (IsSame bytes info written footer) (IsAlike bytes info written footer)
    (IsDifference bytes info written footer)

-- each difference from what the library writes of these records was added
abbrev pub AddsDifferences : List ℕ → MDBShardInfo → List MDBFileInfo → List MDBXorbInfo
    → List Finding → List Finding → Type 0
AddsDifferences bytes info files xorbs old new =
    Compares bytes info (layout_of files xorbs (options_of info))
    (footer_value files xorbs (options_of info)) old new
