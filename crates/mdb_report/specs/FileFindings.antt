-- What a check reports of a file.
use Rattle.std.specs.Prelude.{◌≡◌, ◌⊎◌, ℕ, List, map, All, Contains, Option, None, Some}
use Rattle.std.specs.Str.Pattern.{RFindsChar, SplitsAroundMatch}
use Rattle.xet_core_structures.specs.Names.{IsShardName}
use Rattle.xet_core_structures.specs.declared.shard_format.MDBShardInfo.{MDBShardInfo}
use Rattle.shard_bytes.specs.declared.check.Section.TheVariants.{Files, Xorbs}
use Rattle.shard_bytes.specs.declared.check.Part.TheVariants.{Header, FileSection, XorbSection, FileTable, XorbTable, ChunkTable, Footer}
use Rattle.shard_bytes.specs.declared.check.Finding.{Finding}
use Rattle.shard_bytes.specs.declared.check.Finding.TheVariants.{Cut, Refused, OutOfOrder, Malformed, Differs, Reordered}
use Rattle.shard_bytes.specs.Checking.{IsFinding, IsNote}
use Rattle.mdb_report.specs.declared.file_finding.FileFinding.{FileFinding}
use Rattle.mdb_report.specs.declared.file_finding.FileFinding.TheVariants.{Bytes, Name, Hash}

-- a finding is true of a file with this name and these bytes; without a key none is of a hash
abbrev pub IsFileFinding : List ℕ → List ℕ → FileFinding → Type 0
IsFileFinding name bytes (Bytes finding) = IsFinding bytes finding
IsFileFinding name bytes Name = ¬ IsShardName name
IsFileFinding name bytes (Hash hash) = ⊥

-- a finding is a note: nothing is lost
abbrev pub IsFileNote : FileFinding → Type 0
IsFileNote (Bytes finding) = IsNote finding
IsFileNote _ = ⊥

-- the name is what a path has after its last slash, or all of it if it has none
abbrev pub IsFileName : List ℕ → List ℕ → Type 0
IsFileName path name =
    (RFindsChar 47 path None × (name ≡ path))
    ⊎ ((folder : List ℕ) × SplitsAroundMatch (RFindsChar 47) path folder name)

-- the findings of a file are those that are true of its bytes, and no others
abbrev pub AreFindings : List ℕ → List FileFinding → Type 0
AreFindings bytes found =
    (findings : List Finding) × (found ≡ map Bytes findings)
    × All (IsFinding bytes) findings
    × ((f : Finding) → IsFinding bytes f → Contains findings f)

-- where the part that a finding is about starts, as the footer has it
abbrev pub start_in : MDBShardInfo → Finding → Option ℕ
start_in info (Cut Files) = Some info.metadata.file_info_offset
start_in info (Cut Xorbs) = Some info.metadata.xorb_info_offset
start_in info (Refused Files) = Some info.metadata.file_info_offset
start_in info (Refused Xorbs) = Some info.metadata.xorb_info_offset
start_in info (OutOfOrder Files n) = Some info.metadata.file_info_offset
start_in info (OutOfOrder Xorbs n) = Some info.metadata.xorb_info_offset
start_in info (Malformed Files n) = Some info.metadata.file_info_offset
start_in info (Malformed Xorbs n) = Some info.metadata.xorb_info_offset
start_in info (Differs Header) = Some 0
start_in info (Differs FileSection) = Some info.metadata.file_info_offset
start_in info (Differs XorbSection) = Some info.metadata.xorb_info_offset
start_in info (Differs FileTable) = Some info.metadata.file_lookup_offset
start_in info (Differs XorbTable) = Some info.metadata.xorb_lookup_offset
start_in info (Differs ChunkTable) = Some info.metadata.chunk_lookup_offset
start_in info (Differs Footer) = Some info.metadata.footer_offset
start_in info Reordered = Some info.metadata.chunk_lookup_offset
start_in info _ = None
