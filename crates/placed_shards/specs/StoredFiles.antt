-- Files as they are stored, and as reading returns them.
use Rattle.std.specs.Prelude.{Bool, List, map, if◌then◌else◌}
use Rattle.xet_records.specs.declared.file_structs.MDBFileInfo.{MDBFileInfo}
use Rattle.xet_records.specs.FileRecord.{as_read}

-- a file as it is stored, or as reading returns it
abbrev pub file_as : (is_read : Bool) → MDBFileInfo → MDBFileInfo
file_as is_read r = if is_read then as_read r else r

-- files as they are stored, or as reading returns them
abbrev pub files_as : (is_read : Bool) → List MDBFileInfo → List MDBFileInfo
files_as is_read files = if is_read then map as_read files else files
