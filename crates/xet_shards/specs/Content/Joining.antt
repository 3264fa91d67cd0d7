-- Union and difference of maps from hashes.
use Rattle.std.specs.Prelude.{List, Option, None, Some, is_some, if◌then◌else◌}
use Rattle.std.specs.FinMap.{FinMap, get, find}
use Rattle.xet_base.specs.declared.merklehash.DataHash.{DataHash}
use Rattle.xet_base.specs.Hash.{hash_cmp}
use Rattle.xet_records.specs.declared.file_structs.MDBFileInfo.{MDBFileInfo}
use Rattle.xet_records.specs.Merging.{merged_file}

-- the value of a hash, unless a map has the hash
abbrev pub unless_in : {X : Type 0} → FinMap hash_cmp X → (DataHash → Option X) → DataHash → Option X
unless_in except f q = if is_some (get except q) then None else f q

-- the value of a hash in a list of entries
abbrev pub entry : {X : Type 0} → List (DataHash × X) → DataHash → Option X
entry es q = find hash_cmp q es

-- the file of a union: if both maps have one, the first with the parts that only the second has
abbrev pub either_file : Option MDBFileInfo → Option MDBFileInfo → Option MDBFileInfo
either_file None b = b
either_file (Some a) None = Some a
either_file (Some a) (Some b) = Some (merged_file a b)
