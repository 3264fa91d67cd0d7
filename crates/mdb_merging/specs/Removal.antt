-- Which inputs of merges may be removed.
use Rattle.std.specs.Prelude.{◌≡◌, List, Contains}
use Rattle.mdb_merging.specs.declared.input_removal.HashedFile.{HashedFile}
use Rattle.mdb_files.specs.declared.stamp.FileId.{FileId}

-- an input may be removed: file, size, time and hash are those that were read, and no result is in
-- this file
abbrev pub MayRemove : HashedFile → HashedFile → List FileId → Type 0
MayRemove read now results = (now ≡ read) × ¬ Contains results now.stamp.id
