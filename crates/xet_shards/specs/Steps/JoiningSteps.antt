-- Steps towards what `Joining` defines, which only contracts inside the crate speak of.
use Rattle.std.specs.Prelude.{◌≡◌, ◌≤◌, Option, Some}
use Rattle.std.specs.FinMap.{get}
use Rattle.xet_base.specs.declared.merklehash.DataHash.{DataHash}
use Rattle.xet_records.specs.declared.file_structs.MDBFileInfo.{MDBFileInfo}
use Rattle.xet_records.specs.FileRecord.{row_count, IsWellFormed}
use Rattle.xet_records.specs.Merging.{IsSameFile, merged_file}
use Rattle.xet_shards.specs.Content.Shard.{FileMap, file_hash_of}
use Rattle.xet_records.specs.Limits.{MAX_ROWS}
use Rattle.xet_shards.specs.Content.Joining.{either_file}

-- two records of one file; the rows of the first with the parts that only the second has fit `u32`
pub record CanJoinFile (a b : MDBFileInfo) : Type 0 where
  pub same : IsSameFile a.metadata b.metadata
  pub rows : row_count (merged_file a b) ≤ MAX_ROWS

-- the files that both maps have can be joined
abbrev pub CanJoinFiles : FileMap → FileMap → Type 0
CanJoinFiles a b =
    (q : DataHash) → (r s : MDBFileInfo) → get a q ≡ Some r → get b q ≡ Some s → CanJoinFile r s

-- a file joined with the stored one, if there is one: the stored file with each part that only the
-- other has, or a copy; it is well-formed and has the other's hash
pub record IsJoinedFile (own : Option MDBFileInfo) (twin joined : MDBFileInfo) : Type 0 where
  pub file : Some joined ≡ either_file own (Some twin)
  pub hash : file_hash_of joined ≡ file_hash_of twin
  pub well_formed : IsWellFormed joined
