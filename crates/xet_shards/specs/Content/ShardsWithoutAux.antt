-- Shards without the auxiliary rows of their files.
use Rattle.std.specs.Prelude.{List, map}
use Rattle.std.specs.FinMap.{entries, from_sorted}
use Rattle.xet_base.specs.declared.merklehash.DataHash.{DataHash}
use Rattle.xet_records.specs.declared.file_structs.MDBFileInfo.{MDBFileInfo}
use Rattle.xet_records.specs.View.{without_aux}
use Rattle.xet_shards.specs.Content.Shard.{Shard}

-- entries with each file without its auxiliary row
abbrev pub entries_without_aux : List (DataHash × MDBFileInfo) → List (DataHash × MDBFileInfo)
entries_without_aux es = map (λ e. (e.0, without_aux e.1)) es

-- the same xorbs, and the same files without their auxiliary rows
abbrev pub shard_without_aux : Shard → Shard
shard_without_aux s = record s { files = from_sorted (entries_without_aux (entries s.files)) }
