-- The join of a set of shards: for each hash what any of them has, part by part.
use Rattle.std.specs.Prelude.{◌≡◌, ◌↔◌, List, Option, Some, option_map, option_and_then}
use Rattle.std.specs.FinMap.{get}
use Rattle.xet_base.specs.declared.merklehash.DataHash.{DataHash}
use Rattle.xet_records.specs.declared.file_structs.rows.FileDataSequenceEntry.{FileDataSequenceEntry}
use Rattle.xet_records.specs.declared.file_structs.rows.HashRow.{HashRow}
use Rattle.xet_records.specs.declared.file_structs.part.OptionalPart.{OptionalPart}
use Rattle.xet_records.specs.declared.file_structs.MDBFileInfo.{MDBFileInfo}
use Rattle.xet_records.specs.Merging.{part_in, file_with}
use Rattle.xet_shards.specs.Content.Shard.{Shard, IsShard}
use Rattle.xet_shards.specs.Content.SetOperations.{ShardsAgree}

-- the segments of a shard's file with this hash, if there is one
abbrev pub segments_under : DataHash → Shard → Option (List FileDataSequenceEntry)
segments_under q s = option_map (λ r. r.segments) (get s.files q)

-- an optional part of a shard's file with this hash, if there is one and it has the part
abbrev pub part_under : OptionalPart → DataHash → Shard → Option (List HashRow)
part_under part q s = option_and_then (part_in part) (get s.files q)

-- the shard has a part exactly if one of the shards has it
abbrev pub HasWhatAnyHas : {X : Type 0} → (Shard → Type 0) → Shard → (Shard → Option X) → Type 0
HasWhatAnyHas {X} IsOne c part =
    (x : X) → (part c ≡ Some x) ↔ ((s : Shard) × IsOne s × (part s ≡ Some x))

-- each file is determined by its parts
abbrev pub FollowsParts : Shard → Type 0
FollowsParts c =
    (q : DataHash) → (r : MDBFileInfo) → get c.files q ≡ Some r
    → r ≡ file_with q r.segments (λ part. part_in part r)

-- the join of a set of shards: for each hash exactly the xorb, the segments and the optional parts
-- that any of them has
pub record IsJoinOf (IsOne : Shard → Type 0) (c : Shard) : Type 0 where
  pub xorbs : (q : DataHash) → HasWhatAnyHas IsOne c (λ s. get s.xorbs q)
  pub segments : (q : DataHash) → HasWhatAnyHas IsOne c (segments_under q)
  pub parts : (part : OptionalPart) (q : DataHash) → HasWhatAnyHas IsOne c (part_under part q)
  pub follows : FollowsParts c

-- a set of shards, each two of which agree
pub record AgreePairwise (IsOne : Shard → Type 0) : Type 0 where
  pub shards : (s : Shard) → IsOne s → IsShard s
  pub pairs : (s t : Shard) → IsOne s → IsOne t → ShardsAgree s t
