-- What is written of the xorbs of a minimal shard.
use Rattle.std.specs.Prelude.{◌≡◌, ◌↔◌, ℕ, Bool, false, IsTrue, List, [], ◌∷◌, map, Option}
use Rattle.std.specs.Io.KnownBytes.{Appends}
use Rattle.std.specs.List.Sorted.{IsSorted}
use Rattle.std.specs.Ordering.{is_lt}
use Rattle.xet_records.specs.declared.xorb_structs.MDBXorbInfo.{MDBXorbInfo}
use Rattle.xet_records.specs.XorbRecord.{xorb_records}
use Rattle.xet_shards.specs.declared.shard_format.write.written.WrittenXorbs.{WrittenXorbs}
use Rattle.xet_shards.specs.declared.streaming_shard.file_start.FileStart.{FileStart}
use Rattle.xet_shards.specs.Write.Layout.{if_included}
use Rattle.xet_shards.specs.Write.Section.{section_bytes}
use Rattle.xet_shards.specs.Write.Written.{HasWrittenFor}
use Rattle.xet_shards.specs.StreamingShard.MinimalShard.{start_cmp, has_start, mark_starts, IsKept}

-- a xorb with a mark on each of these starts, or none if it is not wanted
abbrev pub marked_if_wanted : Bool → List FileStart → MDBXorbInfo → List MDBXorbInfo
marked_if_wanted wanted starts x = map (mark_starts (has_start starts)) (if_included wanted (x ∷ []))

-- the section of the xorbs that a filter accepts was written, with a mark on each start, and this
-- was collected, for no chunk table
pub record WritesMarked (answers : MDBXorbInfo → Bool → Type 0) (starts : FileStart → Bool)
    (old new : Option (List ℕ)) (xorbs : List MDBXorbInfo) (written : WrittenXorbs) : Type 0 where
  pub kept : List MDBXorbInfo
  pub is_kept : IsKept answers xorbs kept
  pub bytes : Appends old new (section_bytes xorb_records (map (mark_starts starts) kept))
  pub collected : HasWrittenFor false written (map (mark_starts starts) kept)

-- the starts of a list from some start on, in ascending order
pub record AreStartsFrom (first : FileStart) (starts rest : List FileStart) : Type 0 where
  pub sorted : IsSorted start_cmp rest
  pub are : (s : FileStart) → IsTrue (has_start rest s)
      ↔ (IsTrue (has_start starts s) × (is_lt (start_cmp s first) ≡ false))
