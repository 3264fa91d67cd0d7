-- What single steps add to lists, which no public call's contract cites.
use Rattle.std.specs.Prelude.{◌≡◌, ◌⊎◌, List, [], ◌∷◌, ◌++◌, Option, Some, Contains}
use Rattle.xet_base.specs.declared.merklehash.DataHash.{DataHash}
use Rattle.xet_records.specs.declared.file_structs.MDBFileInfo.{MDBFileInfo}
use Rattle.xet_records.specs.declared.xorb_structs.MDBXorbInfo.{MDBXorbInfo}
use Rattle.mdb_garbage.specs.declared.finding.Misfit.{Misfit}
use Rattle.mdb_garbage.specs.declared.finding.Misfit.TheVariants.{Unnamed, Lacking}
use Rattle.mdb_garbage.specs.declared.finding.GarbageFinding.{GarbageFinding}
use Rattle.mdb_garbage.specs.declared.finding.Segment.{Segment}
use Rattle.mdb_garbage.specs.declared.range.HashRange.{HashRange}
use Rattle.mdb_garbage.specs.Garbage.{IsAmong, IsTotal, IsStart, IsOfSegment}
use Rattle.mdb_garbage.specs.Order.{Ascend}
use Rattle.mdb_garbage.specs.CollectedRanges.{InRange}

-- a segment is appended if the hash that it names is in a range
abbrev pub PushesSegment : HashRange → Segment → (old new : List Segment) → Type 0
PushesSegment range s old new =
    (InRange range s.xorb × (new ≡ old ++ s ∷ [])) ⊎ ((¬ InRange range s.xorb) × (new ≡ old))

-- the segments of a file that name hashes in a range are added
pub record AddsFile (range : HashRange) (file : MDBFileInfo) (old new : List Segment) : Type 0 where
  pub kept : (s : Segment) → Contains old s → Contains new s
  pub added : (s : Segment) → IsAmong file s → InRange range s.xorb → Contains new s
  pub each : (s : Segment) → Contains new s → Contains old s ⊎ IsAmong file s

-- the values that a fact is true of are added, and no others
pub record Adds {X : Type 0} (P : X → Type 0) (old new : List X) : Type 0 where
  pub kept : (x : X) → Contains old x → Contains new x
  pub added : (x : X) → P x → Contains new x
  pub each : (x : X) → Contains new x → Contains old x ⊎ P x

-- a finding is this misfit of the xorb with this hash, if there is a misfit
abbrev pub IsFound : DataHash → Option Misfit → GarbageFinding → Type 0
IsFound hash misfit f = (f.xorb ≡ hash) × (misfit ≡ Some f.misfit)

-- a finding is a misfit of one of these values, of the hash that belongs to the value
abbrev pub IsOneOf : {T : Type 0} → (T → DataHash) → (T → Misfit → Type 0) → List T
    → GarbageFinding → Type 0
IsOneOf {T = T} hash_of F xs f = (x : T) × Contains xs x × (f.xorb ≡ hash_of x) × F x f.misfit

-- none of these segments names a hash
abbrev pub IsUnnamed : List Segment → DataHash → Misfit → Type 0
IsUnnamed segments hash misfit =
    (misfit ≡ Unnamed) × ((s : Segment) → Contains segments s → ¬ (s.xorb ≡ hash))

-- a segment names none of these hashes
abbrev pub IsLacking : List DataHash → Segment → Misfit → Type 0
IsLacking hashes s misfit = (misfit ≡ Lacking s) × (¬ Contains hashes s.xorb)

-- a misfit of a xorb by itself, or of one of these segments
abbrev pub IsOfXorbAmong : List Segment → MDBXorbInfo → GarbageFinding → Type 0
IsOfXorbAmong segments x f =
    (((f.xorb ≡ x.metadata.xorb_hash) × IsTotal x f.misfit)
    ⊎ ((f.xorb ≡ x.metadata.xorb_hash) × IsStart x f.misfit))
    ⊎ IsOneOf (λ s. x.metadata.xorb_hash) (λ s. IsOfSegment s x) segments f

-- a list keeps the values whose hashes are in a range, and no others
pub record KeepsInRange {X : Type 0} (range : HashRange) (hash_of : X → DataHash) (old new : List X)
    : Type 0 where
  pub kept : (x : X) → Contains old x → InRange range (hash_of x) → Contains new x
  pub each : (x : X) → Contains new x → Contains old x × InRange range (hash_of x)

-- a list has the findings of another about hashes in a range, each once, in ascending order
pub record IsInOrder (range : HashRange) (old new : List GarbageFinding) : Type 0 where
  pub kept : (f : GarbageFinding) → Contains old f → InRange range f.xorb → Contains new f
  pub each : (f : GarbageFinding) → Contains new f → Contains old f × InRange range f.xorb
  pub ascend : Ascend new
