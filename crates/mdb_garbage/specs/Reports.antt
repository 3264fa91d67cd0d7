-- What is reported of files and xorbs.
use Rattle.std.specs.Prelude.{List, Contains}
use Rattle.xet_records.specs.declared.file_structs.MDBFileInfo.{MDBFileInfo}
use Rattle.xet_records.specs.declared.xorb_structs.MDBXorbInfo.{MDBXorbInfo}
use Rattle.mdb_garbage.specs.declared.finding.GarbageFinding.{GarbageFinding}
use Rattle.mdb_garbage.specs.declared.garbage.Garbage.{Garbage}
use Rattle.mdb_garbage.specs.declared.range.HashRange.{HashRange}
use Rattle.mdb_garbage.specs.Garbage.{HasXorb, IsGarbage, IsOfXorbs}
use Rattle.mdb_garbage.specs.Order.{Ascend}
use Rattle.mdb_garbage.specs.CollectedRanges.{Collects, HoldsSegments, InRange}

-- the findings about hashes in a range, each once, in ascending order
pub record Reports (range : HashRange) (files : List MDBFileInfo) (xorbs : List MDBXorbInfo)
    (found : List GarbageFinding) : Type 0 where
  pub each : (f : GarbageFinding) → Contains found f
      → IsGarbage files xorbs f × InRange range f.xorb
  pub all : (f : GarbageFinding) → IsGarbage files xorbs f → InRange range f.xorb → Contains found f
  pub ascend : Ascend found

-- all findings, each once, in ascending order
pub record ReportsAll (files : List MDBFileInfo) (xorbs : List MDBXorbInfo)
    (found : List GarbageFinding) : Type 0 where
  pub each : (f : GarbageFinding) → Contains found f → IsGarbage files xorbs f
  pub all : (f : GarbageFinding) → IsGarbage files xorbs f → Contains found f
  pub ascend : Ascend found

-- of these files and xorbs all is kept that is about hashes in the range
pub record HasSeen (files : List MDBFileInfo) (xorbs : List MDBXorbInfo) (g : Garbage) : Type 0 where
  pub segments : HoldsSegments files g.range g.segments.items.items
  pub hashes : Collects g.range (λ h. h) (HasXorb xorbs) g.xorbs.items
  pub found : Collects g.range (λ f. f.xorb) (IsOfXorbs files xorbs) g.found.items
