use Rattle.std.proofs.Common.{◌≡◌, take}
use Rattle.xet_records.specs.XorbRecord.{boundaries}
use Rattle.xet_records.proofs.xorb_structs.MDBXorbInfo.chunks_and_boundaries.Given as goal

abbrev pub invariant-loop-chunk : goal.invariant-loop-chunk
invariant-loop-chunk l = l.list.items ≡ boundaries (take l.chunk-index l.chunk-items)
