use Rattle.std.proofs.Common.{◌≡◌, map, take}
use Rattle.xet_c.specs.ShownRecords.{c_chunk}
use Rattle.xet_c.proofs.write.rows_of.Given as goal

abbrev pub invariant-loop-chunk : goal.invariant-loop-chunk
invariant-loop-chunk l = map c_chunk l.rows.items ≡ take l.chunk-index l.chunks
