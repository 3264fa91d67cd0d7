use Rattle.std.proofs.Common.{◌≡◌, ◌++◌, map, take}
use Rattle.xet_c.specs.ShownRecords.{c_chunk}
use Rattle.xet_c.proofs.records.push_chunks.Given as goal

abbrev pub invariant-loop-entry : goal.invariant-loop-entry
invariant-loop-entry l = l.chunks.items ≡ l.initial.chunks.items ++ map c_chunk (take l.entry-index l.entries)
