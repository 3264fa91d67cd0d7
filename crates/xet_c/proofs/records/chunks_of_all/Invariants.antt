use Rattle.std.proofs.Common.{◌≡◌, take}
use Rattle.xet_c.specs.ListedRecords.{all_chunks}
use Rattle.xet_c.proofs.records.chunks_of_all.Given as goal

abbrev pub invariant-loop-xorb : goal.invariant-loop-xorb
invariant-loop-xorb l = l.chunks.items ≡ all_chunks (take l.xorb-index l.xorbs)
