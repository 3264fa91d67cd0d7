use Rattle.std.proofs.Common.{take}
use Rattle.xet_shards.specs.Write.Written.{HasWrittenXorbs}
use Rattle.placed_shards.proofs.collecting.collect_with_chunks.Given as goal

abbrev pub invariant-loop-xorb : goal.invariant-loop-xorb
invariant-loop-xorb l = HasWrittenXorbs l.written (take l.xorb-index l.xorbs)
