use Rattle.std.proofs.Common.{false, take}
use Rattle.xet_shards.specs.Write.Written.{HasWrittenFor}
use Rattle.placed_shards.proofs.collecting.collect_headers.Given as goal

abbrev pub invariant-loop-xorb : goal.invariant-loop-xorb
invariant-loop-xorb l = HasWrittenFor false l.written (take l.xorb-index l.xorbs)
