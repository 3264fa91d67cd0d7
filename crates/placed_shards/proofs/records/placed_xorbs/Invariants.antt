use Rattle.std.proofs.Common.{◌≡◌, take}
use Rattle.placed_shards.proofs.records.placed_xorbs.Given as goal

abbrev pub invariant-loop-xorb : goal.invariant-loop-xorb
invariant-loop-xorb l = l.placed.items ≡ take l.xorb-index l.xorb-items
