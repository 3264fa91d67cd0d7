use Rattle.std.proofs.Common.{take}
use Rattle.shard_bytes.specs.Minimal.{AreLacked}
use Rattle.shard_bytes.proofs.minimal.hashes_lacked.Given as goal

abbrev pub invariant-loop-hash : goal.invariant-loop-hash
invariant-loop-hash l = AreLacked l.shard (take l.hash-index l.hashes) l.lacking.items
