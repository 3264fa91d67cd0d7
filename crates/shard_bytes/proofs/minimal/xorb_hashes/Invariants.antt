use Rattle.std.proofs.Common.{◌≡◌, map, take}
use Rattle.xet_core_structures.specs.Shard.{xorb_hash_of}
use Rattle.shard_bytes.proofs.minimal.xorb_hashes.Given as goal

abbrev pub invariant-loop-index : goal.invariant-loop-index
invariant-loop-index l = l.hashes.items ≡ map xorb_hash_of (take l.index l.shard.xorbs)
