use Rattle.std.proofs.Common.{◌≡◌, map, take}
use Rattle.xet_c.specs.Arguments.{c_hash}
use Rattle.xet_c.proofs.hash.hashes_of.Given as goal

abbrev pub invariant-loop-hash : goal.invariant-loop-hash
invariant-loop-hash l = map c_hash l.hashes.items ≡ take l.hash-index l.words
