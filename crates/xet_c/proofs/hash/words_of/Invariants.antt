use Rattle.std.proofs.Common.{◌≡◌, map, take}
use Rattle.xet_c.specs.Arguments.{c_hash}
use Rattle.xet_c.proofs.hash.words_of.Given as goal

abbrev pub invariant-loop-hash : goal.invariant-loop-hash
invariant-loop-hash l = l.words.items ≡ map c_hash (take l.hash-index l.hashes)
