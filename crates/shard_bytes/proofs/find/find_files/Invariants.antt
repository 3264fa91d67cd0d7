use Rattle.std.proofs.Common.{take}
use Rattle.std.specs.List.{AllZip}
use Rattle.shard_bytes.specs.Finding.{AnswersLookup}
use Rattle.shard_bytes.proofs.find.find_files.Given as goal

abbrev pub invariant-loop-hash : goal.invariant-loop-hash
invariant-loop-hash l = AllZip (AnswersLookup l.bytes) (take l.hash-index l.hashes) l.found.items
