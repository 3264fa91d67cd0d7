use Rattle.std.proofs.Common.{◌≡◌, take}
use Rattle.placed_shards.proofs.records.placed_files.Given as goal

abbrev pub invariant-loop-file : goal.invariant-loop-file
invariant-loop-file l = l.placed.items ≡ take l.file-index l.file-items
