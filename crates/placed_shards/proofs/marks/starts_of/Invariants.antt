use Rattle.std.proofs.Common.{◌≡◌, take, flat_map}
use Rattle.xet_shards.specs.StreamingShard.MinimalShard.{start_of_file}
use Rattle.placed_shards.proofs.marks.starts_of.Given as goal

abbrev pub invariant-loop-file : goal.invariant-loop-file
invariant-loop-file l = l.starts.items ≡ flat_map start_of_file (take l.file-index l.files)
