use Rattle.std.proofs.Common.{◌≡◌, ◌++◌, map, take, drop}
use Rattle.xet_shards.specs.Export.KeyedExport.{keyed_xorb}
use Rattle.placed_shards.proofs.keys.all_keyed.Given as goal

abbrev pub invariant-loop-index : goal.invariant-loop-index
invariant-loop-index l = l.xorbs.items ≡ map (keyed_xorb l.key) (take l.index l.initial.xorbs.items) ++ drop l.index l.initial.xorbs.items
