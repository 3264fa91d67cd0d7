use Rattle.std.proofs.Common.{◌≡◌, ◌++◌, map, take, drop}
use Rattle.xet_records.specs.View.{as_kept}
use Rattle.placed_shards.proofs.optional_parts.all_with_parts.Given as goal

abbrev pub invariant-loop-index : goal.invariant-loop-index
invariant-loop-index l = l.files.items ≡ map (as_kept l.kept) (take l.index l.initial.files.items) ++ drop l.index l.initial.files.items
