use Rattle.std.proofs.Common.{◌≡◌, take}
use Rattle.mdb_base.specs.Keys.{distinct_keys}
use Rattle.mdb_merging.proofs.by_key.distinct_keys.Given as goal

abbrev pub invariant-loop-key : goal.invariant-loop-key
invariant-loop-key l = l.found.items ≡ distinct_keys (take l.key-index l.keys)
