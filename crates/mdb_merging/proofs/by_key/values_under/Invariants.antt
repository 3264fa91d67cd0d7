use Rattle.std.proofs.Common.{◌≡◌, length, take, zip}
use Rattle.mdb_merging.proofs.Keys.{values_of_key}
use Rattle.mdb_merging.proofs.by_key.values_under.Given as goal

abbrev pub invariant-loop-value : goal.invariant-loop-value
invariant-loop-value g l = l.found.items ≡ values_of_key l.key (take (length l.yielded) (zip l.values l.keys))
