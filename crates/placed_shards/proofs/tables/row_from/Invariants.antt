use Rattle.std.proofs.Common.{◌/◌, length}
use Rattle.std.specs.Prelude.{nat_lt}
use Rattle.placed_shards.specs.RangeRows.{word_in}
use Rattle.placed_shards.proofs.Bisection.{IsBisecting}
use Rattle.placed_shards.proofs.tables.row_from.Given as goal

abbrev pub invariant-loop-size : goal.invariant-loop-size
invariant-loop-size l = IsBisecting (λ i. nat_lt (word_in l.table i) l.word) (length l.table / 12) l.low l.size

abbrev pub decreases-loop-size : goal.decreases-loop-size
decreases-loop-size l = l.size
