use Rattle.std.proofs.Common.{◌≤◌, ◌-◌}
use Rattle.xet_base.proofs.keyed_hash.tree.level_for.Given as goal

abbrev pub invariant-loop-level : goal.invariant-loop-level
invariant-loop-level l = l.level ≤ 54

abbrev pub decreases-loop-level : goal.decreases-loop-level
decreases-loop-level l = 54 - l.level
