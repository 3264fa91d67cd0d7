use Rattle.std.proofs.Common.{◌≡◌, take}
use Rattle.xet_c.specs.Arguments.{c_segments}
use Rattle.xet_c.proofs.segment.segments_of.Given as goal

abbrev pub invariant-loop-index : goal.invariant-loop-index
invariant-loop-index l = l.segments.items ≡ c_segments (take l.index l.entries) l.rows
