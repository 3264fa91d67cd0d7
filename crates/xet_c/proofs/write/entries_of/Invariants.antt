use Rattle.std.proofs.Common.{◌≡◌, map, take}
use Rattle.xet_c.specs.Arguments.{c_segment}
use Rattle.xet_c.proofs.write.entries_of.Given as goal

abbrev pub invariant-loop-segment : goal.invariant-loop-segment
invariant-loop-segment l = map c_segment l.entries.items ≡ map (λ s. s.segment) (take l.segment-index l.segments)
