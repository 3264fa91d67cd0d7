use Rattle.std.proofs.Common.{map, take}
use Rattle.xet_c.specs.ListedRecords.{AreHashRows}
use Rattle.xet_c.proofs.write.verification_of.Given as goal

abbrev pub invariant-loop-segment : goal.invariant-loop-segment
invariant-loop-segment l = AreHashRows (map (λ s. s.verification) (take l.segment-index l.segments)) l.rows.items
