use Rattle.std.proofs.Common.{◌-◌, ◌≤◌}
use Rattle.xet_base.specs.Bytes.{ReadsThrough}
use Rattle.xet_base.proofs.input.ByteInput.skip.Given as goal

abbrev pub invariant-loop-skipped : goal.invariant-loop-skipped
invariant-loop-skipped g l = record {
  within : l.skipped ≤ l.count;
  skipped : ReadsThrough (g.Self.ByteInput.reads l.initial.self l.self) l.skipped;
}

abbrev pub decreases-loop-skipped : goal.decreases-loop-skipped
decreases-loop-skipped g l = l.count - l.skipped
