use Rattle.std.proofs.Common.{◌-◌, ◌≤◌}
use Rattle.xet_records.specs.Steps.ViewReadingSteps.{AddsRows}
use Rattle.xet_records.proofs.view_reader.read_row_bytes.Given as goal

abbrev pub invariant-loop-done : goal.invariant-loop-done
invariant-loop-done g l = record {
  within : l.done ≤ l.count;
  added : AddsRows (g.I.ByteInput.reads l.initial.input l.input) l.done l.first l.buffer.items;
}

abbrev pub decreases-loop-done : goal.decreases-loop-done
decreases-loop-done g l = l.count - l.done
