use Rattle.xet_records.specs.RecordKind.{in_version}
use Rattle.xet_records.specs.Processing.{HasProcessed}
use Rattle.xet_records.proofs.view_reader.process_section.Given as goal

abbrev pub invariant-loop-buffer : goal.invariant-loop-buffer
invariant-loop-buffer g l =
    goal.F-IsAlwaysCallable g l.callback
    × HasProcessed (in_version g.R.SectionRecord.kind l.version) g.V.RecordView.shown (g.I.ByteInput.reads l.fn.input l.input) (goal.F-step g) l.fn.callback l.callback l.rows_left

abbrev pub decreases-loop-buffer : goal.decreases-loop-buffer
decreases-loop-buffer g l = l.rows_left
