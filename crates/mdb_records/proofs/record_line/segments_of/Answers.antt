use Rattle.std.proofs.Common.{arith, refl, ◌∙◌}
use Rattle.std.proofs.lemmas.List.{take_all}
use Rattle.mdb_records.specs.RecordReports.{segment_report}
use Rattle.mdb_records.proofs.RecordLines.{one_more_row}
use Rattle.mdb_records.proofs.record_line.segments_of.Goals as goal

pub loop-row-preserved : goal.loop-row-preserved
loop-row-preserved c =
    one_more_row segment_report c.loop-row.made c.push.new.self c.args.rows.now c.loop-row.row-index _ _
    c.loop-row-test.true c.loop-row.invariant c.in_ok-push.ensures.ok refl

pub returns : goal.returns
returns c = c.loop-row.invariant ∙ take_all c.loop-row.row-index c.args.rows.now (omega arith)
