use Rattle.std.proofs.Common.{refl}
use Rattle.xet_records.proofs.Reading.{no_rows, more_rows}
use Rattle.xet_records.proofs.Decoding.{next_row}
use Rattle.xet_records.proofs.record_bytes.rows.Goals as goal

pub loop-i-init : goal.loop-i-init
loop-i-init g c = rw c.new-rows.ensures (no_rows _ _ _ _ refl)

pub loop-i-preserved : goal.loop-i-preserved
loop-i-preserved g c =
    rw c.in_ok-push.ensures.ok (more_rows _ _ _ _ _ _ _ _ _ (next_row c.args.bytes.now c.args.start c.loop-i.i) c.loop-i.invariant c.row.ensures)
