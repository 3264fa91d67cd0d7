use Rattle.std.proofs.Common.{◌≡◌, ◌*◌, take, drop}
use Rattle.xet_records.specs.Rows.{ReadsRows}
use Rattle.xet_records.proofs.record_bytes.rows.Given as goal

abbrev pub invariant-loop-i : goal.invariant-loop-i
invariant-loop-i g l =
    ReadsRows g.T.Row.row_bytes g.T.Row.Fits g.T.Row.as_read (λ taken. taken ≡ take (48 * l.i) (drop (48 * l.start) l.bytes)) l.i l.rows
