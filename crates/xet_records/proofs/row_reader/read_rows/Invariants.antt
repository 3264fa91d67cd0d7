use Rattle.xet_records.specs.Rows.{ReadsRows}
use Rattle.xet_records.proofs.row_reader.read_rows.Given as goal

abbrev pub invariant-loop-row : goal.invariant-loop-row
invariant-loop-row g l =
    ReadsRows g.T.Row.row_bytes g.T.Row.Fits g.T.Row.as_read (g.I.ByteInput.reads l.initial.input l.input) l._row l.rows
