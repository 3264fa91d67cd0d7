use Rattle.std.proofs.Common.{List}
use Rattle.xet_records.specs.Copying.{CopiesRows}
use Rattle.xet_records.proofs.row_copier.copy_rows.Given as goal

abbrev pub invariant-loop-row : goal.invariant-loop-row
invariant-loop-row g l =
    (rows : List g.row.T.Denot)
    × CopiesRows g.T.Row.row_bytes g.T.Row.Fits g.T.Row.as_read (g.I.ByteInput.reads l.initial.input l.input) (g.W.Write.contents l.initial.writer) (g.W.Write.contents l.writer) l._row rows
