use Rattle.std.proofs.Common.{◌≡◌, map, take}
use Rattle.xet_c.specs.ShownParts.{c_chunk_row}
use Rattle.xet_c.proofs.chunk_rows.rows_of.Given as goal

abbrev pub invariant-loop-entry : goal.invariant-loop-entry
invariant-loop-entry l = l.rows.items ≡ map c_chunk_row (take l.entry-index l.found)
