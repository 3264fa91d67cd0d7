use Rattle.std.proofs.Common.{◌≡◌, ◌-◌, ◌≤◌, List, length, flat_map}
use Rattle.std.specs.Prelude.{All}
use Rattle.mdb_assembly.specs.Assembly.{NumberedRow, row_bytes, IsRowOf}
use Rattle.mdb_assembly.proofs.RowNumbers.{RaisedUpTo}
use Rattle.mdb_assembly.proofs.row_numbers.shift_row_numbers.Given as goal

abbrev pub invariant-loop-rows : goal.invariant-loop-rows
invariant-loop-rows l = (l.at ≤ length l.rows) × (length l.rows ≡ length l.initial.rows)
    × ((table : List NumberedRow) → l.initial.rows ≡ flat_map row_bytes table → All (IsRowOf l.row_size) table
    → RaisedUpTo l.row_size l.first table l.at l.rows)

abbrev pub decreases-loop-rows : goal.decreases-loop-rows
decreases-loop-rows l = length l.rows - l.at
