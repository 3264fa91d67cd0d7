use Rattle.std.proofs.Common.{◌≡◌, ℕ, ◌+◌, ◌*◌, List, ◌++◌, length, take, flat_map}
use Rattle.std.specs.Prelude.{All, map}
use Rattle.xet_records.specs.declared.file_structs.rows.HashRow.{HashRow}
use Rattle.xet_records.specs.FileRow.{hash_row, FitsHashRow, clear}
use Rattle.xet_shards.specs.Write.Puts.{Puts}
use Rattle.placed_shards.proofs.putting.put_cleared.Given as goal

abbrev pub invariant-loop-i : goal.invariant-loop-i
invariant-loop-i l =
    (l.end ≡ l.at + 48 * l.i)
    × ((stored : List HashRow) (rest : List ℕ) → All FitsHashRow stored → length stored ≡ l.count → l.rows ≡ flat_map hash_row stored ++ rest
    → Puts l.fn.out l.out l.at l.end (flat_map hash_row (map clear (take l.i stored))))
