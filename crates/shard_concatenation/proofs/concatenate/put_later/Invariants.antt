use Rattle.std.proofs.Common.{◌≡◌, ℕ, ◌+◌, ◌<◌, ◌≤◌, ◌^◌, List, Some, All, length, take, flat_map}
use Rattle.xet_shards.specs.Read.TableReading.{FitsStart}
use Rattle.xet_shards.specs.Write.Tables.{start_row}
use Rattle.shard_concatenation.proofs.SectionParts.{HasWrittenStarts}
use Rattle.shard_concatenation.proofs.concatenate.put_later.Given as goal

abbrev pub invariant-loop-rest : goal.invariant-loop-rest
invariant-loop-rest l = (l.end + length l.rest ≤ l.at + length l.table)
    × ((rows : List (ℕ × ℕ)) → l.table ≡ flat_map start_row rows → All FitsStart rows → All (λ row. row.1 + l.first < 2 ^ 32) rows
    → HasWrittenStarts l.first rows l.rest (Some (take l.at l.fn.out)) (Some (take l.end l.out)))

abbrev pub decreases-loop-rest : goal.decreases-loop-rest
decreases-loop-rest l = length l.rest
