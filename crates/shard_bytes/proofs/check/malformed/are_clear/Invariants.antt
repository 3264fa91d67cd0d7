use Rattle.std.proofs.Common.{◌≡◌, All, List, flat_map, length}
use Rattle.xet_records.specs.declared.file_structs.rows.HashRow.{HashRow}
use Rattle.xet_records.specs.FileRow.{FitsHashRow, hash_row}
use Rattle.shard_bytes.proofs.Malformed.{ClearSoFar}
use Rattle.shard_bytes.proofs.check.malformed.are_clear.Given as goal

abbrev pub invariant-loop-rest : goal.invariant-loop-rest
invariant-loop-rest l = (stored : List HashRow) → All FitsHashRow stored → l.rows ≡ flat_map hash_row stored → ClearSoFar stored l.rest

abbrev pub decreases-loop-rest : goal.decreases-loop-rest
decreases-loop-rest l = length l.rest
