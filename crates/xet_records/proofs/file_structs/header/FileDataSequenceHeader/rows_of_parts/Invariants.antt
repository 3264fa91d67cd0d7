use Rattle.std.proofs.Common.{◌≡◌, ◌*◌, ◌≤◌, take, sum_by}
use Rattle.xet_records.specs.Part.{part_rows}
use Rattle.xet_records.proofs.file_structs.header.FileDataSequenceHeader.rows_of_parts.Given as goal

abbrev pub invariant-loop-part : goal.invariant-loop-part
invariant-loop-part l = record {
  rows : l.rows ≡ sum_by (λ part. part_rows part l.self) (take l.part-index l.parts);
  bound : l.rows ≤ 4294967295 * l.part-index;
}
