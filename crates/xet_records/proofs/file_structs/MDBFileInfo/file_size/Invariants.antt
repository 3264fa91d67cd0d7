use Rattle.std.proofs.Common.{◌≡◌, ◌*◌, ◌≤◌, take, sum_by}
use Rattle.xet_records.specs.declared.file_structs.rows.FileDataSequenceEntry.{FileDataSequenceEntry}
use Rattle.xet_records.proofs.file_structs.MDBFileInfo.file_size.Given as goal

abbrev pub invariant-loop-segment : goal.invariant-loop-segment
invariant-loop-segment l = record {
  size : l.size ≡ sum_by (λ (s : FileDataSequenceEntry). s.unpacked_segment_bytes) (take l.segment-index l.segment-items);
  bound : l.size ≤ 4294967295 * l.segment-index;
}
