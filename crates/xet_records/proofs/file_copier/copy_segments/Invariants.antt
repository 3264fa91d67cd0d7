use Rattle.std.proofs.Common.{◌≡◌, ◌*◌, ◌≤◌, List, sum_by}
use Rattle.xet_records.specs.declared.file_structs.rows.FileDataSequenceEntry.{FileDataSequenceEntry}
use Rattle.xet_records.specs.Copying.{CopiesRows}
use Rattle.xet_records.specs.FileRow.{segment_row, FitsSegment}
use Rattle.xet_records.proofs.file_copier.copy_segments.Given as goal

abbrev pub invariant-loop-row : goal.invariant-loop-row
invariant-loop-row g l = record {
  copied : (segments : List FileDataSequenceEntry)
      × CopiesRows segment_row FitsSegment (λ s. s) (g.I.ByteInput.reads l.initial.input l.input) (g.W.Write.contents l.initial.writer) (g.W.Write.contents l.writer) l._row segments
      × (l.bytes ≡ sum_by (λ (s : FileDataSequenceEntry). s.unpacked_segment_bytes) segments);
  bound : l.bytes ≤ 4294967295 * l._row;
}
