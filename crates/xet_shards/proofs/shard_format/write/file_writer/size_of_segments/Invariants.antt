use Rattle.std.proofs.Common.{◌≡◌, ◌*◌, ◌≤◌, List, take, sum_by}
use Rattle.xet_records.specs.declared.file_structs.rows.FileDataSequenceEntry.{FileDataSequenceEntry}
use Rattle.xet_shards.specs.Steps.Collecting.{BeginsWithSegments}
use Rattle.xet_shards.proofs.shard_format.write.file_writer.size_of_segments.Given as goal

abbrev pub invariant-loop-index : goal.invariant-loop-index
invariant-loop-index l = record {
  size : (segments : List FileDataSequenceEntry) → BeginsWithSegments l.rows l.count segments
      → l.size ≡ sum_by (λ (s : FileDataSequenceEntry). s.unpacked_segment_bytes) (take l.index segments);
  bound : l.size ≤ 4294967295 * l.index;
}
