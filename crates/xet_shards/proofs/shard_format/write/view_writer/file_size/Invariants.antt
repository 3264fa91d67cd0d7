use Rattle.std.proofs.Common.{◌≡◌, ◌*◌, ◌≤◌, take, sum_by}
use Rattle.xet_records.specs.declared.file_structs.rows.FileDataSequenceEntry.{FileDataSequenceEntry}
use Rattle.xet_shards.proofs.shard_format.write.view_writer.file_size.Given as goal

abbrev pub invariant-loop-index : goal.invariant-loop-index
invariant-loop-index l = record {
  size : l.size ≡ sum_by (λ (s : FileDataSequenceEntry). s.unpacked_segment_bytes) (take l.index l.view.segments);
  bound : l.size ≤ 4294967295 * l.index;
}
