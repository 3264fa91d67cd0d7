use Rattle.std.proofs.Common.{◌≡◌, ◌*◌, ◌≤◌, take, sum_by}
use Rattle.xet_records.specs.declared.xorb_structs.XorbChunkSequenceEntry.{XorbChunkSequenceEntry}
use Rattle.xet_shards.proofs.shard_in_memory.xorb_store.sum_of_chunks.Given as goal

abbrev pub invariant-loop-chunk : goal.invariant-loop-chunk
invariant-loop-chunk l = record {
  bytes : l.bytes ≡ sum_by (λ (c : XorbChunkSequenceEntry). c.unpacked_segment_bytes) (take l.chunk-index l.chunk-items);
  bound : l.bytes ≤ 4294967295 * l.chunk-index;
}
