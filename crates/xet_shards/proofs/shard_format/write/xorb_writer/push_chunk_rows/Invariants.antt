use Rattle.std.proofs.Common.{◌≡◌, take}
use Rattle.xet_shards.specs.Steps.TablesSteps.{AddsChunkRows}
use Rattle.xet_shards.proofs.shard_format.write.xorb_writer.push_chunk_rows.Given as goal

abbrev pub invariant-loop-chunk : goal.invariant-loop-chunk
invariant-loop-chunk l = record {
  index : l.index ≡ l.chunk-index;
  rows : AddsChunkRows l.initial.chunk_rows.items l.chunk_rows.items l.row (take l.chunk-index l.chunks);
}
