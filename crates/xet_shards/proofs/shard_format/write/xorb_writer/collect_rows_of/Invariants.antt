use Rattle.std.proofs.Common.{List, take}
use Rattle.xet_records.specs.declared.xorb_structs.XorbChunkSequenceEntry.{XorbChunkSequenceEntry}
use Rattle.xet_shards.specs.Steps.Collecting.{BeginsWithChunks}
use Rattle.xet_shards.specs.Steps.TablesSteps.{AddsChunkRows}
use Rattle.xet_shards.proofs.shard_format.write.xorb_writer.collect_rows_of.Given as goal

abbrev pub invariant-loop-index : goal.invariant-loop-index
invariant-loop-index l = (chunks : List XorbChunkSequenceEntry) → BeginsWithChunks l.rows l.count chunks
    → AddsChunkRows l.initial.chunk_rows.items l.chunk_rows.items l.first (take l.index chunks)
