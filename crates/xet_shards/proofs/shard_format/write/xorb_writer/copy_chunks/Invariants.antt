use Rattle.std.proofs.Common.{List}
use Rattle.xet_records.specs.declared.xorb_structs.XorbChunkSequenceEntry.{XorbChunkSequenceEntry}
use Rattle.xet_records.specs.Copying.{CopiesRows}
use Rattle.xet_records.specs.XorbRow.{chunk_row, FitsChunk}
use Rattle.xet_shards.specs.Steps.TablesSteps.{AddsChunkRows}
use Rattle.xet_shards.proofs.shard_format.write.xorb_writer.copy_chunks.Given as goal

abbrev pub invariant-loop-index : goal.invariant-loop-index
invariant-loop-index g l =
    (chunks : List XorbChunkSequenceEntry)
    × CopiesRows chunk_row FitsChunk (λ c. c) (g.I.ByteInput.reads l.initial.input l.input) (g.W.Write.contents l.initial.writer) (g.W.Write.contents l.writer) l.index chunks
    × AddsChunkRows l.initial.chunk_rows.items l.chunk_rows.items l.row chunks
