use Rattle.std.proofs.Common.{◌≡◌, ◌≤◌, All, List, flat_map, length}
use Rattle.xet_records.specs.declared.xorb_structs.XorbChunkSequenceEntry.{XorbChunkSequenceEntry}
use Rattle.xet_records.specs.XorbRow.{FitsChunk, chunk_row}
use Rattle.placed_shards.proofs.ChunkSums.{SumSoFar}
use Rattle.placed_shards.proofs.well_formed.have_few_bytes.Given as goal

abbrev pub invariant-loop-rest : goal.invariant-loop-rest
invariant-loop-rest l = record {
  few : l.bytes ≤ 4294967295;
  sum : (chunks : List XorbChunkSequenceEntry) → All FitsChunk chunks → l.rows ≡ flat_map chunk_row chunks → SumSoFar chunks l.bytes l.rest;
}

abbrev pub decreases-loop-rest : goal.decreases-loop-rest
decreases-loop-rest l = length l.rest
