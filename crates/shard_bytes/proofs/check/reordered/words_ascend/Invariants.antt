use Rattle.std.proofs.Common.{ℕ, ◌+◌, ◌<◌, ◌≤◌, slice_index_or}
use Rattle.xet_shards.specs.declared.shard_writer.ChunkTableRow.{ChunkTableRow}
use Rattle.shard_bytes.proofs.check.reordered.words_ascend.Given as goal

abbrev pub invariant-loop-next : goal.invariant-loop-next
invariant-loop-next l = (k : ℕ) (d : ChunkTableRow) → k + 1 < l.next → (slice_index_or l.rows k d).word ≤ (slice_index_or l.rows (k + 1) d).word
