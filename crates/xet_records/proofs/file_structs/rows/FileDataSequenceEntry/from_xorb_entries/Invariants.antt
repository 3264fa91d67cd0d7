use Rattle.std.proofs.Common.{◌≡◌, take}
use Rattle.xet_records.specs.XorbRecord.{total_bytes}
use Rattle.xet_records.proofs.file_structs.rows.FileDataSequenceEntry.from_xorb_entries.Given as goal

abbrev pub invariant-loop-chunk : goal.invariant-loop-chunk
invariant-loop-chunk l = l.unpacked_segment_bytes ≡ total_bytes (take l.chunk-index l.chunks)
