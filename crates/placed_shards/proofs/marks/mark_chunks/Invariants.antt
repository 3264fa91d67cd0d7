use Rattle.std.proofs.Common.{◌≡◌, take}
use Rattle.std.specs.Prelude.{All}
use Rattle.xet_records.specs.declared.xorb_structs.MDBXorbInfo.{MDBXorbInfo}
use Rattle.xet_shards.specs.Content.Shard.{xorb_hash_of}
use Rattle.xet_shards.specs.StreamingShard.MinimalShard.{has_start, mark_starts}
use Rattle.placed_shards.proofs.marks.mark_chunks.Given as goal

abbrev pub invariant-loop-start : goal.invariant-loop-start
invariant-loop-start l =
    (x : MDBXorbInfo) → x.chunks ≡ l.fn.chunks → All (λ s. s.xorb_hash ≡ xorb_hash_of x) l.starts
    → l.chunks ≡ (mark_starts (has_start (take l.start-index l.starts)) x).chunks
