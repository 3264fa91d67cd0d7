use Rattle.std.proofs.Common.{◌≡◌, List, flat_map}
use Rattle.xet_records.specs.declared.xorb_structs.MDBXorbInfo.{MDBXorbInfo}
use Rattle.xet_records.specs.XorbRecord.{xorb_records}
use Rattle.xet_shards.specs.StreamingShard.MinimalShard.{has_start, ascending_hashes, eligible_in}
use Rattle.xet_shards.specs.StreamingShard.MinimalReading.{HasReadViews}
use Rattle.xet_shards.proofs.streaming_shard.eligible.read_eligible_after.Given as goal

abbrev pub invariant-loop-buffer : goal.invariant-loop-buffer
invariant-loop-buffer g l =
    (xorbs : List MDBXorbInfo) × HasReadViews xorb_records (λ x. x) (g.I.ByteInput.reads l.fn.input l.input) xorbs l.rows_left
    × (l.hashes.keys ≡ ascending_hashes (flat_map (eligible_in (has_start l.starts)) xorbs))

abbrev pub decreases-loop-buffer : goal.decreases-loop-buffer
decreases-loop-buffer g l = l.rows_left
