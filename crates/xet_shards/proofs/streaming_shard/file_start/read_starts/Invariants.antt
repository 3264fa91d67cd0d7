use Rattle.std.proofs.Common.{◌≡◌, List, flat_map}
use Rattle.xet_records.specs.declared.file_structs.MDBFileInfo.{MDBFileInfo}
use Rattle.xet_records.specs.FileRecord.{file_records_in}
use Rattle.xet_shards.specs.StreamingShard.MinimalShard.{start_of_file}
use Rattle.xet_shards.specs.StreamingShard.MinimalReading.{HasReadViews}
use Rattle.xet_shards.proofs.streaming_shard.file_start.read_starts.Given as goal

abbrev pub invariant-loop-buffer : goal.invariant-loop-buffer
invariant-loop-buffer g l =
    (files : List MDBFileInfo) × HasReadViews (file_records_in l.version) (λ r. r) (g.I.ByteInput.reads l.fn.input l.input) files l.rows_left
    × (l.starts.items ≡ flat_map start_of_file files)

abbrev pub decreases-loop-buffer : goal.decreases-loop-buffer
decreases-loop-buffer g l = l.rows_left
