use Rattle.std.proofs.Common.{◌≡◌, List}
use Rattle.xet_records.specs.RecordKind.{in_version}
use Rattle.xet_shards.specs.Write.Layout.{if_included}
use Rattle.xet_shards.specs.StreamingShard.MinimalReading.{HasReadViews}
use Rattle.xet_shards.proofs.streaming_shard.minimal_reader.read_views.Given as goal

abbrev pub invariant-loop-buffer : goal.invariant-loop-buffer
invariant-loop-buffer g l =
    (read : List g.row.V.Denot) × HasReadViews (in_version g.R.SectionRecord.kind l.version) g.V.RecordView.shown (g.I.ByteInput.reads l.fn.input l.input) read l.rows_left
    × (l.views.items ≡ if_included l.is_kept read)

abbrev pub decreases-loop-buffer : goal.decreases-loop-buffer
decreases-loop-buffer g l = l.rows_left
