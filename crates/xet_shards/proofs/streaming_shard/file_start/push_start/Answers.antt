use Rattle.std.proofs.Common.{map, sym, ap, ◌∙◌, ◌++◌}
use Rattle.xet_records.specs.declared.file_structs.rows.FileDataSequenceEntry.{FileDataSequenceEntry}
use Rattle.xet_shards.specs.declared.streaming_shard.file_start.FileStart.{FileStart}
use Rattle.xet_shards.proofs.StreamingShard.MinimalShard.{one_more}
use Rattle.xet_shards.proofs.streaming_shard.file_start.push_start.Goals as goal

pub returns-clause-ok : goal.returns-clause-ok
returns-clause-ok c =
    let segment = c.entry-segment.result in
    let start : FileDataSequenceEntry → FileStart = λ s. record { xorb_hash = s.xorb_hash; chunk_index = s.chunk_index_start } in
    c.in_ok-push.ensures.items ∙ ap (λ ss. c.args.starts.now.items ++ map start ss) (sym (one_more c.args.file.now.segments 0 segment c.entry-segment.ensures))
