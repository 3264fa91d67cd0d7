use Rattle.std.proofs.Common.{◌∙◌}
use Rattle.xet_shards.proofs.StreamingShard.FileStarts.{search_finds}
use Rattle.xet_shards.proofs.streaming_shard.file_start.is_start.Goals as goal

pub returns : goal.returns
returns c = c.is_ok.ensures.value ∙ search_finds c.args.starts.now c.args.chunk.now c.binary_search.result c.requires c.binary_search.ensures.bound c.binary_search.ensures.position
