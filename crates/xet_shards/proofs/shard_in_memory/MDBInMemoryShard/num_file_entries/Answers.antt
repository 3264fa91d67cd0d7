use Rattle.std.proofs.Common.{length, sym, ap, ◌∙◌}
use Rattle.std.specs.FinMap.{len, len-entries}
use Rattle.xet_shards.specs.ShardInMemory.ChunkLookup.{ShardWithLookup}
use Rattle.xet_shards.proofs.shard_in_memory.MDBInMemoryShard.num_file_entries.Goals as goal

pub returns : goal.returns
returns c = c.len.ensures.len ∙ ap length c.content.ensures.entries ∙ sym (len-entries c.self.inside.files) ∙ ap (λ (s : ShardWithLookup). len s.content.files) c.self.view_is
