use Rattle.std.proofs.Common.{length, sym, ap, ◌∙◌}
use Rattle.std.specs.FinMap.{len, len-entries}
use Rattle.xet_shards.specs.ShardInMemory.ChunkLookup.{ShardWithLookup}
use Rattle.xet_shards.proofs.ShardInMemory.Xorbs.{length-shown_entry}
use Rattle.xet_shards.proofs.shard_in_memory.MDBInMemoryShard.num_xorb_entries.Goals as goal

pub returns : goal.returns
returns c =
    c.len.ensures.len ∙ sym (length-shown_entry c.content.result.now.entries) ∙ ap length c.content.ensures.entries
    ∙ sym (len-entries c.self.inside.xorbs.xorbs) ∙ ap (λ (s : ShardWithLookup). len s.content.xorbs) c.self.view_is
