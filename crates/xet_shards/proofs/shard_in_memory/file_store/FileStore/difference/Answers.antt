use Rattle.xet_shards.proofs.Content.Joining.{filled-new}
use Rattle.xet_shards.proofs.shard_in_memory.file_store.FileStore.difference.Goals as goal

pub returns-clause-ok : goal.returns-clause-ok
returns-clause-ok c =
    filled-new c.args.self.now c.new-rest.result _ c.args.other.now _ c.content.ensures.entries c.in_ok-append_missing.ensures.ok c.new-rest.ensures
