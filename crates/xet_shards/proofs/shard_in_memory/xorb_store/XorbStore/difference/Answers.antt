use Rattle.std.proofs.Common.{ap, ◌∙◌}
use Rattle.xet_shards.specs.Steps.ChunkLookupSteps.{XorbsWithLookup}
use Rattle.xet_shards.proofs.Content.Joining.{filled-new}
use Rattle.xet_shards.proofs.shard_in_memory.xorb_store.XorbStore.difference.Goals as goal

pub returns-clause-ok : goal.returns-clause-ok
returns-clause-ok c =
    filled-new c.args.self.now.xorbs c.reserve.new.self.xorbs _ c.args.other.now.xorbs _ c.content-2.ensures.entries c.in_ok-append_missing.ensures.ok
    (ap (λ (t : XorbsWithLookup). t.xorbs) (c.reserve.ensures.same ∙ c.new-rest.ensures))
