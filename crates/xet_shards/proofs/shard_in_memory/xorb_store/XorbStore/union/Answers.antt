use Rattle.std.proofs.Common.{ap, ◌∙◌}
use Rattle.std.specs.FinMap.{get}
use Rattle.std.specs.Option.{option_or}
use Rattle.xet_shards.specs.Steps.ChunkLookupSteps.{XorbsWithLookup}
use Rattle.xet_shards.proofs.Content.Joining.{filled-all}
use Rattle.xet_shards.proofs.shard_in_memory.xorb_store.XorbStore.union.Goals as goal

pub returns-clause-ok : goal.returns-clause-ok
returns-clause-ok c = λ q.
    let none = ap (λ (t : XorbsWithLookup). t.xorbs) c.new.ensures in
    filled-all c.new.result.xorbs c.in_ok-joined.joined.xorbs _ c.args.self.now.xorbs _ c.content.ensures.entries c.in_ok-append_missing.ensures.ok none q
    ∙ ap (λ o. option_or o (get c.args.self.now.xorbs q)) (ap (λ (t : XorbsWithLookup). get t.xorbs q) c.in_ok-joined.ensures.ok)
