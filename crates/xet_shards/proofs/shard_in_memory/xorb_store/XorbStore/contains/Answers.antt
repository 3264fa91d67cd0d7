use Rattle.std.proofs.Common.{ap, arith}
use Rattle.std.specs.FinMap.{get}
use Rattle.xet_shards.specs.Steps.ChunkLookupSteps.{XorbsWithLookup}
use Rattle.xet_shards.proofs.ShardInMemory.Xorbs.{found_shown}
use Rattle.xet_shards.proofs.shard_in_memory.xorb_store.XorbStore.contains.Goals as goal

-- the `Rc` is present exactly if its xorb is
pub returns : goal.returns
returns c =
    let q = c.args.xorb_hash.now in
    grind (arith, c.contains_key.ensures, found_shown c.self.inside.content.entries q c.self.invariant.sorted, ap (λ (t : XorbsWithLookup). get t.xorbs q) c.self.view_is)
