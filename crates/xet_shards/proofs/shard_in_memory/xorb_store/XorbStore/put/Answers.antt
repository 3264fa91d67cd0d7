use Rattle.std.proofs.Common.{ap, ◌∙◌}
use Rattle.std.specs.FinMap.{get, insert, get-empty}
use Rattle.xet_base.specs.Hash.{hash_cmp}
use Rattle.xet_shards.specs.Content.Shard.{xorb_hash_of}
use Rattle.xet_shards.specs.Steps.ChunkLookupSteps.{XorbsWithLookup}
use Rattle.xet_shards.proofs.Content.Joining.{filled-all, inserts_then_fills}
use Rattle.xet_shards.proofs.shard_in_memory.xorb_store.XorbStore.put.Goals as goal

pub append-requires-2-clause-absent : goal.append-requires-2-clause-absent
append-requires-2-clause-absent c = ap (λ (t : XorbsWithLookup). get t.xorbs (xorb_hash_of c.args.xorb.value)) c.new-rebuilt.ensures ∙ get-empty hash_cmp _

pub returns-clause-ok : goal.returns-clause-ok
returns-clause-ok c =
    let r = c.args.xorb.value in
    let one = c.in_ok-append.ensures.ok ∙ ap (λ (t : XorbsWithLookup). insert t.xorbs (xorb_hash_of r) r) c.new-rebuilt.ensures in
    let joined = filled-all c.new.result.xorbs c.append-2.new.self.xorbs _ c.args.self.now.xorbs _ c.content.ensures.entries c.in_ok-append_missing.ensures.ok
    (ap (λ (t : XorbsWithLookup). t.xorbs) c.new.ensures) in
    inserts_then_fills c.append-2.new.self.xorbs c.append_missing-2.new.self.xorbs c.args.self.now.xorbs (xorb_hash_of r) r one joined
