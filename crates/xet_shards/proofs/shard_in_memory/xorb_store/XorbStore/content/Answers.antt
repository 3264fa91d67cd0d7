use Rattle.std.proofs.Common.{sym, ap, ◌∙◌}
use Rattle.std.specs.FinMap.{entries, entries-from_sorted}
use Rattle.xet_base.specs.Hash.{hash_cmp}
use Rattle.xet_shards.specs.Steps.ChunkLookupSteps.{XorbsWithLookup}
use Rattle.xet_shards.proofs.shard_in_memory.xorb_store.XorbStore.content.Goals as goal

pub returns-clause-entries : goal.returns-clause-entries
returns-clause-entries c = sym (entries-from_sorted hash_cmp _ c.self.invariant.sorted) ∙ ap (λ (t : XorbsWithLookup). entries t.xorbs) c.self.view_is
