use Rattle.std.proofs.Common.{sym, ap, ◌∙◌, subst, T}
use Rattle.std.specs.FinMap.{from_sorted, is_sorted}
use Rattle.xet_base.specs.Hash.{hash_cmp}
use Rattle.xet_shards.specs.Content.Shard.{AreFiles}
use Rattle.xet_shards.proofs.ShardInMemory.Clones.{clones_are_equal}
use Rattle.xet_shards.proofs.shard_in_memory.file_store.FileStore.try_clone.Goals as goal

pub invariant_of-result : goal.invariant_of-result
invariant_of-result c =
    let same = sym (clones_are_equal _ _ c.in_ok-clone.ensures.cases) in
    record { sorted = subst (λ es. T (is_sorted hash_cmp es)) same c.self.invariant.sorted; files = subst AreFiles same c.self.invariant.files }

pub returns-clause-ok : goal.returns-clause-ok
returns-clause-ok c = ap (from_sorted {R = hash_cmp}) (clones_are_equal _ _ c.in_ok-clone.ensures.cases) ∙ c.self.view_is
