use Rattle.std.proofs.Common.{ap, ◌∙◌, is_some}
use Rattle.std.specs.FinMap.{get}
use Rattle.xet_base.proofs.HashOrder.{hash_cmp-IsTotalOrder, hash_cmp-IsAntisymmetric}
use Rattle.xet_shards.proofs.Content.Maps.{finds_in_map}
use Rattle.xet_shards.proofs.shard_in_memory.file_store.FileStore.contains.Goals as goal

pub returns : goal.returns
returns c =
    c.contains_key.ensures
    ∙ ap is_some (finds_in_map hash_cmp-IsTotalOrder hash_cmp-IsAntisymmetric c.self.inside.content.entries c.args.file_hash.now c.self.invariant.sorted ∙ ap (λ m. get m c.args.file_hash.now) c.self.view_is)
