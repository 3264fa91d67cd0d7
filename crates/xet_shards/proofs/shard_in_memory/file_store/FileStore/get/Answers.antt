use Rattle.std.proofs.Common.{ap, ◌∙◌}
use Rattle.std.specs.FinMap.{get}
use Rattle.std.proofs.lemmas.Map.Entries.{All-lookup}
use Rattle.xet_base.proofs.HashOrder.{hash_cmp-IsTotalOrder, hash_cmp-IsAntisymmetric}
use Rattle.xet_records.specs.FileRecord.{IsWellFormed}
use Rattle.xet_shards.proofs.Content.Maps.{finds_in_map, IfSome-lent}
use Rattle.xet_shards.proofs.shard_in_memory.file_store.FileStore.get.Goals as goal

pub returns-clause-value : goal.returns-clause-value
returns-clause-value c =
    c.get.ensures.value ∙ finds_in_map hash_cmp-IsTotalOrder hash_cmp-IsAntisymmetric c.self.inside.content.entries c.args.file_hash.now c.self.invariant.sorted
    ∙ ap (λ m. get m c.args.file_hash.now) c.self.view_is

pub returns-clause-well_formed : goal.returns-clause-well_formed
returns-clause-well_formed c = IfSome-lent IsWellFormed c.get.result _ c.get.ensures.value (All-lookup IsWellFormed _ _ c.self.invariant.files.well_formed)
