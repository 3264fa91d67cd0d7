use Rattle.std.proofs.Common.{ap, ◌∙◌}
use Rattle.std.specs.Prelude.{unwrap_or}
use Rattle.std.specs.FinMap.{get}
use Rattle.std.proofs.lemmas.Map.Entries.{All-lookup}
use Rattle.xet_base.proofs.HashOrder.{hash_cmp-IsTotalOrder, hash_cmp-IsAntisymmetric}
use Rattle.xet_records.specs.FileRecord.{row_count, IsWellFormed}
use Rattle.xet_shards.proofs.Content.Maps.{finds_in_map, IfSome-lent, lent_map}
use Rattle.xet_shards.proofs.shard_in_memory.file_store.FileStore.rows_of.Goals as goal

pub row_count-requires : goal.row_count-requires
row_count-requires c = IfSome-lent IsWellFormed c.get.result _ c.get.ensures.value (All-lookup IsWellFormed _ _ c.self.invariant.files.well_formed)

pub returns : goal.returns
returns c =
    let q = c.args.file_hash.now in
    let file = c.get.ensures.value ∙ finds_in_map hash_cmp-IsTotalOrder hash_cmp-IsAntisymmetric c.self.inside.content.entries q c.self.invariant.sorted ∙ ap (λ m. get m q) c.self.view_is in
    c.row_count.ensures ∙ ap (λ n. unwrap_or n 0) (lent_map row_count c.get.result _ file)
