use Rattle.std.proofs.Common.{ap, ◌∙◌}
use Rattle.std.specs.FinMap.{from_sorted}
use Rattle.xet_base.specs.Hash.{hash_cmp}
use Rattle.xet_base.proofs.HashOrder.{hash_cmp-IsTotalOrder, hash_cmp-IsAntisymmetric}
use Rattle.xet_shards.proofs.Content.Maps.{from_sorted-nil}
use Rattle.xet_shards.proofs.shard_in_memory.file_store.FileStore.new.Goals as goal

pub returns : goal.returns
returns c = ap (from_sorted {R = hash_cmp}) c.new.ensures.empty ∙ from_sorted-nil hash_cmp-IsTotalOrder hash_cmp-IsAntisymmetric
