use Rattle.std.proofs.Common.{sym, ◌∙◌, arith}
use Rattle.std.specs.FinMap.{get}
use Rattle.xet_base.proofs.HashOrder.{hash_cmp-IsTotalOrder, hash_cmp-IsAntisymmetric}
use Rattle.xet_records.specs.FileRecord.{row_count}
use Rattle.xet_records.specs.XorbRecord.{xorb_row_count}
use Rattle.xet_shards.proofs.Content.Joining.{but_found}
use Rattle.xet_shards.proofs.ShardInMemory.Sums.{sub-sum}
use Rattle.xet_shards.proofs.shard_in_memory.MDBInMemoryShard.difference.Goals as goal

pub from_stores-requires : goal.from_stores-requires
from_stores-requires c = record {
  files =
      let fewer = sub-sum hash_cmp-IsTotalOrder hash_cmp-IsAntisymmetric row_count c.in_ok-files.files c.other.inside.files
      (λ q r at. but_found c.self.inside.files (get c.other.inside.files) q r (sym (c.in_ok-files.ensures.ok q) ∙ at)) in
      omega (arith, fewer, c.other.invariant.file_rows, c.other.invariant.few_file_rows);
  xorbs =
      let fewer = sub-sum hash_cmp-IsTotalOrder hash_cmp-IsAntisymmetric xorb_row_count c.in_ok-xorbs.xorbs.xorbs c.other.inside.xorbs.xorbs
      (λ q r at. but_found c.self.inside.xorbs.xorbs (get c.other.inside.xorbs.xorbs) q r (sym (c.in_ok-xorbs.ensures.ok q) ∙ at)) in
      omega (arith, fewer, c.other.invariant.xorb_rows, c.other.invariant.few_xorb_rows);
}
