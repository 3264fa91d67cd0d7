use Rattle.std.proofs.Common.{◌≡◌, ℕ, ◌+◌, ◌<◌, map, slice_index_or}
use Rattle.std.specs.declared.cmp.Ordering.TheVariants.{Less}
use Rattle.xet_core_structures.specs.declared.merklehash.DataHash.{DataHash}
use Rattle.xet_core_structures.specs.Hash.{hash_cmp}
use Rattle.xet_shards.specs.Write.Tables.{hash_in}
use Rattle.shard_bytes.proofs.check.first_out_of_order.Given as goal

abbrev pub invariant-loop-index : goal.invariant-loop-index
invariant-loop-index g l =
    let hashes = map (hash_in g.P.PlacedRecord.kind) l.records in
    (k : ℕ) (d : DataHash) → k + 1 < l.index → hash_cmp (slice_index_or hashes k d) (slice_index_or hashes (k + 1) d) ≡ Less
