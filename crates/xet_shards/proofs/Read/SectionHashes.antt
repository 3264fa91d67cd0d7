-- Hashes that ascend, as a walk over neighbours finds it.
use Rattle.std.proofs.Common.{◌≡◌, ℕ, ◌+◌, ◌-◌, ◌<◌, List, length, slice_index_or, arith}
use Rattle.std.specs.List.Sorted.{IsStrictlySortedBy}
use Rattle.std.specs.declared.cmp.Ordering.TheVariants.{Less}
use Rattle.std.proofs.lemmas.Map.Keys.{sorted_from_all_adjacent, Less-from_sorted}
use Rattle.xet_base.specs.declared.merklehash.DataHash.{DataHash}
use Rattle.xet_base.specs.Hash.{hash_cmp}
use Rattle.xet_base.specs.KeyedHash.{no_key}
use Rattle.xet_base.proofs.HashOrder.{hash_cmp-IsTotalOrder}

-- hashes of which each is less than the next ascend
pub adjacent_ascend : (hashes : List DataHash) → ((k : ℕ) (d : DataHash) → k + 1 < length hashes → hash_cmp (slice_index_or hashes k d) (slice_index_or hashes (k + 1) d) ≡ Less)
    → IsStrictlySortedBy hash_cmp hashes
adjacent_ascend hashes each = sorted_from_all_adjacent hash_cmp-IsTotalOrder hashes no_key (λ k below. each k no_key below)

-- and if they ascend, each is
pub ascend_adjacent : (hashes : List DataHash) (n : ℕ) (d : DataHash) → IsStrictlySortedBy hash_cmp hashes → 0 < n → n < length hashes
    → hash_cmp (slice_index_or hashes (n - 1) d) (slice_index_or hashes n d) ≡ Less
ascend_adjacent hashes n d sorted some below = Less-from_sorted hash_cmp hashes (n - 1) n d sorted (omega arith) below
