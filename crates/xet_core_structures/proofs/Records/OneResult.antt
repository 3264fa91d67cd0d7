-- Two shards, or the bytes of two, have one union and one difference.
use Rattle.std.proofs.Common.{◌≡◌, ℕ, List, sym, ◌∙◌, subst}
use Rattle.std.specs.FinMap.{get, same_map}
use Rattle.xet_base.proofs.HashOrder.{hash_cmp-IsTotalOrder, hash_cmp-IsAntisymmetric}
use Rattle.xet_shards.specs.declared.shard_format.ends.info.MDBShardInfo.{MDBShardInfo}
use Rattle.xet_shards.specs.Content.SetOperations.{IsDifference}
use Rattle.xet_shards.specs.Content.Shard.{Shard}
use Rattle.xet_shards.proofs.Ends.EndsUnique.{only_info}
use Rattle.xet_core_structures.specs.Records.ByteUnion.{IsByteUnion}
use Rattle.xet_core_structures.specs.TwoShards.ByteResults.{key_of, keyed_layout, HaveResult, UnitesBytes}
use Rattle.xet_core_structures.proofs.Records.ShardContents.{held_once}
use Rattle.xet_core_structures.proofs.TwoShards.Results.{files_unique, xorbs_unique}

pub one_union : (a b c d : Shard) → IsByteUnion a b c → IsByteUnion a b d → c ≡ d
one_union a b c d one other =
    let files = same_map hash_cmp-IsTotalOrder hash_cmp-IsAntisymmetric c.files d.files (λ q. files_unique (get a.files q) (get b.files q) (get c.files q) (get d.files q) (one.files q) (other.files q)) in
    let xorbs = same_map hash_cmp-IsTotalOrder hash_cmp-IsAntisymmetric c.xorbs d.xorbs (λ q. xorbs_unique (get a.xorbs q) (get b.xorbs q) (get c.xorbs q) (get d.xorbs q) (one.xorbs q) (other.xorbs q)) in
    λ i. record { files = files i; xorbs = xorbs i }

pub one_difference : (a b c d : Shard) → IsDifference a b c → IsDifference a b d → c ≡ d
one_difference a b c d one other =
    let files = same_map hash_cmp-IsTotalOrder hash_cmp-IsAntisymmetric c.files d.files (λ q. one.files q ∙ sym (other.files q)) in
    let xorbs = same_map hash_cmp-IsTotalOrder hash_cmp-IsAntisymmetric c.xorbs d.xorbs (λ q. one.xorbs q ∙ sym (other.xorbs q)) in
    λ i. record { files = files i; xorbs = xorbs i }

-- of inputs with these headers and footers
module _ (IsResult : Shard → Shard → Shard → Type 0) (unique : (a b c d : Shard) → IsResult a b c → IsResult a b d → c ≡ d) (x y : List ℕ) where
  one_result : (i j : MDBShardInfo) (c d : Shard) → HaveResult IsResult x i y j c → HaveResult IsResult x i y j d → c ≡ d
  one_result i j c d one other =
      let first = held_once x i other.first other.holds_first one.first one.holds_first in
      let second = held_once y j other.second other.holds_second one.second one.holds_second in
      unique one.first one.second c d one.result (subst (λ p. p) (λ k. IsResult (sym first k) (sym second k) d) other.result)

  same_result : (i j k l : MDBShardInfo) (c d : Shard) → i ≡ k → j ≡ l → HaveResult IsResult x i y j c → HaveResult IsResult x k y l d → c ≡ d
  same_result i j k l c d first second one other =
      one_result i j c d one (subst (λ p. p) (λ m. HaveResult IsResult x (sym first m) y (sym second m) d) other)

pub one_string : (x y u v : List ℕ) → UnitesBytes x y u → UnitesBytes x y v → u ≡ v
one_string x y u v (i, j, c, x_ends, y_ends, have, u_is) (k, l, d, x_also, y_also, has, v_is) =
    let first = only_info x i k x_ends x_also in
    let second = only_info y j l y_ends y_also in
    let same = same_result IsByteUnion one_union x y i j k l c d first second have has in
    u_is ∙ (λ m. keyed_layout (same m) (key_of (first m))) ∙ sym v_is
