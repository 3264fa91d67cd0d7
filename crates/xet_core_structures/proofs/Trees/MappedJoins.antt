-- Shards at the leaves of a tree that are mapped by a function to which agreement and joins pass: the shards that it makes
-- of them join to what it makes of their join.
use Rattle.std.proofs.Common.{ℕ, List, map, subst}
use Rattle.std.specs.Prelude.{Contains}
use Rattle.xet_shards.specs.Content.Joins.{IsJoinOf, AgreePairwise}
use Rattle.xet_shards.specs.Content.SetOperations.{ShardsAgree}
use Rattle.xet_shards.specs.Content.Shard.{Shard, IsShard}
use Rattle.xet_shards.proofs.Content.MappedShards.{unmapped_member}
use Rattle.xet_core_structures.specs.declared.set_operations.MergePlan.{MergePlan}
use Rattle.xet_core_structures.specs.Trees.MergeTrees.{leaves, InputIs, IsMergeOf}
use Rattle.xet_shards.proofs.Read.Zipped.{zipped_with}

pub record PreservesJoins (f : Shard → Shard) : Type 0 where
  pub shards : (s : Shard) → IsShard s → IsShard (f s)
  pub agree : (a b : Shard) → ShardsAgree a b → ShardsAgree (f a) (f b)
  pub join : (shards : List Shard) (c : Shard) → IsJoinOf (Contains shards) c → IsJoinOf (Contains (map f shards)) (f c)

module _ (f : Shard → Shard) (passes : PreservesJoins f) where
  pub mapped_agree : (shards : List Shard) → AgreePairwise (Contains shards) → AgreePairwise (Contains (map f shards))
  mapped_agree shards agree = record {
    shards = λ s member.
        let from = unmapped_member f shards s member in
        subst IsShard from.2 (passes.shards from.0 (agree.shards from.0 from.1));
    pairs = λ s t s_member t_member.
        let one = unmapped_member f shards s s_member in
        let other = unmapped_member f shards t t_member in
        subst (λ p. p) (λ k. ShardsAgree (one.2 k) (other.2 k)) (passes.agree one.0 other.0 (agree.pairs one.0 other.0 one.1 other.1));
  }

  -- a merge of bytes of one kind is one of bytes of another
  pub mapped_merge : (P Q : Shard → List ℕ → Type 0) → ((s : Shard) (bytes : List ℕ) → IsShard s → P s bytes → Q (f s) bytes) → (inputs : List (List ℕ)) (plan : MergePlan) (shards : List Shard) (join : Shard)
      → IsMergeOf P inputs plan shards join → IsMergeOf Q inputs plan (map f shards) (f join)
  mapped_merge P Q follows inputs plan shards join merge = record {
    union = merge.union;
    inputs_are = zipped_with (λ i s. InputIs inputs (P s) i) (λ i s. InputIs inputs (Q s) i) f IsShard (λ i s shard input. (input.0, input.1, follows s input.0 shard input.2)) (leaves plan) shards merge.agree.shards merge.inputs_are;
    agree = mapped_agree shards merge.agree;
    is_join = passes.join shards join merge.is_join;
  }
