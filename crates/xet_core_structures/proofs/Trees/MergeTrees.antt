-- A tree of unions over bytes that hold shards that agree pairwise, under one key, writes the layout of their join under
-- this key.
use Rattle.std.proofs.Common.{◌≡◌, inl, inr, ℕ, List, Ok, Err, sym, ◌∙◌, subst}
use Rattle.std.specs.List.{AllZip}
use Rattle.std.specs.Prelude.{⊤, Contains, MatchResult}
use Rattle.std.specs.declared.result.Result.{Result}
use Rattle.std.specs.declared.vec.Vec.{Vec}
use Rattle.std.proofs.lemmas.Option.{same_Some, none-some, slice_get_past}
use Rattle.xet_base.specs.declared.error.CoreError.{CoreError}
use Rattle.xet_base.specs.declared.error.CoreError.TheVariants.{OutOfMemory}
use Rattle.xet_base.specs.declared.merklehash.DataHash.{DataHash}
use Rattle.xet_base.specs.KeyedHash.{no_key}
use Rattle.xet_shards.specs.Content.Joins.{IsJoinOf, AgreePairwise}
use Rattle.xet_shards.specs.Content.Shard.{Shard}
use Rattle.xet_shards.specs.Write.WrittenShard.{IsBytesOf, IsBytesWithoutExpiry}
use Rattle.xet_core_structures.specs.declared.set_operations.MergePlan.{MergePlan}
use Rattle.xet_core_structures.specs.TwoShards.ByteResults.{keyed_layout}
use Rattle.xet_core_structures.specs.Records.ShardContents.{HoldsShard}
use Rattle.xet_core_structures.specs.Trees.MergeTrees.{leaves, LeafWrites, LeafRefusal, TreeWrites, TreeRefusal, InputIs, IsMergeUnder, IsMerge, IsMergeOfWritten, MergeRefused}
use Rattle.xet_core_structures.proofs.Records.ByteUnions.{written_held}
use Rattle.xet_shards.proofs.Read.Zipped.{zipped_as}
use Rattle.xet_core_structures.proofs.Trees.UnionTrees.{tree_made, tree_refused as refused}

module _ (inputs : List (List ℕ)) (key : DataHash) where
  -- the input at an index holds a shard under the key
  abbrev HoldsAt : ℕ → Shard → Type 0
  HoldsAt i s = InputIs inputs (HoldsShard key s) i

  -- the inputs at all leaves do
  abbrev AreInputs : MergePlan → List Shard → Type 0
  AreInputs plan shards = AllZip HoldsAt (leaves plan) shards

  leaf_written : (i : ℕ) (s : Shard) (out : List ℕ) → HoldsAt i s → LeafWrites inputs i out → HoldsShard key s out × ⊤
  leaf_written i s out (bytes, at, here) writes = (subst (HoldsShard key s) (same_Some bytes out (sym at ∙ writes)) here, tt)

  leaf_refused : (i : ℕ) (s : Shard) (e : CoreError) → HoldsAt i s → LeafRefusal inputs i e → e ≡ OutOfMemory
  leaf_refused i s e (bytes, at, here) (inl (invalid, past)) = absurd (none-some bytes (sym (slice_get_past inputs i past) ∙ at))
  leaf_refused i s e held (inr (no_memory, within)) = no_memory

  pub tree_refused : (plan : MergePlan) (shards : List Shard) (c : Shard) (e : CoreError) → AreInputs plan shards → AgreePairwise (Contains shards) → IsJoinOf (Contains shards) c
      → TreeRefusal inputs plan e → MergeRefused c e
  tree_refused = refused (LeafWrites inputs) (LeafRefusal inputs) key HoldsAt (λ s out. ⊤) leaf_written (λ s. tt) leaf_refused

  pub keyed_tree : (plan : MergePlan) (shards : List Shard) (c : Shard) (out : List ℕ) → IsMergeUnder key inputs plan shards c → TreeWrites inputs plan out
      → (out ≡ keyed_layout c key) × HoldsShard key c out
  keyed_tree plan shards c out merge writes =
      let found = tree_made (LeafWrites inputs) (LeafRefusal inputs) key HoldsAt (λ s out. ⊤) leaf_written (λ s. tt) plan shards c out merge.inputs_are merge.agree merge.is_join writes in
      (found.2 merge.union, found.0)

-- the bytes of shards, in either version, are such inputs
pub merge_of_written : (inputs : List (List ℕ)) (plan : MergePlan) (shards : List Shard) (c : Shard) → IsMergeOfWritten inputs plan shards c → IsMerge inputs plan shards c
merge_of_written inputs plan shards c merge = record {
  union = merge.union;
  inputs_are = zipped_as (λ i s. InputIs inputs (IsBytesOf s) i) (λ i s. InputIs inputs (HoldsShard no_key s) i)
      (λ i s input. (input.0, input.1, written_held s input.0 input.2)) (leaves plan) shards merge.inputs_are;
  agree = merge.agree;
  is_join = merge.is_join;
}

-- the one byte string, without a key
module _ (inputs : List (List ℕ)) (plan : MergePlan) (shards : List Shard) (c : Shard) (merge : IsMerge inputs plan shards c) where
  pub one_layout : (out : List ℕ) → TreeWrites inputs plan out → IsBytesWithoutExpiry c out
  one_layout out writes =
      let found = keyed_tree inputs no_key plan shards c out merge writes in
      record { shard = found.1.shard; bytes_are = found.0 }

  pub one_refusal : (e : CoreError) → TreeRefusal inputs plan e → MergeRefused c e
  one_refusal e refusal = tree_refused inputs no_key plan shards c e merge.inputs_are merge.agree merge.is_join refusal

  pub one_string : {Z : Type 0} (result : Result (Vec ℕ Z) CoreError) → MatchResult result (λ bytes. TreeWrites inputs plan bytes.items) (TreeRefusal inputs plan)
      → MatchResult result (λ bytes. IsBytesWithoutExpiry c bytes.items) (MergeRefused c)
  one_string (Ok bytes) writes = one_layout bytes.items writes
  one_string (Err e) refusal = one_refusal e refusal
