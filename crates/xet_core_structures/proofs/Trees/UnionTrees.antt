-- Trees of unions, whatever their leaves make.
use Rattle.std.proofs.Common.{◌≡◌, ◌⊎◌, inl, inr, ℕ, List, [], ◌∷◌, Ok, Err, refl, sym, subst}
use Rattle.std.specs.List.{AllZip}
use Rattle.std.specs.Prelude.{Contains, MatchResult}
use Rattle.std.specs.declared.result.Result.{Result}
use Rattle.xet_base.specs.declared.error.CoreError.{CoreError}
use Rattle.xet_base.specs.declared.error.CoreError.TheVariants.{OutOfMemory}
use Rattle.xet_base.specs.declared.merklehash.DataHash.{DataHash}
use Rattle.xet_shards.specs.Content.Joins.{IsJoinOf, AgreePairwise}
use Rattle.xet_shards.specs.Content.Shard.{Shard}
use Rattle.xet_shards.proofs.Content.Joins.{join-unique, join-one, follows_parts}
use Rattle.xet_core_structures.specs.declared.set_operations.MergePlan.{MergePlan}
use Rattle.xet_core_structures.specs.declared.set_operations.MergePlan.TheVariants.{Leaf, Both'}
use Rattle.xet_core_structures.specs.TwoShards.ByteResults.{keyed_layout, UnitesBytes, BytesRefusal}
use Rattle.xet_core_structures.specs.Records.ShardContents.{HoldsShard}
use Rattle.xet_core_structures.specs.Trees.MergeTrees.{leaves, HasUnion, TreeMakes, TreeRefuses, MergeRefused}
use Rattle.xet_core_structures.proofs.Trees.Sides.{sides_of, side_refused}

-- `Makes` says what each leaf makes, `Refuses` why one makes nothing
module _ (Makes : ℕ → List ℕ → Type 0) (Refuses : ℕ → CoreError → Type 0) where
  -- both sides of a tree give a part, and so does their union, or it is refused
  pub both_parts : {T : Type 0} (Is : List ℕ → T → Type 0) (left right : MergePlan) (x y : List ℕ) (r : Result T CoreError) → TreeMakes Makes left x → TreeMakes Makes right y
      → MatchResult r (λ part. (bytes : List ℕ) × UnitesBytes x y bytes × Is bytes part) (BytesRefusal x y)
      → MatchResult r
      (λ part. (bytes : List ℕ) × ((x y : List ℕ) × TreeMakes Makes left x × TreeMakes Makes right y × UnitesBytes x y bytes) × Is bytes part)
      (λ e. TreeRefuses Makes Refuses left e
      ⊎ ((x : List ℕ) × TreeMakes Makes left x × (TreeRefuses Makes Refuses right e ⊎ ((y : List ℕ) × TreeMakes Makes right y × BytesRefusal x y e))))
  both_parts Is left right x y (Ok part) x_made y_made (bytes, unites, is) = (bytes, (x, y, x_made, y_made, unites), is)
  both_parts Is left right x y (Err e) x_made y_made refusal = inr (x, x_made, inr (y, y_made, refusal))

  -- an allocation may fail after a tree is done
  pub no_memory_after : ((i : ℕ) (out : List ℕ) → Makes i out → Refuses i OutOfMemory) → (plan : MergePlan) (bytes : List ℕ) → TreeMakes Makes plan bytes → TreeRefuses Makes Refuses plan OutOfMemory
  no_memory_after of_leaf (Leaf i) bytes made = of_leaf i bytes made
  no_memory_after of_leaf (Both' p left q right) bytes (x, y, x_made, y_made, (i, j, c, x_ends, y_ends, have, is)) =
      inr (x, x_made, inr (y, y_made, inr (inr (i, j, x_ends, y_ends, inr (have.same_key, inl (inl refl))))))

  -- what a leaf makes holds the shard that is there; `IsSo` holds of both, as of each layout
  module _ (key : DataHash) (IsAt : ℕ → Shard → Type 0) (IsSo : Shard → List ℕ → Type 0)
      (leaf_made : (i : ℕ) (s : Shard) (out : List ℕ) → IsAt i s → Makes i out → HoldsShard key s out × IsSo s out) (layout_is_so : (s : Shard) → IsSo s (keyed_layout s key)) where
    -- what a tree makes holds the join of its leaves, and is the layout of it unless the tree is a leaf
    pub tree_made : (plan : MergePlan) (shards : List Shard) (c : Shard) (out : List ℕ) → AllZip IsAt (leaves plan) shards → AgreePairwise (Contains shards) → IsJoinOf (Contains shards) c
        → TreeMakes Makes plan out → HoldsShard key c out × IsSo c out × (HasUnion plan → out ≡ keyed_layout c key)
    tree_made (Leaf i) [] c out are agree join made = absurd are
    tree_made (Leaf i) (s ∷ t ∷ ss) c out (here, rest) agree join made = absurd rest
    tree_made (Leaf i) (s ∷ []) c out (here, rest) agree join made =
        let found = leaf_made i s out here made in
        let same = join-unique (Contains (s ∷ [])) s c (join-one s (follows_parts s found.0.shard)) join in
        (subst (λ d. HoldsShard key d out) same found.0, subst (λ d. IsSo d out) same found.1, λ none. absurd none)
    tree_made (Both' p left q right) shards c out are agree join (x, y, x_made, y_made, unites) =
        let both = sides_of key IsAt left right shards c are agree join in
        let l = both.first in
        let r = both.second in
        let x_holds = (tree_made left l.shards l.join x l.are_at l.agree l.is_join x_made).0 in
        let y_holds = (tree_made right r.shards r.join y r.are_at r.agree r.is_join y_made).0 in
        let united = both.united x y out x_holds y_holds unites in
        (united.1, subst (IsSo c) (sym united.0) (layout_is_so c), λ union. united.0)

    -- it refuses only if an allocation fails or the join has too many rows
    module _ (leaf_refused : (i : ℕ) (s : Shard) (e : CoreError) → IsAt i s → Refuses i e → e ≡ OutOfMemory) where
      pub tree_refused : (plan : MergePlan) (shards : List Shard) (c : Shard) (e : CoreError) → AllZip IsAt (leaves plan) shards → AgreePairwise (Contains shards) → IsJoinOf (Contains shards) c
          → TreeRefuses Makes Refuses plan e → MergeRefused c e
      tree_refused (Leaf i) [] c e are agree join refusal = absurd are
      tree_refused (Leaf i) (s ∷ ss) c e (here, rest) agree join refusal = inl (leaf_refused i s e here refusal)
      tree_refused (Both' p left q right) shards c e are agree join (inl refusal) =
          let l = (sides_of key IsAt left right shards c are agree join).first in
          side_refused key IsAt left c e l (tree_refused left l.shards l.join e l.are_at l.agree l.is_join refusal)
      tree_refused (Both' p left q right) shards c e are agree join (inr (x, x_made, inl refusal)) =
          let r = (sides_of key IsAt left right shards c are agree join).second in
          side_refused key IsAt right c e r (tree_refused right r.shards r.join e r.are_at r.agree r.is_join refusal)
      tree_refused (Both' p left q right) shards c e are agree join (inr (x, x_made, inr (y, y_made, refusal))) =
          let both = sides_of key IsAt left right shards c are agree join in
          let l = both.first in
          let r = both.second in
          let x_holds = (tree_made left l.shards l.join x l.are_at l.agree l.is_join x_made).0 in
          let y_holds = (tree_made right r.shards r.join y r.are_at r.agree r.is_join y_made).0 in
          both.refused x y e x_holds y_holds refusal
