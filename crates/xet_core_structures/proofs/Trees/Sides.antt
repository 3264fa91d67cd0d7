-- Both sides of a union in a tree over bytes that hold shards that agree pairwise, under one key.
use Rattle.std.proofs.Common.{◌≡◌, inl, inr, ℕ, List, ◌++◌, sym, subst}
use Rattle.std.specs.List.{AllZip}
use Rattle.std.specs.Prelude.{Contains}
use Rattle.std.proofs.lemmas.List.Elements.{Contains-append_left, Contains-append_right}
use Rattle.xet_base.specs.declared.error.CoreError.{CoreError}
use Rattle.xet_base.specs.declared.merklehash.DataHash.{DataHash}
use Rattle.xet_shards.specs.Content.Joins.{IsJoinOf, AgreePairwise}
use Rattle.xet_shards.specs.Content.SetOperations.{RowsFitU32}
use Rattle.xet_shards.specs.Content.Shard.{Shard}
use Rattle.xet_shards.proofs.Content.AgreeingJoins.{joins_exist, lists_agree, union-of_joins, agree_left, agree_right, fewer_if_more}
use Rattle.xet_core_structures.specs.declared.set_operations.MergePlan.{MergePlan}
use Rattle.xet_core_structures.specs.TwoShards.ByteResults.{keyed_layout, UnitesBytes, BytesRefusal}
use Rattle.xet_core_structures.specs.Records.ShardContents.{HoldsShard}
use Rattle.xet_core_structures.specs.Trees.MergeTrees.{leaves, MergeRefused}
use Rattle.xet_core_structures.proofs.Records.ByteUnions.{held_union, refused_union}
use Rattle.xet_shards.proofs.Read.Zipped.{zipped_parts}

-- over what it means that a shard is at a leaf
module _ (key : DataHash) (IsAt : ℕ → Shard → Type 0) where
  -- the shards at the leaves of one side of a union, each two of which agree, and their join, which has no more rows than that of both sides
  pub record Side (plan : MergePlan) (whole : Shard) : Type 0 where
    pub shards : List Shard
    pub are_at : AllZip IsAt (leaves plan) shards
    pub agree : AgreePairwise (Contains shards)
    pub join : Shard
    pub is_join : IsJoinOf (Contains shards) join
    pub fewer_rows : RowsFitU32 whole → RowsFitU32 join

  -- both sides, and what becomes of bytes that hold their joins
  pub record Sides (left right : MergePlan) (whole : Shard) : Type 0 where
    pub first : Side left whole
    pub second : Side right whole
    pub united : (x y out : List ℕ) → HoldsShard key first.join x → HoldsShard key second.join y → UnitesBytes x y out → (out ≡ keyed_layout whole key) × HoldsShard key whole out
    pub refused : (x y : List ℕ) (e : CoreError) → HoldsShard key first.join x → HoldsShard key second.join y → BytesRefusal x y e → MergeRefused whole e

  sides_with : (left right : MergePlan) (xs ys : List Shard) (whole : Shard) → AllZip IsAt (leaves left) xs → AllZip IsAt (leaves right) ys → AgreePairwise (Contains (xs ++ ys))
      → IsJoinOf (Contains (xs ++ ys)) whole → Sides left right whole
  sides_with left right xs ys whole left_are right_are agree is_join =
      let agree_l = agree_left xs ys agree in
      let agree_r = agree_right xs ys agree in
      let l = joins_exist xs agree_l in
      let r = joins_exist ys agree_r in
      let both_agree = lists_agree xs ys l.0 r.0 l.1 r.1 agree in
      let union = union-of_joins xs ys l.0 r.0 l.1 r.1 agree whole is_join in
      record {
        first = record {
          shards = xs;
          are_at = left_are;
          agree = agree_l;
          join = l.0;
          is_join = l.1;
          fewer_rows = fewer_if_more (Contains xs) (Contains (xs ++ ys)) l.0 whole l.1 is_join (λ s. Contains-append_left xs ys s);
        };
        second = record {
          shards = ys;
          are_at = right_are;
          agree = agree_r;
          join = r.0;
          is_join = r.1;
          fewer_rows = fewer_if_more (Contains ys) (Contains (xs ++ ys)) r.0 whole r.1 is_join (λ s. Contains-append_right xs ys s);
        };
        united = λ x y out x_holds y_holds unites. held_union l.0 r.0 whole key x y x_holds y_holds both_agree union out unites;
        refused = λ x y e x_holds y_holds refusal. refused_union l.0 r.0 whole key x y x_holds y_holds both_agree union e refusal;
      }

  pub sides_of : (left right : MergePlan) (shards : List Shard) (whole : Shard) → AllZip IsAt (leaves left ++ leaves right) shards → AgreePairwise (Contains shards) → IsJoinOf (Contains shards) whole
      → Sides left right whole
  sides_of left right shards whole are agree is_join =
      let parts = zipped_parts IsAt (leaves left) (leaves right) shards are in
      sides_with left right parts.0 parts.1 whole parts.3 parts.4 (subst (λ ss. AgreePairwise (Contains ss)) (sym parts.2) agree) (subst (λ ss. IsJoinOf (Contains ss) whole) (sym parts.2) is_join)

  -- why one side is refused, both are
  pub side_refused : (plan : MergePlan) (whole : Shard) (e : CoreError) (side : Side plan whole) → MergeRefused side.join e → MergeRefused whole e
  side_refused plan whole e side (inl no_memory) = inl no_memory
  side_refused plan whole e side (inr many) = inr (many.0, λ few. many.1 (side.fewer_rows few))
