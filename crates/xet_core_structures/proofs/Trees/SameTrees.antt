-- Lists that have the same shards have the same join, so trees over them write the same bytes.
use Rattle.std.proofs.Common.{◌≡◌, ◌↔◌, ℕ, List, Option, Some, sym, ◌∙◌}
use Rattle.std.specs.List.{AllZip}
use Rattle.std.specs.Prelude.{Contains}
use Rattle.std.specs.FinMap.{get}
use Rattle.xet_base.specs.declared.merklehash.DataHash.{DataHash}
use Rattle.xet_shards.specs.Content.Joins.{segments_under, part_under, HasWhatAnyHas, IsJoinOf, AgreePairwise}
use Rattle.xet_shards.specs.Content.Shard.{Shard}
use Rattle.xet_shards.proofs.Content.AgreeingJoins.{joins_exist}
use Rattle.xet_core_structures.specs.declared.set_operations.MergePlan.{MergePlan}
use Rattle.xet_core_structures.specs.Records.ShardContents.{HoldsShard}
use Rattle.xet_core_structures.specs.Trees.MergeTrees.{leaves, HasUnion, InputIs, TreeWrites}
use Rattle.xet_core_structures.proofs.Trees.MergeTrees.{keyed_tree}

module _ (P Q : Shard → Type 0) (to : (s : Shard) → P s → Q s) (from : (s : Shard) → Q s → P s) (c : Shard) where
  has_of_same : {X : Type 0} (part : Shard → Option X) → HasWhatAnyHas P c part → HasWhatAnyHas Q c part
  has_of_same part has = λ x. (
    λ at. let found = (has x).0 at in (found.0, to found.0 found.1, found.2),
    λ (found : (s : Shard) × Q s × (part s ≡ Some x)). (has x).1 (found.0, from found.0 found.1, found.2),
  )

  pub join_of_same : IsJoinOf P c → IsJoinOf Q c
  join_of_same join = record {
    xorbs = λ q. has_of_same (λ s. get s.xorbs q) (join.xorbs q);
    segments = λ q. has_of_same (segments_under q) (join.segments q);
    parts = λ part q. has_of_same (part_under part q) (join.parts part q);
    follows = join.follows;
  }

pub same_trees : (inputs others : List (List ℕ)) → (plan other : MergePlan) → (key : DataHash) → (xs ys : List Shard) → (x y : List ℕ) → HasUnion plan → HasUnion other
    → AllZip (λ i s. InputIs inputs (HoldsShard key s) i) (leaves plan) xs → AllZip (λ i s. InputIs others (HoldsShard key s) i) (leaves other) ys
    → AgreePairwise (Contains xs) → ((s : Shard) → Contains xs s ↔ Contains ys s) → TreeWrites inputs plan x → TreeWrites others other y → x ≡ y
same_trees inputs others plan other key xs ys x y union also hold these agree same first second =
    let join = joins_exist xs agree in
    (keyed_tree inputs key plan xs join.0 x (record { union = union; inputs_are = hold; agree = agree; is_join = join.1 }) first).0
    ∙ sym (keyed_tree others key other ys join.0 y (record {
      union = also;
      inputs_are = these;
      agree = record {
        shards = λ s has. agree.shards s ((same s).1 has);
        pairs = λ s t one two. agree.pairs s t ((same s).1 one) ((same t).1 two);
      };
      is_join = join_of_same (Contains xs) (Contains ys) (λ s. (same s).0) (λ s. (same s).1) join.0 join.1;
    }) second).0
